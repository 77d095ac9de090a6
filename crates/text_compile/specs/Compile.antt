-- From signature text to a list: what is answered, and the lent list after it.
use Rattle.std.specs.Prelude.{ℕ, suc, ◌<◌, ◌≡◌, true, false, List, ◌++◌, ◌⊎◌, length, take, drop}
use Rattle.text.specs.Grammar.{Text, text_reads, ok_body, Fits, Viable, TooDeep}
use Rattle.text.specs.Records.{list_of, too_big}
use Rattle.text_compile.specs.declared.Compiled.{Compiled}

-- ---- compiling

-- the text fits, and this is its reading
abbrev pub Reading : List ℕ → Text → Type 0
Reading T x = (ok_body x.body ≡ true) × (text_reads x ≡ T)

-- the first place where no continuation fits, or the end of a text cut short
abbrev pub FirstBad : List ℕ → ℕ → Type 0
FirstBad T p = Viable (take p T) × (((p ≡ length T) × (Fits T → ⊥)) ⊎ ((p < length T) × (Viable (take (suc p) T) → ⊥)))

-- a refusal or 0, the place of 19, and the list's length
abbrev pub answer : ℕ → ℕ → ℕ → Compiled
answer n p l = record { refusal = n; place = p; length = l }

-- the text T under the signature g, with the lent list A, is answered r and leaves B
pub record Compiles (T : List ℕ) (g : ℕ) (A : List ℕ) (r : Compiled) (B : List ℕ) : Type 0 where
  -- 20 where a seventeenth bracket opens inside the others, before any place where the text is bad, or at all
  pub deep : TooDeep T → (r ≡ answer 20 0 0) × (B ≡ A)
  -- else 19 where it does not fit, with the first place where no continuation fits
  pub bad : (TooDeep T → ⊥) → (Fits T → ⊥) → (r ≡ answer 19 r.place 0) × FirstBad T r.place × (B ≡ A)
  -- else 21 where its one reading passes the limits or the lent list
  pub big : (TooDeep T → ⊥) → (x : Text) → Reading T x → too_big (length A) x g ≡ true → (r ≡ answer 21 0 0) × (B ≡ A)
  -- else the length of the reading's list, which stands in the front; later bytes stay
  pub good : (TooDeep T → ⊥) → (x : Text) → Reading T x → too_big (length A) x g ≡ false
      → (r ≡ answer 0 0 (length (list_of x g))) × (B ≡ list_of x g ++ drop (length (list_of x g)) A)
