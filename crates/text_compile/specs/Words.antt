-- Compiling in words: when each refusal is given, its place, and what is answered and left.
use Rattle.std.specs.Prelude.{ℕ, ◌≡◌, true, false, List, ◌++◌, ◌↔◌, length, drop}
use Rattle.text.specs.Grammar.{Text, Bytes, Fits, TooDeep}
use Rattle.text.specs.Records.{list_of, too_big}
use Rattle.text_compile.specs.declared.Compiled.{Compiled}
pub use Rattle.text_compile.specs.Compile.{Reading}
use Rattle.text_compile.specs.Compile.{FirstBad, Compiles}

-- the text T under the signature g, with the lent list A, is answered r and leaves B
pub record CompiledSaid (T : List ℕ) (g : ℕ) (A : List ℕ) (r : Compiled) (B : List ℕ) : Type 0 where
  -- 20 exactly when a seventeenth bracket opens inside the others, before any place where the text is bad, or at all
  pub deep : (r.refusal ≡ 20) ↔ TooDeep T
  -- 19 exactly when it is not too deep and does not fit, with the first place where no continuation fits; else the place is 0
  pub bad : (r.refusal ≡ 19) ↔ ((TooDeep T → ⊥) × (Fits T → ⊥))
  pub place : r.refusal ≡ 19 → FirstBad T r.place
  pub placeless : (r.refusal ≡ 19 → ⊥) → r.place ≡ 0
  -- 21 exactly when it fits, is not too deep, and passes the limits or the lent list
  pub big : (r.refusal ≡ 21) ↔ ((TooDeep T → ⊥) × ((x : Text) × Reading T x × (too_big (length A) x g ≡ true)))
  -- else its length is answered, its list stands in the front, and later bytes stay
  pub wrote : (x : Text) → Reading T x → (TooDeep T → ⊥) → too_big (length A) x g ≡ false
      → (r.refusal ≡ 0) × (r.length ≡ length (list_of x g)) × (B ≡ list_of x g ++ drop (length (list_of x g)) A)
  -- a refusal leaves the list, and answers no length
  pub stays : (r.refusal ≡ 0 → ⊥) → (B ≡ A) × (r.length ≡ 0)

abbrev pub CompileExactly : Type 0
CompileExactly = (T : List ℕ) (g : ℕ) (A : List ℕ) (r : Compiled) (B : List ℕ) → Bytes T → Compiles T g A r B → CompiledSaid T g A r B
