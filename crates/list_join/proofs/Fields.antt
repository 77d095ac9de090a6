-- The records of the joined list: the first list's as they are, then the second's that are kept, renamed. Assumes nothing.
use Prim.Native.Nat.{ℕ, ◌+◌, ◌*◌, ◌-◌, ◌%◌, ◌<◌}
use mathlib.Core.Path.{◌≡◌, sym, ap, ◌∙◌}
use mathlib.Core.Bool.{false}
use mathlib.Core.List.{List, ◌++◌}
use mathlib.Core.Logic.{◌⊎◌, inl, inr}
use native.Mathlib.Omega.{arith}
use native.Mathlib.Decide.{dec_lt}
use lib.ListN.{length, get_or, length-append, get_or-append}
use lib.Seq.{get_or-append-add}
use Rattle.list.specs.List.{records, byte_of, word_of, is_edge, is_start, is_accept, from, target}
use Rattle.list.specs.Automaton.{edge}
use Rattle.list.proofs.Copied.{Copies, copy-byte, copy-edge, copy_start, copy-accept, copy-taken, copy-from, copy-target}
use Rattle.list_join.specs.Join.{naming, new_from, new_target, renamed_record, spare, added, kept, joined}
use Rattle.list_join.specs.declared.Naming.{Naming}
use Rattle.list_join.proofs.Places.{added-length, added-at, added-from}

-- record j of J is record i of L: the bytes are the same
abbrev pub SameRecord : List ℕ → ℕ → List ℕ → ℕ → Type 0
SameRecord J j L i = (k : ℕ) → k < 8 → byte_of J j k ≡ byte_of L i k

-- record j of J is record i of B, renamed
abbrev pub NewRecord : List ℕ → ℕ → Naming → List ℕ → ℕ → Type 0
NewRecord J j n B i = (k : ℕ) → k < 8 → byte_of J j k ≡ get_or (renamed_record n B i) k 0

two : (L : List ℕ) (i k : ℕ) → word_of L i k ≡ byte_of L i k + 256 * byte_of L i (k + 1)
two L i k = let e : 8 * i + k + 1 ≡ 8 * i + (k + 1) = omega arith in rw e

pub same_word : (J : List ℕ) (j : ℕ) (L : List ℕ) (i k : ℕ) → SameRecord J j L i → k + 1 < 8 → word_of J j k ≡ word_of L i k
same_word J j L i k r l = two J j k ∙ rw (r k (omega arith), r (k + 1) l) (sym (two L i k))

module _ (J : List ℕ) (j : ℕ) (n : Naming) (B : List ℕ) (i : ℕ) (r : NewRecord J j n B i) where
  copied : Copies J j B i (new_from n B i) (new_target n B i)
  unfolding renamed_record
  copied k h = r k h

  pub new-byte : (k : ℕ) → k < 4 → byte_of J j k ≡ byte_of B i k
  new-byte = copy-byte J j B i (new_from n B i) (new_target n B i) copied

  pub new-edge : is_edge J j ≡ is_edge B i
  new-edge = copy-edge J j B i (new_from n B i) (new_target n B i) copied

  pub new-start : is_start J j ≡ is_start B i
  new-start = copy_start J j B i (new_from n B i) (new_target n B i) copied

  pub new-accept : is_accept J j ≡ is_accept B i
  new-accept = copy-accept J j B i (new_from n B i) (new_target n B i) copied

  pub new-taken : (c : ℕ) → edge J c j ≡ edge B c i
  new-taken = copy-taken J j B i (new_from n B i) (new_target n B i) copied

  pub new-from : new_from n B i < 65536 → from J j ≡ new_from n B i
  new-from = copy-from J j B i (new_from n B i) (new_target n B i) copied

  pub new-target : new_target n B i < 65536 → target J j ≡ new_target n B i
  new-target = copy-target J j B i (new_from n B i) (new_target n B i) copied

module _ (A B : List ℕ) (whole : length A % 8 ≡ 0) where
  n : Naming
  n = naming A B

  A-long : length A ≡ 8 * records A
  A-long = omega (arith, whole)

  pub joined_length : length (joined A B) ≡ length A + 8 * kept (naming A B) B (records B)
  unfolding joined
  joined_length = length-append A (added (naming A B) B (records B)) ∙ ap (λ (x : ℕ). length A + x) (added-length (naming A B) B (records B))

  pub joined-records : records (joined A B) ≡ records A + kept (naming A B) B (records B)
  joined-records = rw joined_length (omega (arith, whole))

  -- a record of the first list stays where it is
  pub joined-old : (i : ℕ) → i < records A → SameRecord (joined A B) i A i
  unfolding joined
  joined-old i h k l = get_or-append A (added (naming A B) B (records B)) 0 (8 * i + k) (omega arith)

  -- one of the second, where it is kept, comes behind them
  pub joined-new : (i : ℕ) → i < records B → spare (naming A B) B i ≡ false
      → (records A + kept (naming A B) B i < records (joined A B)) × NewRecord (joined A B) (records A + kept (naming A B) B i) (naming A B) B i
  unfolding joined
  joined-new i h e =
      let w = added-at (naming A B) B (records B) i h e in (
        rw joined-records (omega (arith, w.0)),
        λ k l.
            let p : 8 * (records A + kept (naming A B) B i) + k ≡ length A + (8 * kept (naming A B) B i + k) = omega (arith, whole) in
            ap (λ (x : ℕ). get_or (A ++ added (naming A B) B (records B)) x 0) p ∙ get_or-append-add A (added (naming A B) B (records B)) (8 * kept (naming A B) B i + k) 0 ∙ w.1 k l,
      )

  -- and there is no other
  pub joined-from : (j : ℕ) → j < records (joined A B) → (j < records A) ⊎ ((i : ℕ) × (i < records B) × (spare (naming A B) B i ≡ false) × (j ≡ records A + kept (naming A B) B i))
  joined-from j h =
      elim (dec_lt j (records A)) [
        | yes l ↦ inl l
        | no g ↦ inr (found (j - records A, omega arith, omega (arith, joined-records, h)))
      ]
    where
      found : (d : ℕ) × (j ≡ records A + d) × (d < kept (naming A B) B (records B)) → (i : ℕ) × (i < records B) × (spare (naming A B) B i ≡ false) × (j ≡ records A + kept (naming A B) B i)
      found w = let v = added-from (naming A B) B (records B) w.0 w.2 in (v.0, v.1, v.2, w.1 ∙ ap (λ (x : ℕ). records A + x) (sym v.3))
