-- Any two outcomes that a public function's promise allows are equal; the working list that `classes_of` is lent aside, of which the length alone is promised. Assumes nothing.
use Prim.Native.Nat.{ℕ, suc, ◌-◌, ◌≤◌}
use mathlib.Core.Path.{◌≡◌, sym, ◌∙◌}
use mathlib.Core.List.{List, ◌++◌}
use native.Mathlib.Omega.{arith}
use native.Mathlib.Nat.{lt_of_not-le}
use native.Mathlib.Decide.{dec_lt}
use lib.ListN.{length, get_or, take, replicate}
use lib.Seq.{ext_get_or}
use lib.Dec.{eqb}
use Rattle.rules.specs.Scan.{first}
use Rattle.table.specs.Table.{byte_values}
use Rattle.table_classes.specs.inner.Loops.{Numbered}

pub unique-clear : (r q b : List ℕ) (from : ℕ) → r ≡ take from b ++ replicate (length b - from) 0 → q ≡ take from b ++ replicate (length b - from) 0 → r ≡ q
unique-clear r q b from e f = e ∙ sym f

pub unique-lowest-of : (C : List ℕ) (q x y : ℕ) → x ≡ first byte_values (λ c. eqb (get_or C c 0) q) → y ≡ first byte_values (λ c. eqb (get_or C c 0) q) → x ≡ y
unique-lowest-of C q x y e f = e ∙ sym f

pub unique-classes-of : (L C W C₁ W₁ C₂ W₂ : List ℕ) (k₁ k₂ : ℕ) → Numbered L C W C₁ W₁ k₁ → Numbered L C W C₂ W₂ k₂ → (k₁ ≡ k₂) × (C₁ ≡ C₂) × (length W₁ ≡ length W₂)
unique-classes-of L C W C₁ W₁ C₂ W₂ k₁ k₂ a b = (
  a.total ∙ sym b.total,
  ext_get_or 0 C₁ C₂ (a.long ∙ sym b.long)
      (λ c l. elim (dec_lt c byte_values) [
        | yes k ↦ a.numbers c k ∙ sym (b.numbers c k)
        | no g ↦ (let h : byte_values ≤ c = omega (arith, lt_of_not-le (λ (k : suc c ≤ byte_values). g k)) in a.zeros c h ∙ sym (b.zeros c h))
      ]),
  a.rows_long ∙ sym b.rows_long,
)
