use Rattle.std.proofs.Common.{◌≡◌, ℕ, ◌≤◌, true, List, ◌∷◌, ◌++◌, drop}
use Rattle.text_marks.specs.inner.Marks.{without}
use Rattle.text_marks.proofs.class_end.Given as goal

abbrev pub invariant-loop-next : goal.invariant-loop-next
invariant-loop-next l = (l.at ≤ l.next) × ((u y : List ℕ) → without 93 u ≡ true → drop l.at l.text ≡ u ++ (93 ∷ y) → (v : List ℕ) × (without 93 v ≡ true) × (drop l.next l.text ≡ v ++ (93 ∷ y)))
