use Rattle.std.proofs.Common.{◌≡◌, ℕ, ◌≤◌, true, false, List, ◌∷◌, ◌++◌, drop}
use Rattle.text.specs.Grammar.{all_digits, number_from, is_digit}
use Rattle.text_marks.proofs.digits.Given as goal

abbrev pub invariant-loop-next : goal.invariant-loop-next
invariant-loop-next l =
    (l.at ≤ l.next) × (l.value ≤ 4000)
    × ((ds : List ℕ) (e : ℕ) (y : List ℕ) → all_digits ds ≡ true → number_from 0 ds ≤ 300 → is_digit e ≡ false → drop l.at l.text ≡ ds ++ (e ∷ y)
    → (dt : List ℕ) × (all_digits dt ≡ true) × (number_from 0 ds ≡ number_from l.value dt) × (drop l.next l.text ≡ dt ++ (e ∷ y)))
