-- Each promise of the public functions determines the outcome: two outcomes that meet it are equal. Assumes nothing.
use mathlib.Core.Path.{◌≡◌, sym, ◌∙◌}
use mathlib.Core.List.{List}
use Prim.Native.Nat.{ℕ}
use lib.ListN.{take, drop}
use Rattle.numbers.specs.Number.{num, digits, placed}

pub unique-number : (r q : ℕ) (b : List ℕ) (at n : ℕ) → r ≡ num 8 (take n (drop at b)) → q ≡ num 8 (take n (drop at b)) → r ≡ q
unique-number r q b at n e f = e ∙ sym f

pub unique-put-number : (r q b : List ℕ) (at n v : ℕ) → r ≡ placed b at (digits 8 n v) → q ≡ placed b at (digits 8 n v) → r ≡ q
unique-put-number r q b at n v e f = e ∙ sym f
