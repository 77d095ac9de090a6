-- `too_long` compares the piece with what is left up to the largest offset. Assumes nothing.
use borrow.Author.Rules.{rules}
use Prim.Native.Nat.{ℕ, ◌+◌, ◌-◌, ◌≤◌}
use mathlib.Core.Path.{◌≡◌, sym, ◌∙◌}
use native.Mathlib.Omega.{arith}
use native.Mathlib.Decide.{dec_lt}
use lib.Dec.{ltb}
use borrow.Author.Tests.{lt-ltb, le-ltb}
use Rattle.feed.proofs.too_long.Statement.{statement}
use Rattle.feed.proofs.too_long.Tie as tie

-- what is left is too little exactly where the sum is too much
left-over : (most k n : ℕ) → k ≤ most → ltb (most - k) n ≡ ltb most (k + n)
left-over most k n h =
    elim (dec_lt most (k + n)) [
      | yes l ↦ lt-ltb (most - k) n (omega (arith, h, l)) ∙ sym (lt-ltb most (k + n) l)
      | no l ↦ le-ltb (most - k) n (omega (arith, h, l)) ∙ sym (le-ltb most (k + n) (omega (arith, l)))
    ]

sub-result : tie.Need-overflow_sub-result
sub-result c = search rules

returns : tie.Need-returns
returns c = left-over _ _ _ c.requires

pub too_long_spec : {M : Type 1} → statement M
too_long_spec = tie.close (tie.spec sub-result returns)
