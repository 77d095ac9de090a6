-- The least place met so far. Assumes nothing.
use Rattle.std.proofs.Common.{◌≡◌, ◌+◌, get_or}
use Rattle.index_blocks.specs.inner.Ranges.{hot, met}
use Rattle.index_blocks.proofs.first_in.Given as goal

abbrev pub invariant-loop-i : goal.invariant-loop-i
invariant-loop-i l = l.f ≡ met l.i (λ j. hot l.a l.m l.b l.n (get_or l.piece (l.at + j) 0))
