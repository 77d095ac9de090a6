use Rattle.std.proofs.Common.{◌≡◌, ℕ, ◌<◌, length, get_or}
use Rattle.std.specs.Int.Bits.{bit_or}
use Rattle.sets.proofs.Set.union.Given as goal

abbrev pub invariant-loop-i : goal.invariant-loop-i
invariant-loop-i g l = (length l.words ≡ g.row.N) × ((j : ℕ) → j < l.i → get_or l.words j 0 ≡ bit_or (get_or l.a j 0) (get_or l.b j 0))
