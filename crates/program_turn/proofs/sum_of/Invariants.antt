-- The sum of the bytes so far.
use Rattle.std.proofs.Common.{◌≡◌, ◌<◌, take}
use Rattle.program_turn.specs.State.{sum_from}
use Rattle.program_turn.proofs.sum_of.Given as goal

abbrev pub invariant-loop-b : goal.invariant-loop-b
invariant-loop-b l = (l.sum < 4294967291) × (l.sum ≡ sum_from 0 (take l.b-index l.list))
