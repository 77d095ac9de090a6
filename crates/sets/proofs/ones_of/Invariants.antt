-- The ones of the words read so far. Assumes nothing.
use Rattle.std.proofs.Common.{◌≡◌, ◌*◌, take}
use Rattle.numbers.specs.Number.{num}
use Rattle.sets.specs.Set.{size}
use Rattle.sets.proofs.ones_of.Given as goal

abbrev pub invariant-loop-x : goal.invariant-loop-x
invariant-loop-x l = l.n ≡ size (64 * l.x-index) (num 64 (take l.x-index l.w))
