-- What is left of the list can still be larger.
use Rattle.std.proofs.Common.{◌≡◌, drop}
use Rattle.std.specs.Prelude.{max}
use Rattle.table.specs.Table.{largest}
use Rattle.table.proofs.largest.Given as goal

abbrev pub invariant-loop-x : goal.invariant-loop-x
invariant-loop-x l = max l.m (largest (drop l.x-index l.b)) ≡ largest l.b
