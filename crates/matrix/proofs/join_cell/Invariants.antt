-- The bytes passed are joined where they stand.
use Rattle.std.proofs.Common.{◌+◌, get_or}
use Rattle.numbers.proofs.Laws.{Small}
use Rattle.matrix.proofs.Joining.{Joins}
use Rattle.matrix.proofs.join_cell.Given as goal

abbrev pub invariant-loop-i : goal.invariant-loop-i
invariant-loop-i l = Joins (λ j. get_or l.matrix (l.at + j) 0) l.initial.w l.i l.w × Small 8 l.initial.w
