-- The records so far are in the sets that they select.
use Rattle.std.proofs.Common.{◌≡◌, length, replicate}
use Rattle.matrix.specs.Matrix.{matrix_length}
use Rattle.matrix.specs.inner.Filling.{marked_records}
use Rattle.matrix.proofs.fill.Given as goal

abbrev pub invariant-loop-i : goal.invariant-loop-i
invariant-loop-i l = (l.matrix ≡ marked_records l.list (replicate (length l.fn.matrix) 0) l.i) × (length l.matrix ≡ matrix_length l.list)
