-- `put_mark` writes one byte, where the test holds. Assumes nothing.
use borrow.Author.Rules.{rules}
use native.Mathlib.Omega.{arith}
use Rattle.list_join.proofs.put_mark.Statement.{statement}
use Rattle.list_join.proofs.put_mark.Tie as tie

slice-write-marks : tie.Need-bounds-marks-s
slice-write-marks c = omega (arith, c.requires c.if-test.true)

same_length : tie.Need-shape_of-marks
same_length c = search rules

returns : tie.Need-returns-then-test
returns c = rw c.if-test.true

returns-2 : tie.Need-returns-else-test
returns-2 c = search rules

pub put_mark_spec : {M : Type 1} → statement M
put_mark_spec = tie.close (tie.spec slice-write-marks same_length returns returns-2)
