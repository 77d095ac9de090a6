-- `read_segment` meets its promise. Assumes nothing.
use Rattle.std.proofs.Common.{arith}
use Rattle.program_live.proofs.read_segment.Goals as goal

pub returns-then-is_err : goal.returns-then-is_err
returns-then-is_err g c =
    rw c.no_unit.ensures (omega arith, omega arith)

pub returns-then-is_err-2 : goal.returns-then-is_err-2
returns-then-is_err-2 g c =
    rw c.no_unit-then-is_err-2.ensures (omega arith, omega arith)
