-- `put_again` meets its promise: nothing, or the line. Assumes nothing.
use Rattle.std.proofs.Common.{arith}
use Rattle.program_turn.proofs.Laws.{again-none, again-line}
use Rattle.program_turn.proofs.put_again.Goals as goal

pub returns-in_default : goal.returns-in_default
returns-in_default c = rw c.in_default.is (again-none c.args.text.now c.args.at (omega (arith, c.requires)))

pub returns : goal.returns
returns c =
    let a = c.args in
    rw c.in-Some.is
    (again-line a.text.now a.at c.in-Some.start _ _ _ _ _ _ _ c.requires (omega arith) c.put_bytes-a.ensures c.put_number-b.ensures c.put_byte.ensures)
