-- `put_line` meets its promise: number, space, number and line feed are put one after the other. Assumes nothing.
use Rattle.std.proofs.Common.{arith}
use Rattle.program_text.proofs.Texts.{puts-after}
use Rattle.program_text.specs.Text.{line}
use Rattle.program_text.proofs.put_line.Goals as goal

pub returns : goal.returns
unfolding line
returns c =
    let a = puts-after 20 1 _ _ _ _ _ _ _ _ (omega arith) c.put_number-a.ensures c.put_byte-b.ensures in
    let b = puts-after 21 20 _ _ _ _ _ _ _ _ (omega arith) a c.put_number-c.ensures in
    puts-after 41 1 _ _ _ _ _ _ _ _ (omega arith) b c.put_byte.ensures
