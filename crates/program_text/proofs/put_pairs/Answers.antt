-- `put_pairs` meets its promise: each turn puts one more line. Assumes nothing.
use Rattle.std.proofs.Common.{◌≡◌, ◌*◌, arith}
use Rattle.io.proofs.Counting.{prefix_len_of_le}
use Rattle.program_text.specs.Text.{line_size, lines}
use Rattle.program_text.proofs.Texts.{puts_none, puts-line, puts-front}
use Rattle.program_text.proofs.put_pairs.Goals as goal

pub loop-i-init : goal.loop-i-init
unfolding lines
loop-i-init c = puts_none c.args.text.now 0 (omega arith)

pub loop-i-preserved : goal.loop-i-preserved
loop-i-preserved c =
    let a = c.args in
    let l = c.loop-i in
    puts-line a.out.now a.text.now l.i l.at l.text _ _ (omega arith) l.invariant c.put_line-at.ensures

pub returns : goal.returns
returns c =
    let a = c.args in
    let l = c.loop-i in
    let e : l.i ≡ a.n = omega arith in
    record { prefix_len = prefix_len_of_le _ _ (omega arith); text_after = puts-front (line_size * a.n) (lines a.out.now a.n) a.text.now l.at l.text (omega arith) (rw e at l.invariant) }
