-- `put_both` puts the two one after the other. Assumes nothing.
use native.Mathlib.Omega.{arith}
use Rattle.std.proofs.Common.{length}
use Rattle.program_text.proofs.Texts.{puts-after, puts-front}
use Rattle.program_files.proofs.put_both.Goals as goal

pub returns-clause-text_after : goal.returns-clause-text_after
returns-clause-text_after c = λ l.
    let a = c.args in
    let p = c.if-text-first.false in
    let q = c.if-text-first-2.false in
    puts-front _ _ _ _ _ (omega (arith, p, q)) (puts-after (length a.first.now) (length a.second.now) _ _ _ _ _ _ _ _ (omega (arith, p, q)) c.put_bytes-at.ensures c.put_bytes.ensures)
