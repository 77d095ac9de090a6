-- `put_last` meets its promise: the last line is of the refusal, or of the offset where that is 0. Assumes nothing.
use borrow.Author.Rules.{rules}
use borrow.Author.Tests.{eq-eqb, ne_eqb}
use Rattle.program_text.specs.Text.{last_line}
use Rattle.program_text.proofs.put_last.Statement.{statement}
use Rattle.program_text.proofs.put_last.Tie as tie

put-ending-requires : tie.Need-put_ending-requires
put-ending-requires c κs = search rules

same_length : tie.Need-shape_of-text-then-refusal-ne-PASSED
same_length c = search rules

returns : tie.Need-returns-then-refusal-ne-PASSED
unfolding last_line
returns c =
    let s = c in
    let e = c.put_ending.ensures in
    (e.0, rw (ne_eqb s.args.refusal 0 c.if-refusal-ne-PASSED.true) e.1)

put-ending-requires-2 : tie.Need-put_ending-requires-2
put-ending-requires-2 c κs = search rules

same-length-2 : tie.Need-shape_of-text
same-length-2 c = search rules

returns-2 : tie.Need-returns
unfolding last_line
returns-2 c =
    let s = c in
    let e = c.put_ending-2.ensures in
    (e.0, rw (eq-eqb s.args.refusal 0 c.if-refusal-ne-PASSED.false) e.1)

pub put_last_spec : {M : Type 1} → statement M
put_last_spec =
    tie.close
    (tie.spec
    put-ending-requires
    same_length
    returns
    put-ending-requires-2
    same-length-2
    returns-2)
