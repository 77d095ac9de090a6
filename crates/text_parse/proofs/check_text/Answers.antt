use Rattle.std.proofs.Common.{◌<◌, ◌∙◌, sym, length, arith}
use Rattle.std.proofs.lemmas.Result.{err_from_is_err_and}
use Rattle.text_parse.proofs.Moves.{front-at, whole-good, whole-closed}
use Rattle.text_parse.proofs.check_text.Goals as goal

pub alternatives-requires : goal.alternatives-requires
alternatives-requires c = (rw c.from-start.ensures (front-at c.args.text.now c.is_bound.result c.is_bound.ensures.first).1, omega arith)

pub returns-in_err-end : goal.returns-in_err-end
returns-in_err-end c =
    let f = (front-at c.args.text.now c.is_bound.result c.is_bound.ensures.first).0 in
    let p = err_from_is_err_and c.from_residual.result c.from_residual.ensures.1 in
    rw (p.1, p.2) (sym (f ∙ (rw c.from-start.ensures at c.in_err-end.ensures.0)))

pub returns-then-end-text : goal.returns-then-end-text
returns-then-end-text c =
    let l : c.in_ok-end.end < length c.args.text.now = omega arith in
    let f = (front-at c.args.text.now c.is_bound.result c.is_bound.ensures.first).0 in
    sym (f ∙ (rw c.from-start.ensures at c.in_ok-end.ensures.0) ∙ whole-closed c.args.text.now c.in_ok-end.end l (c.in_ok-end.ensures.2 l))

pub returns : goal.returns
returns c =
    let f = (front-at c.args.text.now c.is_bound.result c.is_bound.ensures.first).0 in
    sym (f ∙ (rw c.from-start.ensures at c.in_ok-end.ensures.0) ∙ whole-good c.args.text.now c.in_ok-end.end (omega arith))
