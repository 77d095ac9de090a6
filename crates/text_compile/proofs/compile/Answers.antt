use Rattle.std.proofs.Common.{sym, ◌∙◌, ap}
use Rattle.std.specs.Prelude.{Err}
use Rattle.text_parse.specs.inner.Went.{answer}
use Rattle.text_compile.proofs.Listing.{judged-good, judged-bad}
use Rattle.text_compile.proofs.Exactly.{judged-compiles}
use Rattle.text_compile.proofs.compile.Goals as goal

pub returns-in-Ok : goal.returns-in-Ok
returns-in-Ok c =
    let a = c.args in
    let b = c.build in
    judged-compiles a.text.now a.signature a.list.now b.result b.new.list (λ j. (c.type_inv.text j).fits)
    (judged-good a.text.now a.signature a.list.now b.result b.new.list (sym (ap answer c.in-Ok.is) ∙ c.check_text.ensures) b.ensures)

pub returns-in-Err-Bad : goal.returns-in-Err-Bad
returns-in-Err-Bad c =
    let a = c.args in
    let r = c.refused in
    judged-compiles a.text.now a.signature a.list.now r.result a.list.now (λ j. (c.type_inv.text j).fits)
    (judged-bad a.text.now a.signature a.list.now r.result 18 c.in-Err-Bad.place (sym (ap answer (c.in-Err-Bad.is ∙ ap Err c.in-Err-Bad.field-0-is)) ∙ c.check_text.ensures) r.ensures.0 r.ensures.1 r.ensures.2)

pub returns-in-Err-Deep : goal.returns-in-Err-Deep
returns-in-Err-Deep c =
    let a = c.args in
    let r = c.refused-in-Err-Deep in
    judged-compiles a.text.now a.signature a.list.now r.result a.list.now (λ j. (c.type_inv.text j).fits)
    (judged-bad a.text.now a.signature a.list.now r.result 19 0 (sym (ap answer (c.in-Err-Deep.is ∙ ap Err c.in-Err-Deep.field-0-is)) ∙ c.check_text.ensures) r.ensures.0 r.ensures.1 r.ensures.2)
