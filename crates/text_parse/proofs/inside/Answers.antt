use Rattle.std.proofs.Common.{◌≡◌, ◌<◌, ◌+◌, ◌∙◌, ap, length, arith}
use Rattle.std.specs.Prelude.{Some}
use Rattle.text_parse.proofs.Moves.{inside-dead, inside-over, inside_on, inside-cut}
use Rattle.text_parse.proofs.Ahead.{later}
use Rattle.text_parse.proofs.inside.Goals as goal

pub returns-in-None : goal.returns-in-None
returns-in-None c =
    let x = c.loop-next in
    let p : x.next < length c.args.text.now = omega arith in
    ((λ d l. x.invariant.1 d l ∙ inside-dead c.args.text.now x.next x.m c.inner_step.result p c.inner_step.ensures d l c.in-None.is), tt)

pub returns-in-Some-Over : goal.returns-in-Some-Over
returns-in-Some-Over c =
    let x = c.loop-next in
    let p : x.next < length c.args.text.now = omega arith in (
      (λ d l. x.invariant.1 d l ∙ inside-over c.args.text.now x.next x.m c.inner_step.result p c.inner_step.ensures d l (c.in-Some-Over.is ∙ ap Some c.in-Some-Over.field-0-is) ∙ c.mark.ensures.0 d l),
      later c.args.at (x.next + 1) (length c.args.text.now) c.mark.result (omega arith) c.mark.ensures.1,
    )

pub loop-next-preserved : goal.loop-next-preserved
loop-next-preserved c =
    let x = c.loop-next in
    let p : x.next < length c.args.text.now = omega arith in
    (omega arith, λ d l. x.invariant.1 d l ∙ inside_on c.args.text.now x.next x.m c.inner_step.result p c.inner_step.ensures d c.in-Some-On.n l (c.in-Some-On.is ∙ ap Some c.in-Some-On.field-0-is))

pub returns : goal.returns
returns c =
    let x = c.loop-next in
    let n : x.next ≡ length c.args.text.now = omega arith in
    ((λ d l. x.invariant.1 d l ∙ inside-cut c.args.text.now x.next x.m d (omega arith) l ∙ ap (λ z. (19, z)) n), tt)
