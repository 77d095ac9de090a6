use Rattle.std.proofs.Common.{◌≡◌, sym, subst, get_or, arith}
use Rattle.text_marks.specs.inner.Marks.{Never}
use Rattle.text_marks.proofs.Passing.{none-at}
use Rattle.text_marks.proofs.none_end.Goals as goal

pub returns-in-Between-default-eq0 : goal.returns-in-Between-default-eq0
returns-in-Between-default-eq0 c =
    let g : get_or c.args.text.now c.args.at 0 ≡ 40 = omega arith in
    let z : c.in-Between-default-eq0.field-1 ≡ 0 = rw c.in-Between-default-eq0.is at c.in-Between-default-eq0.field-1-test in (
      omega (arith, c.pass_over-inner.ensures.0, c.past.ensures.0, c.mark_of-mark.ensures.0),
      c.mark_of-mark.ensures.1,
      none-at c.args.text.now c.args.at c.pass_over-inner.result c.past.result c.mark_of-mark.result c.requires g c.pass_over-inner.ensures.2 c.past.ensures.2 c.mark_of-mark.ensures.3
          (subst Never (sym c.in-Between-default-eq0.is) z),
    )
