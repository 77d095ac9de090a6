use Rattle.std.proofs.Common.{◌≡◌, get_or, arith}
use Rattle.text_marks.proofs.Passing.{pass-stop, pass-gone, pass-bar, pass-group, pass-leaf}
use Rattle.text_marks.proofs.+pass_over.Goals as goal

pub returns-in-41 : goal.returns-in-41
returns-in-41 t c =
    let l = c.loop-next in
    (l.invariant.0, l.invariant.1, λ b x ok st e. pass-stop c.args.text.now l.next x st c.loop-next-test.true c.in-41.is (l.invariant.2 b x ok st e))

pub loop-next-preserved-in-124 : goal.loop-next-preserved-in-124
loop-next-preserved-in-124 t c =
    let l = c.loop-next in
    (omega arith, omega arith, λ b x ok st e. pass-bar c.args.text.now l.next x st c.loop-next-test.true c.in-124.is (l.invariant.2 b x ok st e))

pub loop-next-preserved-in-40 : goal.loop-next-preserved-in-40
loop-next-preserved-in-40 t c =
    let l = c.loop-next in (
      omega (arith, l.invariant.0, c.pass_over-inner.ensures.0, c.past.ensures.0, c.mark_of-next.ensures.0),
      c.mark_of-next.ensures.1,
      λ b x ok st e.
          pass-group c.args.text.now l.next x st c.pass_over-inner.result c.past.result c.mark_of-next.result c.loop-next-test.true c.in-40.is c.pass_over-inner.ensures.2 c.past.ensures.2 c.mark_of-next.ensures.3
          (l.invariant.2 b x ok st e),
    )

pub loop-next-preserved : goal.loop-next-preserved
loop-next-preserved t c =
    let l = c.loop-next in
    let n41 : get_or c.args.text.now l.next 0 ≡ 41 → ⊥ = λ z. omega arith in
    let n124 : get_or c.args.text.now l.next 0 ≡ 124 → ⊥ = λ z. omega arith in
    let n40 : get_or c.args.text.now l.next 0 ≡ 40 → ⊥ = λ z. omega arith in (
      omega (arith, l.invariant.0, c.leaf_end.ensures.0, c.mark_of-next-in_default.ensures.0),
      c.mark_of-next-in_default.ensures.1,
      λ b x ok st e.
          pass-leaf c.args.text.now l.next x st c.leaf_end.result c.mark_of-next-in_default.result c.loop-next-test.true n41 n124 n40 c.leaf_end.ensures.2 c.mark_of-next-in_default.ensures.3 (l.invariant.2 b x ok st e),
    )

pub returns : goal.returns
returns t c =
    let l = c.loop-next in
    (l.invariant.0, l.invariant.1, λ b x ok st e. pass-gone c.args.text.now l.next x st (omega arith) (l.invariant.2 b x ok st e))
