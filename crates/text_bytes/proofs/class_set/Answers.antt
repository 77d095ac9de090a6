use Rattle.std.proofs.Common.{◌≡◌, get_or, ap, ◌∙◌, arith}
use Rattle.sets.specs.Set.{byte_set_of, holds}
use Rattle.sets.proofs.Sets.{holds-empty}
use Rattle.text_bytes.proofs.Bytes.{had-start, had-end, had-more, had-gone}
use Rattle.text_bytes.proofs.class_set.Goals as goal

pub loop-next-init : goal.loop-next-init
loop-next-init c = had-start c.args.text.now c.args.at (byte_set_of _) (λ x. ap (λ z. holds z x) c.empty-set.ensures ∙ holds-empty x)

pub loop-next-preserved : goal.loop-next-preserved
loop-next-preserved c =
    let l = c.loop-next in
    let m = c.member_of-more in
    had-more c.args.text.now c.args.at l.next (byte_set_of l.set) l.invariant (byte_set_of m.result.value) m.result.next c.loop-next-test.true c.if-text-next-ne93.true m.ensures.2

pub returns-else-text-next-ne93 : goal.returns-else-text-next-ne93
returns-else-text-next-ne93 c =
    let l = c.loop-next in
    let e : get_or c.args.text.now l.next 0 ≡ 93 = omega arith in
    had-end c.args.text.now c.args.at l.next (byte_set_of l.set) l.invariant c.loop-next-test.true e

pub returns-after-loop-next : goal.returns-after-loop-next
returns-after-loop-next c =
    let l = c.loop-next in
    λ ms y ok e x k. absurd (had-gone c.args.text.now c.args.at l.next (byte_set_of l.set) l.invariant (omega arith) ms y ok e)
