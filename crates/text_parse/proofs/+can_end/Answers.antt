use Rattle.std.proofs.Common.{◌≡◌, ◌-◌, ◌*◌, ◌+◌, sym, ◌∙◌, refl, arith, add-one}
use Rattle.rules.specs.Scan.{some}
use Rattle.rules.proofs.Scanning.{some-intro}
use Rattle.text.specs.Acceptor.{can}
use Rattle.text_parse.proofs.Steps.{can-over, can-now, can-not, can-next}
use Rattle.text_parse.proofs.+can_end.Goals as goal

pub returns-then-v-gt300 : goal.returns-then-v-gt300
returns-then-v-gt300 t c = can-over _ _ _ c.if-v-gt300.true

pub returns-then-low-v : goal.returns-then-low-v
returns-then-low-v t c = sym (can-now _ _ _ c.if-low-v.true c.if-v-gt300.false)

pub returns-then-r-eq0 : goal.returns-then-r-eq0
returns-then-r-eq0 t c = sym (rw c.if-r-eq0.true (can-not _ _ c.if-low-v.false))

pub loop-d-init : goal.loop-d-init
unfolding some
loop-d-init t c = refl

pub returns-then-can_end : goal.returns-then-can_end
returns-then-can_end t c =
    let a = c.args in
    sym (can-next _ _ _ c.if-low-v.false c.if-r-eq0.false ∙ some-intro 10 (λ k. can a.low (a.r - 1) (10 * a.v + k)) c.loop-d.d (omega arith) (sym c.can_end.ensures ∙ c.if-can_end.true))

pub loop-d-preserved : goal.loop-d-preserved
unfolding some
loop-d-preserved t c = rw (add-one, c.loop-d.invariant) (sym c.can_end.ensures ∙ c.if-can_end.false)

pub returns : goal.returns
returns t c =
    let a = c.args in
    let e : c.loop-d.d ≡ 10 = omega arith in
    sym (can-next _ _ _ c.if-low-v.false c.if-r-eq0.false ∙ (rw e at c.loop-d.invariant))
