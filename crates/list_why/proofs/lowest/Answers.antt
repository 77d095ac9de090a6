-- Record by record.
use Rattle.std.proofs.Common.{ℕ, ◌≡◌, ◌<◌, ◌&&◌, ◌∙◌, sym, ap, eqb, add-one, arith}
use borrow.Author.Tests.{eq-eqb, ne_eqb}
use Rattle.numbers.specs.Number.{num}
use Rattle.sets.specs.Set.{states, holds}
use Rattle.list.specs.List.{records, from, target}
use Rattle.list_why.specs.inner.Asked.{some_state}
use Rattle.list_why.specs.Reason.{leads_to}
use Rattle.list_why.proofs.Sources.{least-most, least-none, state_on, leads-by}
use Rattle.list_why.proofs.lowest.Goals as goal
use Rattle.list_why.proofs.lowest.Goals.{then-target-t, else-target-t, then-test, else-test}

pub loop-i-init : goal.loop-i-init
loop-i-init g c = λ p h. let a = c.args in ap some_state (sym (least-none states (leads_to a.list.now (num 64 a.f.words) p a.t) (from a.list.now)))

pub loop-i-preserved : goal.loop-i-preserved
loop-i-preserved g c = λ p h.
    let a = c.args in
    let l = c.loop-i in
    let L = a.list.now in
    let F = num 64 a.f.words in
    let lt : l.i < records L = omega (arith, c.records-n.ensures) in
    let v : c.if-target-t.value ≡ (eqb (target L l.i) a.t && p l.i) =
    elim c.if-target-t.branch [
      | then-target-t w ↦ rw (eq-eqb (target L l.i) a.t (sym c.target.ensures ∙ w.if-target-t.true)) (w.value-is ∙ h l.i w.test.result lt w.test.ensures)
      | else-target-t w ↦ rw (ne_eqb (target L l.i) a.t (λ q. w.if-target-t.false (c.target.ensures ∙ q))) (w.value-is ∙ ne_eqb c.target.result a.t w.if-target-t.false)
    ] in
    let r : c.if-test.taken ≡ (c.if-target-t.value && holds F (from L l.i)) =
    elim c.if-test.branch [
      | then-test w ↦ rw w.if-test.true (w.taken-is ∙ w.bit_of-taken.ensures ∙ ap (λ (s : ℕ). holds F s) w.from.ensures)
      | else-test w ↦ rw w.if-test.false (w.taken-is ∙ w.if-test.false)
    ] in
    rw add-one (state_on states (leads_to L F p a.t) (from L) l.i c.if-test.taken c.lower-best.result
    (leads-by (eqb (target L l.i) a.t) (p l.i) (holds F (from L l.i)) c.if-target-t.value c.if-test.taken v r)
    (c.lower-best.ensures _ (least-most states (leads_to L F p a.t) (from L) l.i) (l.invariant p h)))
