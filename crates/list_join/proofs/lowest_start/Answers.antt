-- It goes through the marks.
use Rattle.std.proofs.Common.{◌≡◌, ◌<◌, ◌∙◌, true, false, ◌&&◌, refl, sym, get_or, arith}
use borrow.Author.Tests.{eq-eqb, ne_eqb}
use Rattle.sets.specs.Set.{states, holds}
use Rattle.rules.specs.Scan.{some}
use Rattle.rules.proofs.Scanning.{and-false}
use Rattle.list_join.proofs.Marking.{start-bit, none_more, state_found, state_none}
use Rattle.list_join.proofs.lowest_start.Goals as goal
use Rattle.list_join.proofs.lowest_start.Goals.{else-marks-s-eq1-via-then-marks-s-eq1+else-test, else-marks-s-eq1-via-else-marks-s-eq1}

pub loop-s-init : goal.loop-s-init
unfolding some
loop-s-init g c = λ p h. refl

pub returns-then-test : goal.returns-then-test
returns-then-test g c = λ p h.
    let w = c.args.marks.now in
    let s = c.loop-s.s in
    let l : s < states = omega arith in
    let k : holds (get_or w s 0) 1 ≡ true = start-bit (get_or w s 0) ∙ eq-eqb _ 1 c.if-marks-s-eq1.true in
    let q : p s ≡ true = sym (h s c.test.result l c.test.ensures) ∙ c.if-test.true in
    state_found (λ t. holds (get_or w t 0) 1 && p t) s l (c.loop-s.invariant p h) (rw (k, q) refl)

pub loop-s-preserved : goal.loop-s-preserved
loop-s-preserved g c = λ p h.
    let x = c.args.marks.now in
    let s = c.loop-s.s in
    let l : s < states = omega arith in
    let n : (holds (get_or x s 0) 1 && p s) ≡ false =
    elim c.else-marks-s-eq1.branch [
      | else-marks-s-eq1-via-then-marks-s-eq1+else-test w ↦ rw (sym (h s w.test.result l w.test.ensures) ∙ w.if-test.false) (and-false (holds (get_or x s 0) 1))
      | else-marks-s-eq1-via-else-marks-s-eq1 w ↦ rw (start-bit (get_or x s 0) ∙ ne_eqb _ 1 w.if-marks-s-eq1.false) refl
    ] in
    none_more (λ t. holds (get_or x t 0) 1 && p t) s (c.loop-s.invariant p h) n

pub returns : goal.returns
returns g c = λ p h. state_none (λ t. holds (get_or c.args.marks.now t 0) 1 && p t) c.loop-s.s (omega arith) (c.loop-s.invariant p h)
