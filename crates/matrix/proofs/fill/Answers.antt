-- `fill` meets its promise: a refusal, or zeros and then each record.
use Rattle.std.proofs.Common.{◌≡◌, ◌<◌, ℕ, List, sym, ap, ◌∙◌, cond, eqb, length, replicate, arith, add-one}
use borrow.Author.Tests.{eq-eqb, ne_eqb}
use Rattle.rules.specs.Rules.{verdict}
use Rattle.list.specs.List.{records, list_refusal}
use Rattle.matrix.specs.Matrix.{byte_values, matrix_length, filled, fill_rules}
use Rattle.matrix.specs.inner.Filling.{marked_bytes, marked_records}
use Rattle.matrix.proofs.Writing.{zeros-long}
use Rattle.matrix.proofs.Filling.{fill-passes, edge-placed, all-filled}
use Rattle.matrix.proofs.fill.Goals.{Else-refusal-ne-PASSED}
use Rattle.matrix.proofs.fill.Goals as goal

-- past the check no rule refuses, so the list is good, and the matrix has its length
passed : (c : Else-refusal-ne-PASSED) → (list_refusal c.args.list.now ≡ 0) × (length c.args.matrix.now ≡ matrix_length c.args.list.now)
passed c = let a = c.args in fill-passes a.list.now a.matrix.now (sym c.fill_refusal-refusal.ensures ∙ c.if-refusal-ne-PASSED.false)

pub returns-then-refusal-ne-PASSED : goal.returns-then-refusal-ne-PASSED
returns-then-refusal-ne-PASSED c =
    let e = c.fill_refusal-refusal.ensures in
    record { refuses = e; wrote = sym (rw (ne_eqb _ _ (λ z. c.if-refusal-ne-PASSED.true (e ∙ z)))) }

pub loop-i-init : goal.loop-i-init
unfolding marked_records
loop-i-init c =
    let e = c.fill.ensures.after (λ y k. k) in
    (e, ap (λ (m : List ℕ). length m) e ∙ zeros-long _ ∙ (passed (goal.at.loop-i-init c).Else-refusal-ne-PASSED).1)

pub fill_record-requires : goal.fill_record-requires
fill_record-requires c =
    let a = c.args in
    let l = c.loop-i in
    let h : l.i < records a.list.now = omega (arith, c.records-n.ensures) in
    (h, edge-placed a.list.now (passed (goal.at.fill_record-requires c).Else-refusal-ne-PASSED).0 l.i _ l.invariant.1 h)

pub loop-i-preserved : goal.loop-i-preserved
unfolding marked_records
loop-i-preserved c =
    let l = c.loop-i in (
      rw add-one (c.fill_record.ensures ∙ ap (λ (m : List ℕ). marked_bytes c.args.list.now l.i m byte_values) l.invariant.0),
      c.fill_record.auto.matrix ∙ l.invariant.1,
    )

pub returns : goal.returns
returns c =
    let a = c.args in
    let l = c.loop-i in
    let p = passed (goal.at.returns c).Else-refusal-ne-PASSED in
    let e : l.i ≡ records a.list.now = omega (arith, c.records-n.ensures) in
    let v : verdict (fill_rules a.list.now a.matrix.now) ≡ 0 = sym c.fill_refusal-refusal.ensures ∙ c.if-refusal-ne-PASSED.false in
    let whole : marked_records a.list.now (replicate (length a.matrix.now) 0) (records a.list.now) ≡ cond (eqb (verdict (fill_rules a.list.now a.matrix.now)) 0) (filled a.list.now) a.matrix.now =
    all-filled a.list.now p.0 (length a.matrix.now) p.1 ∙ sym (rw (eq-eqb _ _ v)) in
    record { refuses = sym v; wrote = l.invariant.0 ∙ rw e whole }
