-- `leads_at` goes through the bytes; those passed lead to a split, and so does one of the class of a lower one.
use Rattle.std.proofs.Common.{not, sym, ap, ◌∙◌, arith}
use Rattle.table.specs.Table.{byte_values, is_split}
use Rattle.table.proofs.Found.{said}
use Rattle.table.proofs.Lowers.{lower-led}
use Rattle.table.proofs.Turns.{every-none, every_more, every-stops, every-ends}
use Rattle.table.proofs.leads_at.Goals.{then-not-same_as_lower+else-is_none, else-not-same_as_lower}
use Rattle.table.proofs.leads_at.Goals as goal

pub loop-d-init : goal.loop-d-init
loop-d-init c = every-none _

pub returns-then-is_none : goal.returns-then-is_none
returns-then-is_none c =
    let S = c.args.splits.now in
    every-stops byte_values _ c.loop-d.d c.loop-d-test.true
    (ap (is_split S) (sym c.rows_of.ensures) ∙ said S _ c.find_sorted.result c.find_sorted.ensures.found c.find_sorted.ensures.none ∙ c.is_none.ensures ∙ ap not c.if-is_none.true)

-- the byte leads to a split, be it looked at or not
pub loop-d-preserved : goal.loop-d-preserved
loop-d-preserved c =
    let a = c.args in
    let S = a.splits.now in
    every_more _ c.loop-d.d c.loop-d.invariant
    (elim c.if-not-same_as_lower.branch [
      | then-not-same_as_lower+else-is_none w ↦
          ap (is_split S) (sym w.rows_of.ensures) ∙ said S _ w.find_sorted.result w.find_sorted.ensures.found w.find_sorted.ensures.none ∙ w.is_none.ensures ∙ ap not w.if-is_none.false
      | else-not-same_as_lower w ↦ lower-led a.classes.now a.rows.now S a.lowers.now a.i c.loop-d.d c.loop-d.invariant (sym c.same_as_lower.ensures ∙ w.if-not-same_as_lower.false)
    ])

pub returns : goal.returns
returns c = every-ends byte_values _ c.loop-d.d (omega arith) c.loop-d.invariant
