-- `take_slots` goes through the slots up to the first unused one; the union so far, with the rest, is the whole.
use Rattle.std.proofs.Common.{refl, ap, ◌∙◌, arith}
use borrow.Author.Tests.{eq-eqb, ne_eqb}
use Rattle.sets.specs.Set.{set_words, set_of, join}
use Rattle.sets.proofs.Sets.{empty-words}
use Rattle.table.proofs.Entries.{slots-cons, slots_end}
use Rattle.table_feed.proofs.Taking.{taking-start, taking-end, taking-stop, taking-bad, taking-more}
use Rattle.table_feed.proofs.take_slots.Goals as goal

pub loop-j-init : goal.loop-j-init
loop-j-init c = taking-start _ _ _ _ (empty-words set_words)

pub returns-then-x-eq-UNUSED : goal.returns-then-x-eq-UNUSED
returns-then-x-eq-UNUSED c =
    let l = c.loop-j in
    taking-stop _ _ _ _ l.j l.invariant refl c.slot-x.result (slots-cons c.args.splits.now c.args.i l.j c.slot-x.result (omega arith) c.slot-x.ensures) (eq-eqb _ _ c.if-x-eq-UNUSED.true)

pub returns-then-n-x : goal.returns-then-n-x
returns-then-n-x c =
    let l = c.loop-j in
    taking-bad _ _ _ _ l.j c.slot-x.result l.invariant (slots-cons c.args.splits.now c.args.i l.j c.slot-x.result (omega arith) c.slot-x.ensures) (ne_eqb _ _ c.if-x-eq-UNUSED.false) c.if-n-x.true

pub loop-j-preserved : goal.loop-j-preserved
loop-j-preserved c =
    let l = c.loop-j in
    taking-more _ _ _ (set_of l.next) l.j c.slot-x.result l.invariant (slots-cons c.args.splits.now c.args.i l.j c.slot-x.result (omega arith) c.slot-x.ensures)
    (ne_eqb _ _ c.if-x-eq-UNUSED.false) (omega arith) _ (c.union-next.ensures ∙ ap (join (set_of l.next)) c.whole_row.ensures)

pub returns : goal.returns
returns c =
    let l = c.loop-j in
    taking-end _ _ _ _ l.j l.invariant (omega arith) (slots_end c.args.splits.now c.args.i l.j (omega arith))
