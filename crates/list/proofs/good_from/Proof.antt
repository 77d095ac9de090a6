-- `good_from` goes through the records; those passed are as good as the ones before, and it ends at the first that is not. Assumes nothing.
use borrow.Author.Rules.{rules}
use mathlib.Core.Path.{◌≡◌, refl, sym, ◌∙◌}
use mathlib.Core.Bool.{and-true, and-false}
use Prim.Native.Nat.{◌≤◌, ◌-◌}
use native.Mathlib.Omega.{arith}
use native.Mathlib.Numerals.{add-one}
use borrow.Author.Tests.{not-true, not-false}
use Rattle.rules.specs.Scan.{every}
use Rattle.rules.proofs.Scanning.{every-fails}
use Rattle.list.specs.List.{good_record}
use Rattle.list.proofs.good_from.Statement.{statement}
use Rattle.list.proofs.good_from.Tie as tie

abbrev invariant-loop : tie.invariant-loop-i
invariant-loop list from end i₀ i = (i ≤ end) × (every i (good_record list) ≡ every from (good_record list))

abbrev decreases-loop : tie.decreases-loop-i
decreases-loop list from end i₀ i = end - i

loop-holds : tie.Need-loop-i-init invariant-loop decreases-loop
loop-holds c = (search rules, refl)

good-record-requires : tie.Need-good_record-requires invariant-loop decreases-loop
good-record-requires c κs = search rules

returns : tie.Need-returns-then-not-good_record invariant-loop decreases-loop
returns c =
    let h = c.before.before.before in
    let a = h.args in
    and-false (every a.from (good_record a.list.now)) ∙ sym (every-fails a.end (good_record a.list.now) h.loop-i.i (omega arith) (sym c.good_record.ensures ∙ not-true _ c.if-not-good_record.true-raw))

add-i : tie.Need-overflow_step-i invariant-loop decreases-loop
add-i c = search rules

loop-less : tie.Need-loop-i-smaller invariant-loop decreases-loop
loop-less c = search rules

loop-again : tie.Need-loop-i-preserved invariant-loop decreases-loop
unfolding every
loop-again c =
    (search rules, rw (add-one, c.loop-i.invariant.1, sym c.good_record.ensures ∙ not-false _ c.if-not-good_record.false-raw) (and-true _))

returns-2 : tie.Need-returns invariant-loop decreases-loop
returns-2 c =
    let l = c.loop-i in
    let e : l.i ≡ c.args.end = omega arith in
    and-true _ ∙ sym (rw e at l.invariant.1)

pub good_from_spec : {M : Type 1} → statement M
good_from_spec = tie.close (tie.spec invariant-loop decreases-loop loop-holds good-record-requires returns add-i loop-less loop-again returns-2)
