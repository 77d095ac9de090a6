-- `edges_alike` goes through the records; the invariant is the definition for those passed. Assumes nothing.
use Rattle.std.proofs.Common.{◌≡◌, ◌-◌, ◌≤◌, true, sym, refl, ◌∙◌, add-one, arith, rules}
use borrow.Author.Tests.{not-true, not-false}
use Rattle.rules.specs.Scan.{every}
use Rattle.rules.proofs.Scanning.{every-fails}
use Rattle.list.specs.List.{records}
use Rattle.list_alike.specs.inner.Alike.{alike_at, edges_alike}
use Rattle.list_alike.proofs.edges_alike.Statement.{statement}
use Rattle.list_alike.proofs.edges_alike.Tie as tie

abbrev invariant-loop : tie.invariant-loop-i
invariant-loop list c d n i₀ i = (i ≤ n) × (every i (alike_at list c d) ≡ true)

abbrev decreases-loop : tie.decreases-loop-i
decreases-loop list c d n i₀ i = n - i

records-requires : tie.Need-records-n-requires invariant-loop decreases-loop
records-requires c κs = search rules

loop-holds : tie.Need-loop-i-init invariant-loop decreases-loop
unfolding every
loop-holds c = (search rules, refl)

alike-at-requires : tie.Need-alike_at-requires invariant-loop decreases-loop
alike-at-requires c κs = omega (arith, c.records-n.ensures)

returns : tie.Need-returns-then-not-alike_at invariant-loop decreases-loop
unfolding edges_alike
returns c =
    let h = c in
    let a = h.args in
    sym (every-fails (records a.list.now) (alike_at a.list.now a.c a.d) h.loop-i.i (omega (arith, h.records-n.ensures)) (sym c.alike_at.ensures ∙ not-true _ c.if-not-alike_at.true-raw))

add-i : tie.Need-overflow_step-i invariant-loop decreases-loop
add-i c = search rules

loop-less : tie.Need-loop-i-smaller invariant-loop decreases-loop
loop-less c = search rules

loop-again : tie.Need-loop-i-preserved invariant-loop decreases-loop
unfolding every
loop-again c = (search rules, rw (add-one, c.loop-i.invariant.1, sym c.alike_at.ensures ∙ not-false _ c.if-not-alike_at.false-raw))

returns-2 : tie.Need-returns invariant-loop decreases-loop
unfolding edges_alike
returns-2 c =
    let l = c.loop-i in
    let e : l.i ≡ records c.args.list.now = omega (arith, c.records-n.ensures) in
    sym (rw e at l.invariant.1)

pub edges_alike_spec : {M : Type 1} → statement M
edges_alike_spec =
    tie.close
    (tie.spec
    invariant-loop
    decreases-loop
    records-requires
    loop-holds
    alike-at-requires
    returns
    add-i
    loop-less
    loop-again
    returns-2)
