-- `find_outline` goes through the records; the invariant is what those passed say. Assumes nothing.
use mathlib.Core.Path.{refl, sym, ap, ◌∙◌, ◌≡◌}
use mathlib.Core.Bool.{true, not}
use Prim.Native.Nat.{suc, ◌≤◌, ◌-◌}
use native.Mathlib.Numerals.{add-one}
use Rattle.rules.specs.Scan.{every}
use Rattle.list.specs.List.{records, good_record, no_start, list_refusal}
use Rattle.list.specs.Automaton.{highest}
use Rattle.list_join.specs.inner.Found.{Seen}
use Rattle.list_join.proofs.Marking.{seen_none, no-start-as, ends-top}
use Rattle.list_join.proofs.Outlining.{refused_as, by_length, by-record, by-start, by-none, short-length}
use borrow.Author.Tests.{not-true, not-false}
use borrow.Author.Rules.{rules}
use native.Mathlib.Omega.{arith}
use Rattle.list_join.proofs.find_outline.Statement.{statement}
use Rattle.list_join.proofs.find_outline.Tie as tie

abbrev invariant-loop : tie.invariant-loop-i
invariant-loop list n marks₀ staying₀ spares₀ i₀ marks staying spares i = (i ≤ n) × (every i (good_record list) ≡ true) × Seen list i marks staying spares

abbrev decreases-loop : tie.decreases-loop-i
decreases-loop list n marks₀ staying₀ spares₀ i₀ marks staying spares i = n - i

bad-length-requires : tie.Need-bad_length-requires invariant-loop decreases-loop
bad-length-requires c κs = search rules

refused-requires : tie.Need-refused-requires invariant-loop decreases-loop
refused-requires c κs = search rules

returns : tie.Need-returns-then-bad_length invariant-loop decreases-loop
returns c =
    let L = c.args.list.now in
    refused_as L _ 1 (by_length L (sym c.bad_length.ensures ∙ c.if-bad_length.true)) c.refused.ensures (λ e. absurd (omega (arith, e)))

records-requires : tie.Need-records-n-requires invariant-loop decreases-loop
records-requires c κs = search rules

loop-holds : tie.Need-loop-i-init invariant-loop decreases-loop
unfolding every
loop-holds c = (search rules, refl, seen_none c.args.list.now)

slice-aggregate-note : tie.Need-slice_bounds-note-end invariant-loop decreases-loop
slice-aggregate-note c = search rules

slice-aggregate-note-2 : tie.Need-slice_bounds-note-end-in-loop-i invariant-loop decreases-loop
slice-aggregate-note-2 c = search rules

slice-aggregate-note-3 : tie.Need-slice_bounds-note-end-in-loop-i-2 invariant-loop decreases-loop
slice-aggregate-note-3 c = search rules

note-requires : tie.Need-note-requires invariant-loop decreases-loop
note-requires c κs =
    let L = c.args.list.now in
    let h = c.loop-i-test.true in
    let r = c.records-n.ensures in
    let m = short-length L (sym c.bad_length.ensures ∙ c.if-bad_length.false) in
    (omega (arith, h, r), omega (arith, h, r, m), c.loop-i.invariant.2)

refused-requires-2 : tie.Need-refused-requires-then-not-note invariant-loop decreases-loop
refused-requires-2 c κs = search rules

returns-2 : tie.Need-returns-then-not-note invariant-loop decreases-loop
returns-2 c =
    let L = c.args.list.now in
    let l = sym c.bad_length.ensures ∙ c.if-bad_length.false in
    let g = sym c.note.ensures.0 ∙ not-true _ c.if-not-note.true-raw in
    refused_as L _ 2 (by-record L l c.loop-i.i (omega (arith, c.loop-i-test.true, c.records-n.ensures)) g) c.refused-then-not-note.ensures (λ e. absurd (omega (arith, e)))

add-i : tie.Need-overflow_step-i invariant-loop decreases-loop
add-i c = search rules

loop-less : tie.Need-loop-i-smaller invariant-loop decreases-loop
loop-less c = search rules

loop-again : tie.Need-loop-i-preserved invariant-loop decreases-loop
unfolding every
loop-again c =
    let l = c.loop-i in
    let n = c.note.ensures in
    let t = not-false _ c.if-not-note.false-raw in
    let g = sym n.0 ∙ t in
    (omega (arith, c.loop-i-test.true), rw (add-one, l.invariant.1, g) refl, rw (add-one l.i) (n.1 t))

slice-aggregate-some-start : tie.Need-slice_bounds-some_start-end invariant-loop decreases-loop
slice-aggregate-some-start c = search rules

some-start-requires : tie.Need-some_start-requires invariant-loop decreases-loop
some-start-requires c κs = c.loop-i.invariant.2.marked.0

refused-requires-3 : tie.Need-refused-requires-then-not-some_start invariant-loop decreases-loop
refused-requires-3 c κs = search rules

-- behind the loop: all records are passed
all-passed : (c : tie.After-some_start invariant-loop decreases-loop) → c.loop-i.i ≡ records c.args.list.now
all-passed c = omega (arith, c.loop-i.invariant.0, c.loop-i-test.false, c.records-n.ensures)

good : (c : tie.After-some_start invariant-loop decreases-loop) → every (records c.args.list.now) (good_record c.args.list.now) ≡ true
good c = rw (all-passed c) at c.loop-i.invariant.1

seen : (c : tie.After-some_start invariant-loop decreases-loop) → let l = c.loop-i in Seen c.args.list.now (records c.args.list.now) l.marks l.staying l.spares
seen c = rw (all-passed c) at c.loop-i.invariant.2

started : (c : tie.After-some_start invariant-loop decreases-loop) → no_start c.args.list.now ≡ not c.some_start.result
started c =
    let l = c.loop-i in
    no-start-as c.args.list.now l.marks l.staying l.spares (seen c) (good c) ∙ ap not (sym c.some_start.ensures)

returns-3 : tie.Need-returns-then-not-some_start invariant-loop decreases-loop
returns-3 c =
    let L = c.args.list.now in
    let l = sym c.bad_length.ensures ∙ c.if-bad_length.false in
    refused_as L _ 3 (by-start L l (good c.before.before) (started c.before.before ∙ c.if-not-some_start.true-raw)) c.refused-then-not-some_start.ensures (λ z. absurd (omega (arith, z)))

slice-aggregate-end-below : tie.Need-slice_bounds-end_below-end invariant-loop decreases-loop
slice-aggregate-end-below c = search rules

end-below-requires : tie.Need-end_below-end-requires invariant-loop decreases-loop
end-below-requires c κs = omega (arith, c.loop-i.invariant.2.marked.0)

-- the list passes, and the highest mark is its highest state
passed : (c : tie.After-end_below-end invariant-loop decreases-loop) → list_refusal c.args.list.now ≡ 0
passed c =
    let L = c.args.list.now in
    let l = sym c.bad_length.ensures ∙ c.if-bad_length.false in
    by-none L l (good c.before.before.before) (started c.before.before.before ∙ c.if-not-some_start.false-raw)

ended : (c : tie.After-end_below-end invariant-loop decreases-loop) → c.end_below-end.result ≡ suc (highest c.args.list.now)
ended c = ends-top c.args.list.now (passed c) c.loop-i.marks (seen c.before.before.before).marked c.end_below-end.result c.end_below-end.ensures

sub-t23 : tie.Need-overflow_sub-result invariant-loop decreases-loop
sub-t23 c = omega (arith, ended c)

returns-4 : tie.Need-returns invariant-loop decreases-loop
returns-4 c = record { refusal = sym (passed c); top = λ _. omega (arith, ended c); seen = λ _. seen c.before.before.before }

pub find_outline_spec : {M : Type 1} → statement M
find_outline_spec =
    tie.close
    (tie.spec
    invariant-loop
    decreases-loop
    bad-length-requires
    refused-requires
    returns
    records-requires
    loop-holds
    slice-aggregate-note
    slice-aggregate-note-2
    slice-aggregate-note-3
    note-requires
    refused-requires-2
    returns-2
    add-i
    loop-less
    loop-again
    slice-aggregate-some-start
    some-start-requires
    refused-requires-3
    returns-3
    slice-aggregate-end-below
    end-below-requires
    sub-t23
    returns-4)
