-- `same_past` walks along the edges to two states at once. Assumes nothing.
use Prim.Native.Nat.{suc, ◌<◌, ◌-◌}
use mathlib.Core.List.{[], ◌∷◌, ◌++◌}
use lib.ListN.{take}
use borrow.Author.Tests.{not-true, not-false}
use Rattle.list.specs.List.{records}
use Rattle.list_fold.proofs.Linking.{Walks, seek-from, walk_start, walk_more, walk-differ, walk_end, next-is, two-low, two-not}
use borrow.Author.Rules.{rules}
use native.Mathlib.Omega.{arith}
use mathlib.Core.Path.{sym, ◌∙◌}
use Rattle.list_fold.proofs.same_past.Statement.{statement}
use Rattle.list_fold.proofs.same_past.Tie as tie

abbrev invariant-loop : tie.invariant-loop-i
invariant-loop list head next leads s r n i₀ j₀ i j = Walks (take s leads ++ (r ∷ [])) list s r i j

abbrev decreases-loop : tie.decreases-loop-i
decreases-loop list head next leads s r n i₀ j₀ i j = n - i

records-requires : tie.Need-records-n-requires invariant-loop decreases-loop
records-requires c κs = search rules

number-at-requires : tie.Need-number_at-i-requires invariant-loop decreases-loop
number-at-requires c κs =
    omega (arith, c.requires.0.long-heads, c.requires.1)

number-at-requires-2 : tie.Need-number_at-j-requires invariant-loop decreases-loop
number-at-requires-2 c κs =
    omega (arith, c.requires.0.long-heads, c.requires.2)

loop-holds : tie.Need-loop-i-init invariant-loop decreases-loop
loop-holds c =
    let a = c.args in
    let m = take a.s a.leads.now ++ (a.r ∷ []) in
    let e = c.number_at-i.ensures.0 ∙ c.requires.0.heads a.s c.requires.1 in
    let f = c.number_at-j.ensures.0 ∙ c.requires.0.heads a.r c.requires.2 in
    rw (e, f) (walk_start m a.list.now a.s a.r)

same-mark-requires : tie.Need-same_mark-requires invariant-loop decreases-loop
same-mark-requires c κs =
    let t = two-low c.loop-i.i c.loop-i.j c.records-n.result c.loop-i-test.true in let e = c.records-n.ensures in (rw e at t.0, rw e at t.1, c.requires.3)

returns : tie.Need-returns-then-not-same_mark invariant-loop decreases-loop
returns c =
    let a = c.args in
    let l = c.loop-i in
    let m = take a.s a.leads.now ++ (a.r ∷ []) in
    let e = c.records-n.ensures in
    let t = two-low c.loop-i.i c.loop-i.j c.records-n.result c.loop-i-test.true in
    sym (walk-differ m a.list.now a.s a.r l.i l.j l.invariant (rw e at t.0) (rw e at t.1) (sym c.same_mark.ensures ∙ not-true c.same_mark.result c.if-not-same_mark.true-raw))

number-at-requires-3 : tie.Need-number_at-i-requires-in-loop-i invariant-loop decreases-loop
number-at-requires-3 c κs =
    let t = two-low c.loop-i.i c.loop-i.j c.records-n.result c.loop-i-test.true in omega (arith, c.records-n.ensures, t.0, c.requires.0.few, c.requires.0.long-nexts)

number-at-requires-4 : tie.Need-number_at-j-requires-in-loop-i invariant-loop decreases-loop
number-at-requires-4 c κs =
    let t = two-low c.loop-i.i c.loop-i.j c.records-n.result c.loop-i-test.true in omega (arith, c.records-n.ensures, t.1, c.requires.0.few, c.requires.0.long-nexts)

loop-less : tie.Need-loop-i-smaller invariant-loop decreases-loop
loop-less c =
    let a = c.args in
    let l = c.loop-i in
    let e = c.records-n.ensures in
    let t = two-low c.loop-i.i c.loop-i.j c.records-n.result c.loop-i-test.true in
    let i : l.i < records a.list.now = rw e at t.0 in
    let q = c.number_at-i-in-loop-i.ensures.0 ∙ next-is a.list.now a.head.now a.next.now c.requires.0 a.s l.i c.requires.1 i (l.invariant.at_i i) in
    omega (arith, q, t.0, e, seek-from a.list.now a.s (suc l.i) i)

loop-again : tie.Need-loop-i-preserved invariant-loop decreases-loop
loop-again c =
    let a = c.args in
    let l = c.loop-i in
    let m = take a.s a.leads.now ++ (a.r ∷ []) in
    let e = c.records-n.ensures in
    let t = two-low c.loop-i.i c.loop-i.j c.records-n.result c.loop-i-test.true in
    let i : l.i < records a.list.now = rw e at t.0 in
    let j : l.j < records a.list.now = rw e at t.1 in
    let p = c.number_at-i-in-loop-i.ensures.0 ∙ next-is a.list.now a.head.now a.next.now c.requires.0 a.s l.i c.requires.1 i (l.invariant.at_i i) in
    let q = c.number_at-j-in-loop-i.ensures.0 ∙ next-is a.list.now a.head.now a.next.now c.requires.0 a.r l.j c.requires.2 j (l.invariant.at_j j) in
    rw (p, q) (walk_more m a.list.now a.s a.r l.i l.j l.invariant i j (sym c.same_mark.ensures ∙ not-false c.same_mark.result c.if-not-same_mark.false-raw))

returns-2 : tie.Need-returns invariant-loop decreases-loop
returns-2 c =
    let a = c.args in
    let l = c.loop-i in
    let m = take a.s a.leads.now ++ (a.r ∷ []) in
    let e = c.records-n.ensures in
    rw e (walk_end m a.list.now a.s a.r l.i l.j l.invariant (λ x y. two-not c.loop-i.i c.loop-i.j c.records-n.result c.loop-i-test.false (rw e x) (rw e y)))

pub same_past_spec : {M : Type 1} → statement M
same_past_spec =
    tie.close
    (tie.spec
    invariant-loop
    decreases-loop
    records-requires
    number-at-requires
    number-at-requires-2
    loop-holds
    same-mark-requires
    returns
    number-at-requires-3
    number-at-requires-4
    loop-less
    loop-again
    returns-2)
