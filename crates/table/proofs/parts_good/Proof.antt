-- `parts_good` goes through the parts; the rows of those passed are right. Assumes nothing.
use borrow.Author.Rules.{rules}
use borrow.Author.Tests.{not-true, not-false}
use mathlib.Core.Path.{◌≡◌, sym, ap, ◌∙◌}
use mathlib.Core.Bool.{Bool, true}
use mathlib.Core.List.{List}
use Prim.Native.Nat.{ℕ, ◌-◌, ◌≤◌}
use native.Mathlib.Omega.{arith}
use lib.Dec.{eqb}
use Rattle.rules.specs.Scan.{every}
use Rattle.list.specs.Automaton.{step}
use Rattle.table.specs.Table.{byte_values, part_count, part, row}
use Rattle.table.proofs.Turns.{every-none, every_more, every-stops, every-ends}
use Rattle.table.proofs.parts_good.Statement.{statement}
use Rattle.table.proofs.parts_good.Tie as tie

-- the rows of part p, whose set is F, that bytes select are the steps
abbrev right : List ℕ → List ℕ → List ℕ → ℕ → ℕ → Bool
right list classes rows p F = every byte_values (λ d. eqb (row classes rows p d) (step list F d))

abbrev invariant-loop : tie.invariant-loop-p
invariant-loop list classes parts rows alikes k n p₀ p = (p ≤ n) × (every p (λ q. right list classes rows q (part parts q)) ≡ true)

abbrev decreases-loop : tie.decreases-loop-p
decreases-loop list classes parts rows alikes k n p₀ p = n - p

-- the way back from the loop's head to the entry
abbrev entry : tie.At-loop-p invariant-loop decreases-loop → tie.Start invariant-loop decreases-loop
entry c = c.before.before.before.before.before.before.before

-- what the test says
said : (c : tie.After-rows_at invariant-loop decreases-loop)
    → let h = c.before.before.before in
    let a = (entry h).args in
    c.rows_at.result ≡ right a.list.now a.classes.now a.rows.now h.loop-p.p (part a.parts.now h.loop-p.p)
said c =
    let h = c.before.before.before in
    let a = (entry h).args in
    c.rows_at.ensures ∙ ap (right a.list.now a.classes.now a.rows.now h.loop-p.p) c.part_set.ensures

part-count-requires : tie.Need-part_count-n-requires invariant-loop decreases-loop
part-count-requires c κs = search rules

loop-holds : tie.Need-loop-p-init invariant-loop decreases-loop
loop-holds c = (search rules, every-none _)

part-set-requires : tie.Need-part_set-requires invariant-loop decreases-loop
part-set-requires c κs = search rules

rows-at-requires : tie.Need-rows_at-requires invariant-loop decreases-loop
rows-at-requires c κs =
    let h = c.before.before in
    let s = entry h in
    (s.requires.0, omega (arith, h.part_count-n.ensures, s.requires.1), s.requires.2)

returns : tie.Need-returns-then-not-rows_at invariant-loop decreases-loop
returns c =
    let h = c.before.before.before.before in
    every-stops (part_count (entry h).args.parts.now) _ h.loop-p.p (omega arith) (sym (said c.before) ∙ not-true _ c.if-not-rows_at.true-raw)

add-p : tie.Need-overflow_step-p invariant-loop decreases-loop
add-p c = search rules

loop-less : tie.Need-loop-p-smaller invariant-loop decreases-loop
loop-less c = search rules

loop-again : tie.Need-loop-p-preserved invariant-loop decreases-loop
loop-again c =
    let l = c.loop-p in
    (search rules, every_more _ l.p l.invariant.1 (sym (said c.before) ∙ not-false _ c.if-not-rows_at.false-raw))

returns-2 : tie.Need-returns invariant-loop decreases-loop
returns-2 c = every-ends (part_count (entry c.before).args.parts.now) _ c.loop-p.p (omega arith) c.loop-p.invariant.1

pub parts_good_spec : {M : Type 1} → statement M
parts_good_spec =
    tie.close
    (tie.spec
    invariant-loop
    decreases-loop
    part-count-requires
    loop-holds
    part-set-requires
    rows-at-requires
    returns
    add-p
    loop-less
    loop-again
    returns-2)
