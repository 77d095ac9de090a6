-- `rows_at` goes through the bytes; the rows of those passed are right, and that of a byte that steps as a lower one of its class. Assumes nothing.
use borrow.Author.Rules.{rules}
use borrow.Author.Tests.{not-true, not-false}
use mathlib.Core.Path.{◌≡◌, sym, ap₂, ◌∙◌}
use mathlib.Core.Bool.{Bool, true}
use mathlib.Core.List.{List}
use Prim.Native.Nat.{ℕ, ◌-◌, ◌≤◌}
use native.Mathlib.Omega.{arith}
use lib.Dec.{eqb}
use Rattle.sets.specs.Set.{set_of}
use Rattle.rules.specs.Scan.{every}
use Rattle.rules.proofs.Scanning.{choose}
use Rattle.list.specs.Automaton.{step}
use Rattle.table.specs.Table.{byte_values, row}
use Rattle.table.proofs.Lowers.{lower-row}
use Rattle.table.proofs.Turns.{every-none, every_more, every-stops, every-ends}
use Rattle.table.proofs.rows_at.Statement.{statement}
use Rattle.table.proofs.rows_at.Tie as tie

-- the row of part p, whose set is F, that byte c selects is the step
abbrev right : List ℕ → List ℕ → List ℕ → ℕ → ℕ → ℕ → Bool
right list classes rows p F c = eqb (row classes rows p c) (step list F c)

abbrev invariant-loop : tie.invariant-loop-c
invariant-loop list classes rows alikes k p f c₀ c = (c ≤ byte_values) × (every c (right list classes rows p (set_of f)) ≡ true)

abbrev decreases-loop : tie.decreases-loop-c
decreases-loop list classes rows alikes k p f c₀ c = byte_values - c

-- the way back from the loop's head to the entry
abbrev entry : tie.At-loop-c invariant-loop decreases-loop → tie.Start invariant-loop decreases-loop
entry c = c.before.before.before.before.before

-- what the test says
said : (c : tie.After-same invariant-loop decreases-loop)
    → let h = c.before.before.before.before.before.before in
    let a = (entry h).args in
    c.same.result ≡ right a.list.now a.classes.now a.rows.now a.p (set_of a.f) h.loop-c.c
said c = c.same.ensures ∙ ap₂ (λ (x y : ℕ). eqb x y) c.row_set.ensures c.step.ensures

-- the row is right, be the byte stepped or not
stepped : (c : tie.Joined-not-same_as_lower invariant-loop decreases-loop)
    → let h = c.before.before.before in
    let a = (entry h).args in
    right a.list.now a.classes.now a.rows.now a.p (set_of a.f) h.loop-c.c ≡ true
stepped c =
    let h = c.before.before.before in
    let a = (entry h).args in
    choose c.if-not-same_as_lower.branch-raw
    (λ w. sym (w.same.ensures ∙ ap₂ (λ (x y : ℕ). eqb x y) w.row_set.ensures w.step.ensures) ∙ not-false _ w.if-not-same.false-raw)
    (λ w. lower-row a.list.now a.classes.now a.rows.now a.alikes.now a.p (set_of a.f) h.loop-c.c (entry h).requires.2 (omega arith) h.loop-c.invariant.1 (sym c.same_as_lower.ensures ∙ not-false _ w.if-not-same_as_lower.false-raw))

loop-holds : tie.Need-loop-c-init invariant-loop decreases-loop
loop-holds c = (search rules, every-none _)

cast-same-as-lower : tie.Need-overflow_cast-c invariant-loop decreases-loop
cast-same-as-lower c = search rules

same-as-lower-requires : tie.Need-same_as_lower-requires invariant-loop decreases-loop
same-as-lower-requires c κs = search rules

cast-row-set : tie.Need-overflow_cast-c-then-not-same_as_lower invariant-loop decreases-loop
cast-row-set c = search rules

row-set-requires : tie.Need-row_set-requires invariant-loop decreases-loop
row-set-requires c κs = search rules

cast-step : tie.Need-overflow_cast-c-then-not-same_as_lower-2 invariant-loop decreases-loop
cast-step c = search rules

step-requires : tie.Need-step-requires invariant-loop decreases-loop
step-requires c κs = search rules

same-requires : tie.Need-same-requires invariant-loop decreases-loop
same-requires c κs = search rules

returns : tie.Need-returns-then-not-same invariant-loop decreases-loop
returns c =
    let l = c.loop-c in
    every-stops byte_values _ l.c (omega arith) (sym (said c.before) ∙ not-true _ c.if-not-same.true-raw)

add-c : tie.Need-overflow_step-c invariant-loop decreases-loop
add-c c = search rules

loop-less : tie.Need-loop-c-smaller invariant-loop decreases-loop
loop-less c = search rules

loop-again : tie.Need-loop-c-preserved invariant-loop decreases-loop
loop-again c =
    let l = c.loop-c in
    (search rules, every_more _ l.c l.invariant.1 (stepped c))

returns-2 : tie.Need-returns invariant-loop decreases-loop
returns-2 c = every-ends byte_values _ c.loop-c.c (omega arith) c.loop-c.invariant.1

pub rows_at_spec : {M : Type 1} → statement M
rows_at_spec =
    tie.close
    (tie.spec
    invariant-loop
    decreases-loop
    loop-holds
    cast-same-as-lower
    same-as-lower-requires
    cast-row-set
    row-set-requires
    cast-step
    step-requires
    same-requires
    returns
    add-c
    loop-less
    loop-again
    returns-2)
