-- `lowest_of` meets its promise. Assumes nothing.
use borrow.Author.Rules.{rules}
use borrow.Author.Tests.{eq-eqb, ne_eqb}
use mathlib.Core.Path.{◌≡◌, sym, ap, ◌∙◌}
use mathlib.Core.Bool.{false, true≢false}
use Prim.Native.Nat.{ℕ, ◌-◌, ◌≤◌}
use native.Mathlib.Omega.{arith}
use lib.ListN.{get_or}
use lib.Dec.{eqb}
use Rattle.rules.specs.Scan.{some}
use Rattle.rules.proofs.Scanning.{first-at}
use Rattle.table.specs.Table.{byte_values}
use Rattle.table_classes.proofs.Turns.{some-zero, some_more}
use Rattle.table_classes.proofs.lowest_of.Statement.{statement}
use Rattle.table_classes.proofs.lowest_of.Tie as tie

abbrev invariant-loop : tie.invariant-loop-c
invariant-loop classes q c₀ c = (c ≤ byte_values) × (some c (λ d. eqb (get_or classes d 0) q) ≡ false)

abbrev decreases-loop : tie.decreases-loop-c
decreases-loop classes q c₀ c = byte_values - c

loop-holds : tie.Need-loop-c-init invariant-loop decreases-loop
loop-holds c = (omega arith, some-zero _)

shared-slice-read-if1 : tie.Need-bounds-classes-c invariant-loop decreases-loop
shared-slice-read-if1 c = search rules

cast-result : tie.Need-overflow_cast-result invariant-loop decreases-loop
cast-result c = search rules

returns : tie.Need-returns-then-classes-c invariant-loop decreases-loop
returns c = sym (first-at byte_values _ c.loop-c.c (omega arith) c.loop-c.invariant.1 (eq-eqb _ _ c.if-classes-c.true))

add-c : tie.Need-overflow_step-c invariant-loop decreases-loop
add-c c = search rules

loop-less : tie.Need-loop-c-smaller invariant-loop decreases-loop
loop-less c = search rules

loop-again : tie.Need-loop-c-preserved invariant-loop decreases-loop
loop-again c = (omega arith, some_more _ c.loop-c.c c.loop-c.invariant.1 (ne_eqb _ _ c.if-classes-c.false))

returns-2 : tie.Need-returns invariant-loop decreases-loop
returns-2 c = let e : c.loop-c.c ≡ byte_values = omega (arith, c.loop-c.invariant.0) in absurd (true≢false (sym c.requires.1 ∙ ap (λ (n : ℕ). some n (λ d. eqb (get_or c.args.classes.now d 0) c.args.q)) (sym e) ∙ c.loop-c.invariant.1))

pub lowest_of_spec : {M : Type 1} → statement M
lowest_of_spec =
    tie.close
    (tie.spec
    invariant-loop
    decreases-loop
    loop-holds
    shared-slice-read-if1
    cast-result
    returns
    add-c
    loop-less
    loop-again
    returns-2)
