-- `is_left` meets its promise. Assumes nothing.
use borrow.Author.Rules.{rules}
use borrow.Author.Tests.{eq-eqb, ne_eqb}
use mathlib.Core.Path.{◌≡◌, sym, ap, ◌∙◌}
use mathlib.Core.Bool.{false}
use Prim.Native.Nat.{ℕ, ◌-◌, ◌≤◌}
use native.Mathlib.Omega.{arith}
use lib.Dec.{eqb}
use Rattle.rules.specs.Scan.{some}
use Rattle.rules.proofs.Scanning.{some-intro}
use Rattle.list.specs.List.{records, from}
use Rattle.table_classes.proofs.Turns.{some-zero, some_more}
use Rattle.table_classes.proofs.is_left.Statement.{statement}
use Rattle.table_classes.proofs.is_left.Tie as tie

abbrev invariant-loop : tie.invariant-loop-i
invariant-loop list s i₀ i-end i = (i ≤ i-end) × (some i (λ j. eqb (from list j) s) ≡ false)

abbrev decreases-loop : tie.decreases-loop-i
decreases-loop list s i₀ i-end i = i-end - i

loop-holds : tie.Need-loop-i-init invariant-loop decreases-loop
loop-holds c = (omega arith, some-zero _)

from-requires : tie.Need-from-requires invariant-loop decreases-loop
from-requires c κs = omega arith

returns : tie.Need-returns-then-from-s invariant-loop decreases-loop
returns c =
    let s = c in
    let i = c.loop-i.i in
    sym (some-intro (records s.args.list.now) (λ j. eqb (from s.args.list.now j) s.args.s) i (omega arith) (eq-eqb _ _ (sym c.from.ensures ∙ c.if-from-s.true)))

add-i : tie.Need-overflow_step-i invariant-loop decreases-loop
add-i c = search rules

loop-less : tie.Need-loop-i-smaller invariant-loop decreases-loop
loop-less c = search rules

loop-again : tie.Need-loop-i-preserved invariant-loop decreases-loop
loop-again c =
    (omega arith, some_more _ c.loop-i.i c.loop-i.invariant.1 (ne_eqb _ _ (λ e. c.if-from-s.false (c.from.ensures ∙ e))))

returns-2 : tie.Need-returns invariant-loop decreases-loop
returns-2 c =
    let s = c in
    let e : c.loop-i.i ≡ records s.args.list.now = omega (arith, c.loop-i.invariant.0) in
    sym (ap (λ (n : ℕ). some n (λ j. eqb (from s.args.list.now j) s.args.s)) (sym e) ∙ c.loop-i.invariant.1)

pub is_left_spec : {M : Type 1} → statement M
is_left_spec =
    tie.close
    (tie.spec
    invariant-loop
    decreases-loop
    loop-holds
    from-requires
    returns
    add-i
    loop-less
    loop-again
    returns-2)
