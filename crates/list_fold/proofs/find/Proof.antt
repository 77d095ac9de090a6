-- `find` goes through the states below; none before is joined. Assumes nothing.
use mathlib.Core.Bool.{false}
use mathlib.Core.Path.{refl, ◌≡◌, sym, ◌∙◌}
use lib.ListN.{take}
use native.Mathlib.Numerals.{add-one}
use Rattle.rules.specs.Scan.{some}
use Rattle.rules.proofs.Scanning.{first-at, first-none}
use Rattle.list_fold.specs.Fold.{follows}
use Rattle.list_fold.proofs.Coding.{some_out}
use borrow.Author.Rules.{rules}
use native.Mathlib.Omega.{arith}
use Prim.Native.Nat.{◌≤◌, ◌-◌}
use Rattle.list_fold.proofs.find.Statement.{statement}
use Rattle.list_fold.proofs.find.Tie as tie

abbrev invariant-loop : tie.invariant-loop-r
invariant-loop list starts head next leads s r₀ r = (r ≤ s) × (some r (follows (take s leads) list s) ≡ false)

abbrev decreases-loop : tie.decreases-loop-r
decreases-loop list starts head next leads s r₀ r = s - r

loop-holds : tie.Need-loop-r-init invariant-loop decreases-loop
unfolding some
loop-holds c =
    (search rules, refl)

follows-requires : tie.Need-follows-requires invariant-loop decreases-loop
follows-requires c κs =
    let p = c.requires in (p.0, p.1, p.2, c.loop-r-test.true, p.3)

returns : tie.Need-returns-then-follows invariant-loop decreases-loop
returns c =
    let a = c.args in
    (sym (first-at a.s (follows (take a.s a.leads.now) a.list.now a.s) c.loop-r.r (omega arith) c.loop-r.invariant.1 (sym c.follows.ensures ∙ c.if-follows.true)), omega arith)

add_r : tie.Need-overflow_step-r invariant-loop decreases-loop
add_r c = search rules

loop-less : tie.Need-loop-r-smaller invariant-loop decreases-loop
loop-less c = search rules

loop-again : tie.Need-loop-r-preserved invariant-loop decreases-loop
loop-again c =
    let a = c.args in
    (search rules, rw add-one (some_out (follows (take a.s a.leads.now) a.list.now a.s) c.loop-r.r c.loop-r.invariant.1 (sym c.follows.ensures ∙ c.if-follows.false)))

returns-2 : tie.Need-returns invariant-loop decreases-loop
returns-2 c =
    let a = c.args in
    let e : c.loop-r.r ≡ a.s = omega arith in
    (sym (first-none a.s (follows (take a.s a.leads.now) a.list.now a.s) (rw e at c.loop-r.invariant.1)), omega arith)

pub find_spec : {M : Type 1} → statement M
find_spec =
    tie.close
    (tie.spec
    invariant-loop
    decreases-loop
    loop-holds
    follows-requires
    returns
    add_r
    loop-less
    loop-again
    returns-2)
