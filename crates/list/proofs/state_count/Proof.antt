-- `state_count` goes through the records; the invariant is the definition at i. Assumes nothing.
use borrow.Author.Rules.{rules}
use native.Mathlib.Omega.{arith}
use Prim.Native.Nat.{◌≤◌, ◌<◌, ◌-◌}
use mathlib.Core.Path.{◌≡◌, refl, ap, ◌∙◌}
use native.Mathlib.Numerals.{add-one}
use Rattle.list.specs.List.{records}
use Rattle.list.specs.Automaton.{higher, highest_by}
use Rattle.list.proofs.Highest.{highest-lt}
use Rattle.list.proofs.state_count.Statement.{statement}
use Rattle.list.proofs.state_count.Tie as tie

abbrev invariant-loop : tie.invariant-loop-i
invariant-loop list n top₀ i₀ top i = (i ≤ n) × (top ≡ highest_by list i)

abbrev decreases-loop : tie.decreases-loop-i
decreases-loop list n top₀ i₀ top i = n - i

records-requires : tie.Need-records-n-requires invariant-loop decreases-loop
records-requires c κs = search rules

loop-holds : tie.Need-loop-i-init invariant-loop decreases-loop
unfolding highest_by
loop-holds c = (search rules, refl)

higher-requires : tie.Need-higher-top-requires invariant-loop decreases-loop
higher-requires c κs = search rules

add-i : tie.Need-overflow_step-i invariant-loop decreases-loop
add-i c = search rules

loop-less : tie.Need-loop-i-smaller invariant-loop decreases-loop
loop-less c = search rules

loop-again : tie.Need-loop-i-preserved invariant-loop decreases-loop
unfolding highest_by
loop-again c =
    let l = c.loop-i in
    (search rules, rw add-one (c.higher-top.ensures ∙ ap (higher c.args.list.now l.i) l.invariant.1))

small : (c : tie.After-loop-i invariant-loop decreases-loop) → c.loop-i.top < 65536
small c = rw c.loop-i.invariant.1 (highest-lt c.args.list.now (λ i. (c.shared_slice_known-1.given i).fits) c.loop-i.i)

add-result : tie.Need-overflow_add-result invariant-loop decreases-loop
add-result c = omega (arith, small c)

returns : tie.Need-returns invariant-loop decreases-loop
returns c =
    let e : c.loop-i.i ≡ records c.args.list.now = omega (arith, c.records-n.ensures) in
    (rw (← e) (omega (arith, c.loop-i.invariant.1)), omega (arith, small c))

pub state_count_spec : {M : Type 1} → statement M
state_count_spec =
    tie.close
    (tie.spec
    invariant-loop
    decreases-loop
    records-requires
    loop-holds
    higher-requires
    add-i
    loop-less
    loop-again
    add-result
    returns)
