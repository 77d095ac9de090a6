-- `no-start` goes through the records; none passed is a start, and it ends at the first that is one. Assumes nothing.
use borrow.Author.Rules.{rules}
use mathlib.Core.Path.{◌≡◌, refl, sym, ap, ◌∙◌}
use mathlib.Core.Bool.{false, not}
use Prim.Native.Nat.{◌≤◌, ◌-◌}
use native.Mathlib.Omega.{arith}
use native.Mathlib.Numerals.{add-one}
use Rattle.rules.specs.Scan.{some}
use Rattle.list.specs.List.{is_start, no_start, records}
use Rattle.rules.proofs.Scanning.{some-intro}
use Rattle.list.proofs.no_start.Statement.{statement}
use Rattle.list.proofs.no_start.Tie as tie

abbrev invariant-loop : tie.invariant-loop-i
invariant-loop list n i₀ i = (i ≤ n) × (some i (is_start list) ≡ false)

abbrev decreases-loop : tie.decreases-loop-i
decreases-loop list n i₀ i = n - i

records-requires : tie.Need-records-n-requires invariant-loop decreases-loop
records-requires c κs = search rules

loop-holds : tie.Need-loop-i-init invariant-loop decreases-loop
unfolding some
loop-holds c = (search rules, refl)

is-start-requires : tie.Need-is_start-requires invariant-loop decreases-loop
is-start-requires c κs = search rules

returns : tie.Need-returns-then-is_start invariant-loop decreases-loop
unfolding no_start
returns c =
    let p = c.loop-i in
    let a = c.args in
    sym (ap not (some-intro (records a.list.now) (is_start a.list.now) p.i (omega arith) (sym c.is_start.ensures ∙ c.if-is_start.true)))

add-i : tie.Need-overflow_step-i invariant-loop decreases-loop
add-i c = search rules

loop-less : tie.Need-loop-i-smaller invariant-loop decreases-loop
loop-less c = search rules

loop-again : tie.Need-loop-i-preserved invariant-loop decreases-loop
unfolding some
loop-again c = (search rules, rw add-one (cc))

returns-2 : tie.Need-returns invariant-loop decreases-loop
unfolding no_start
returns-2 c = let e : c.loop-i.i ≡ records c.args.list.now = omega arith in rw (sym e, c.loop-i.invariant.1)

pub no_start_spec : {M : Type 1} → statement M
no_start_spec =
    tie.close
    (tie.spec
    invariant-loop
    decreases-loop
    records-requires
    loop-holds
    is-start-requires
    returns
    add-i
    loop-less
    loop-again
    returns-2)
