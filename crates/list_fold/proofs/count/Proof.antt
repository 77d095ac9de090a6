-- `count` goes through the records. Assumes nothing.
use mathlib.Core.Path.{refl, ◌≡◌, sym, ◌∙◌}
use native.Mathlib.Numerals.{add-one}
use Rattle.rules.proofs.Scanning.{choose}
use Rattle.list.specs.List.{records}
use Rattle.list_fold.specs.Fold.{counted, stays, chief_of}
use Rattle.list_fold.proofs.Picks.{counted-in, counted-out}
use borrow.Author.Rules.{rules}
use native.Mathlib.Omega.{arith}
use Prim.Native.Nat.{◌≤◌, ◌-◌}
use Rattle.list_fold.proofs.count.Statement.{statement}
use Rattle.list_fold.proofs.count.Tie as tie

abbrev invariant-loop : tie.invariant-loop-i
invariant-loop list leads top n kept₀ i₀ kept i = (i ≤ n) × (kept ≡ counted (stays (chief_of list) list) i) × (kept ≤ i)

abbrev decreases-loop : tie.decreases-loop-i
decreases-loop list leads top n kept₀ i₀ kept i = n - i

records-requires : tie.Need-records-n-requires invariant-loop decreases-loop
records-requires c κs = search rules

loop-holds : tie.Need-loop-i-init invariant-loop decreases-loop
unfolding counted
loop-holds c =
    (search rules, refl, search rules)

stays-requires : tie.Need-stays-requires invariant-loop decreases-loop
stays-requires c κs =
    let p = c.requires in (search rules, p.0, p.1, p.2)

add_kept : tie.Need-overflow_add-kept invariant-loop decreases-loop
add_kept c =
    omega (arith, c.loop-i.invariant.2)

add-i : tie.Need-overflow_step-i invariant-loop decreases-loop
add-i c = search rules

loop-less : tie.Need-loop-i-smaller invariant-loop decreases-loop
loop-less c = search rules

loop-again : tie.Need-loop-i-preserved invariant-loop decreases-loop
loop-again c =
    let L = c.args.list.now in
    let l = c.loop-i in
    let s = c.stays.ensures in
    choose c.if-stays.branch-raw
    (λ w. (omega arith, rw add-one (w.kept-is ∙ omega (arith, l.invariant.1) ∙ sym (counted-in (stays (chief_of L) L) l.i (sym s ∙ w.if-stays.true))), omega (arith, w.kept-is, l.invariant.2)))
    (λ w. (omega arith, rw add-one (w.kept-is ∙ l.invariant.1 ∙ sym (counted-out (stays (chief_of L) L) l.i (sym s ∙ w.if-stays.false))), omega (arith, w.kept-is, l.invariant.2)))

returns : tie.Need-returns invariant-loop decreases-loop
returns c =
    let L = c.args.list.now in
    let e : c.loop-i.i ≡ records L = omega (arith, c.records-n.ensures) in
    rw (← e) c.loop-i.invariant.1

pub count_spec : {M : Type 1} → statement M
count_spec =
    tie.close
    (tie.spec
    invariant-loop
    decreases-loop
    records-requires
    loop-holds
    stays-requires
    add_kept
    add-i
    loop-less
    loop-again
    returns)
