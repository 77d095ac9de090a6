-- `add` goes through the records; the invariant is what they add so far. Assumes nothing.
use lib.ListN.{length-append, length}
use Rattle.rules.specs.Scan.{stack}
use Rattle.numbers.specs.Number.{placed}
use native.Mathlib.Numerals.{add-one}
use mathlib.Core.Path.{refl, ◌≡◌, ◌∙◌}
use Rattle.numbers.proofs.Placing.{placed-none}
use Rattle.list.proofs.Steps.{good-at}
use Rattle.list_join.proofs.Deciding.{added_more, added-room, add-more}
use Rattle.list.specs.List.{records}
use Rattle.list_join.specs.Join.{added}
use borrow.Author.Rules.{rules}
use native.Mathlib.Omega.{arith}
use Prim.Native.Nat.{◌≤◌, ◌<◌, ◌-◌, ◌+◌}
use Rattle.list_join.proofs.add.Statement.{statement}
use Rattle.list_join.proofs.add.Tie as tie

abbrev invariant-loop : tie.invariant-loop-i
invariant-loop list₀ used n top b m new at₀ i₀ list at i =
    (i ≤ m) × (at ≡ used + length (added n b i)) × (list ≡ placed list₀ used (added n b i)) × (length list ≡ length list₀)

abbrev decreases-loop : tie.decreases-loop-i
decreases-loop list₀ used n top b m new at₀ i₀ list at i = m - i

records-requires : tie.Need-records-m-requires invariant-loop decreases-loop
records-requires c κs = search rules

new-numbers-requires : tie.Need-new_numbers-new-requires invariant-loop decreases-loop
new-numbers-requires c κs = c.requires.2

loop-holds : tie.Need-loop-i-init invariant-loop decreases-loop
unfolding stack
loop-holds c =
    let a = c.args in
    (search rules, omega arith, placed-none a.list.now a.used (omega (arith, c.requires.3)), refl)

slice-aggregate-add-record : tie.Need-slice_bounds-add_record-end invariant-loop decreases-loop
slice-aggregate-add-record c = search rules

add-record-requires : tie.Need-add_record-at-requires invariant-loop decreases-loop
add-record-requires c κs =
    let l = c.loop-i in
    let a = c.args in
    let h : l.i < records a.b.now = omega (arith, c.records-m.ensures) in
    (rw (← c.requires.1) c.new_numbers-new.ensures, h, good-at a.b.now c.requires.0 l.i h, omega (arith, l.invariant.1, l.invariant.3, c.requires.3, added-room a.n a.b.now l.i (records a.b.now) h), omega (arith, c.requires.2.own, c.requires.2.below))

add-i : tie.Need-overflow_step-i invariant-loop decreases-loop
add-i c = search rules

loop-less : tie.Need-loop-i-smaller invariant-loop decreases-loop
loop-less c = search rules

loop-again : tie.Need-loop-i-preserved invariant-loop decreases-loop
loop-again c =
    let l = c.loop-i in
    let a = c.args in
    let h : l.i < records a.b.now = omega (arith, c.records-m.ensures) in
    let r = c.add_record-at.ensures in
    let q = added_more a.n a.b.now l.i in
    let m = add-more a.n a.b.now a.list.now a.used l.i (records a.b.now) h c.requires.3 in
    (search rules, rw (add-one, q, length-append) (omega (arith, r.0, l.invariant.1)), rw add-one (r.1 ∙ rw (l.invariant.1, l.invariant.2) m), search rules)

same_length : tie.Need-shape_of-list invariant-loop decreases-loop
same_length c = search rules

returns : tie.Need-returns invariant-loop decreases-loop
returns c =
    let l = c.loop-i in
    let e : l.i ≡ records c.args.b.now = omega (arith, c.records-m.ensures) in
    (rw (← e) l.invariant.1, rw (← e) l.invariant.2)

pub add_spec : {M : Type 1} → statement M
add_spec =
    tie.close
    (tie.spec
    invariant-loop
    decreases-loop
    records-requires
    new-numbers-requires
    loop-holds
    slice-aggregate-add-record
    add-record-requires
    add-i
    loop-less
    loop-again
    same_length
    returns)
