-- `add` goes through the records; the invariant is what they give so far. Assumes nothing.
use mathlib.Core.Path.{refl, ap, ◌≡◌, ◌∙◌}
use lib.ListN.{length-append, length}
use native.Mathlib.Numerals.{add-one}
use Rattle.numbers.specs.Number.{placed}
use Rattle.numbers.proofs.Placing.{placed-none}
use Rattle.rules.specs.Scan.{stack}
use Rattle.list.specs.List.{records}
use Rattle.list_fold.specs.Fold.{chief_of}
use Rattle.list_fold.proofs.Coding.{front, front-more, front-whole, front-room, add-more}
use borrow.Author.Rules.{rules}
use native.Mathlib.Omega.{arith}
use Prim.Native.Nat.{◌≤◌, ◌<◌, ◌-◌}
use Rattle.list_fold.proofs.add.Statement.{statement}
use Rattle.list_fold.proofs.add.Tie as tie

abbrev invariant-loop : tie.invariant-loop-i
invariant-loop list leads numbers top out₀ n at₀ i₀ out at i = (i ≤ n) × (at ≡ length (front (chief_of list) list i)) × (out ≡ placed out₀ 0 (front (chief_of list) list i)) × (length out ≡ length out₀)

abbrev decreases-loop : tie.decreases-loop-i
decreases-loop list leads numbers top out₀ n at₀ i₀ out at i = n - i

records-requires : tie.Need-records-n-requires invariant-loop decreases-loop
records-requires c κs = search rules

loop-holds : tie.Need-loop-i-init invariant-loop decreases-loop
unfolding stack
loop-holds c =
    (search rules, refl, placed-none c.args.out.now 0 (omega arith), refl)

add-record-requires : tie.Need-add_record-at-requires invariant-loop decreases-loop
add-record-requires c κs =
    let L = c.args.list.now in
    let l = c.loop-i in
    let k : l.i < records L = omega (arith, c.records-n.ensures, c.loop-i-test.true) in
    (c.requires.0, k, omega (arith, l.invariant.1, l.invariant.3, c.requires.1, front-room (chief_of L) L l.i (records L) k, ap length (front-whole (chief_of L) L)))

add-i : tie.Need-overflow_step-i invariant-loop decreases-loop
add-i c = search rules

loop-less : tie.Need-loop-i-smaller invariant-loop decreases-loop
loop-less c = search rules

loop-again : tie.Need-loop-i-preserved invariant-loop decreases-loop
loop-again c =
    let L = c.args.list.now in
    let l = c.loop-i in
    let r = c.add_record-at.ensures in
    let k : l.i < records L = omega (arith, c.records-n.ensures, c.loop-i-test.true) in
    let m = add-more (chief_of L) L c.args.out.now l.i k c.requires.1 in
    (omega arith, rw (add-one, front-more (chief_of L) L l.i, length-append) (omega (arith, r.0, l.invariant.1)), rw add-one (r.1 ∙ rw (l.invariant.1, l.invariant.2) m), search rules)

same_length : tie.Need-shape_of-out invariant-loop decreases-loop
same_length c =
    search rules

returns : tie.Need-returns invariant-loop decreases-loop
returns c =
    let L = c.args.list.now in
    let e : c.loop-i.i ≡ records L = omega (arith, c.records-n.ensures) in
    rw (← front-whole (chief_of L) L, ← e) c.loop-i.invariant.2

pub add_spec : {M : Type 1} → statement M
add_spec =
    tie.close
    (tie.spec
    invariant-loop
    decreases-loop
    records-requires
    loop-holds
    add-record-requires
    add-i
    loop-less
    loop-again
    same_length
    returns)
