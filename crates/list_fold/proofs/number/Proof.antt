-- `number` goes through the states; the invariant is what is numbered so far. Assumes nothing.
use mathlib.Core.Path.{◌≡◌, sym, ◌∙◌}
use lib.ListN.{get_or}
use native.Mathlib.Numerals.{add-one}
use Rattle.list_fold.specs.inner.Known.{Numbered}
use Rattle.list_fold.specs.Fold.{leading, chief_of}
use Rattle.list_fold.proofs.Picks.{counted-most}
use Rattle.list_fold.proofs.Chiefs.{folds}
use Rattle.list_fold.proofs.Coding.{chief-read, number-none, number_more}
use borrow.Author.Rules.{rules}
use native.Mathlib.Omega.{arith}
use Prim.Native.Nat.{◌≤◌, ◌-◌}
use Rattle.list_fold.proofs.number.Statement.{statement}
use Rattle.list_fold.proofs.number.Tie as tie

abbrev invariant-loop : tie.invariant-loop-s
invariant-loop list leads top numbers₀ next₀ s₀ numbers next s = (s ≤ top) × Numbered (chief_of list) numbers s next

abbrev decreases-loop : tie.decreases-loop-s
decreases-loop list leads top numbers₀ next₀ s₀ numbers next s = top - s

loop-holds : tie.Need-loop-s-init invariant-loop decreases-loop
loop-holds c =
    (search rules, number-none (chief_of c.args.list.now) c.args.numbers.now c.requires.4)

number-state-requires : tie.Need-number_state-next-requires invariant-loop decreases-loop
number-state-requires c κs =
    let p = c.requires in
    let a = c.args in
    let l = c.loop-s in
    let q = chief-read a.list.now a.leads.now a.top p.0 p.2 (omega (arith, p.1, p.3)) l.s c.loop-s-test.true in
    (omega (arith, p.1), p.3, omega (arith, q, (folds a.list.now).low l.s), omega (arith, l.invariant.1.count, counted-most (leading (chief_of a.list.now)) l.s), l.invariant.1.long)

add-s : tie.Need-overflow_step-s invariant-loop decreases-loop
add-s c = search rules

loop-less : tie.Need-loop-s-smaller invariant-loop decreases-loop
loop-less c = search rules

loop-again : tie.Need-loop-s-preserved invariant-loop decreases-loop
loop-again c =
    let p = c.requires in
    let a = c.args in
    let l = c.loop-s in
    let e = c.number_state-next.ensures in
    let q = chief-read a.list.now a.leads.now a.top p.0 p.2 (omega (arith, p.1, p.3)) l.s c.loop-s-test.true in
    (omega arith, rw (e.0, e.1, add-one) (number_more (chief_of a.list.now) a.list.now (folds a.list.now) l.numbers l.s l.next (omega (arith, p.1)) l.invariant.1 (get_or a.leads.now l.s 0) (sym q)))

same_length : tie.Need-shape_of-numbers invariant-loop decreases-loop
same_length c =
    c.loop-s.invariant.1.long ∙ sym c.requires.4

returns : tie.Need-returns invariant-loop decreases-loop
returns c =
    let p = c.requires in
    let l = c.loop-s in
    let e : l.s ≡ c.args.top = omega arith in
    record { top-is = p.0; low = p.1; chiefs-are = p.2; long = p.3; numbered = λ s h. l.invariant.1.numbers s (omega (arith, e, h)); many = l.invariant.1.long }

pub number_spec : {M : Type 1} → statement M
number_spec =
    tie.close
    (tie.spec
    invariant-loop
    decreases-loop
    loop-holds
    number-state-requires
    add-s
    loop-less
    loop-again
    same_length
    returns)
