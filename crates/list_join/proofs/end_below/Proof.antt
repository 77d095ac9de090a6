-- `end_below` goes down from m, eight marks at a time. The loop's invariant: all marks from s on are 0. Assumes nothing.
use Prim.Native.Nat.{ℕ, ◌≤◌, ◌<◌}
use mathlib.Core.Path.{◌≡◌, sym, ◌∙◌}
use lib.ListN.{get_or}
use Rattle.list_join.proofs.Marking.{eight-more, ends_more}
use native.Mathlib.Omega.{arith}
use borrow.Author.Rules.{rules}
use Rattle.list_join.proofs.end_below.Statement.{statement}
use Rattle.list_join.proofs.end_below.Tie as tie

abbrev invariant-loop : tie.invariant-loop-s
invariant-loop marks m s₀ s = (s ≤ m) × ((q : ℕ) → s ≤ q → q < m → get_or marks q 0 ≡ 0)

abbrev decreases-loop : tie.decreases-loop-s
decreases-loop marks m s₀ s = s

loop-holds : tie.Need-loop-s-init invariant-loop decreases-loop
loop-holds c = (omega arith, λ q a b. absurd (omega arith))

whole-number-requires : tie.Need-whole_number-requires invariant-loop decreases-loop
whole-number-requires c κs = search rules

end-near-requires : tie.Need-end_near-requires invariant-loop decreases-loop
end-near-requires c κs = search rules

returns : tie.Need-returns-then-whole_number-ne0 invariant-loop decreases-loop
returns c =
    let a = c.args in
    let l = c.loop-s in
    ends_more a.marks.now a.m l.s l.invariant.1 l.invariant.0 c.end_near.result c.end_near.ensures

loop-less : tie.Need-loop-s-smaller invariant-loop decreases-loop
loop-less c = search rules

loop-again : tie.Need-loop-s-preserved invariant-loop decreases-loop
loop-again c =
    let a = c.args in
    let l = c.loop-s in
    (omega (arith, l.invariant.0), eight-more a.marks.now a.m l.s l.invariant.1 c.loop-s-test.true (sym c.whole_number.ensures ∙ c.if-whole_number-ne0.false))

end-near-requires-2 : tie.Need-end_near-requires-2 invariant-loop decreases-loop
end-near-requires-2 c κs = search rules

returns-2 : tie.Need-returns invariant-loop decreases-loop
returns-2 c =
    let a = c.args in
    let l = c.loop-s in
    ends_more a.marks.now a.m l.s l.invariant.1 l.invariant.0 c.end_near-2.result c.end_near-2.ensures

pub end_below_spec : {M : Type 1} → statement M
end_below_spec =
    tie.close
    (tie.spec
    invariant-loop
    decreases-loop
    loop-holds
    whole-number-requires
    end-near-requires
    returns
    loop-less
    loop-again
    end-near-requires-2
    returns-2)
