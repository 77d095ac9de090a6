-- `slots_good` goes through the splits; the slots of those passed are good. Assumes nothing.
use borrow.Author.Rules.{rules}
use borrow.Author.Tests.{not-true, not-false}
use mathlib.Core.Path.{◌≡◌, sym, ◌∙◌}
use mathlib.Core.Bool.{Bool, true}
use mathlib.Core.List.{List}
use Prim.Native.Nat.{ℕ, ◌-◌, ◌≤◌}
use native.Mathlib.Omega.{arith}
use Rattle.rules.specs.Scan.{every}
use Rattle.table.specs.Table.{split_count, slots, good_slots}
use Rattle.table.proofs.Turns.{every-none, every_more, every-stops, every-ends}
use Rattle.table.proofs.slots_good.Statement.{statement}
use Rattle.table.proofs.slots_good.Tie as tie

-- split i has good slots
abbrev good : List ℕ → ℕ → ℕ → ℕ → Bool
good splits n bound i = good_slots n bound (slots splits i)

abbrev invariant-loop : tie.invariant-loop-i
invariant-loop splits n bound m i₀ i = (i ≤ m) × (every i (good splits n bound) ≡ true)

abbrev decreases-loop : tie.decreases-loop-i
decreases-loop splits n bound m i₀ i = m - i

-- the way back from the loop's head to the entry
abbrev entry : tie.At-loop-i invariant-loop decreases-loop → tie.Start invariant-loop decreases-loop
entry c = c.before.before.before

split-count-requires : tie.Need-split_count-m-requires invariant-loop decreases-loop
split-count-requires c κs = search rules

loop-holds : tie.Need-loop-i-init invariant-loop decreases-loop
loop-holds c = (search rules, every-none _)

good-slots-requires : tie.Need-good_slots-requires invariant-loop decreases-loop
good-slots-requires c κs = search rules

returns : tie.Need-returns-then-not-good_slots invariant-loop decreases-loop
returns c =
    let h = c.before.before.before in
    every-stops (split_count (entry h).args.splits.now) _ h.loop-i.i (omega arith) (sym c.good_slots.ensures ∙ not-true _ c.if-not-good_slots.true-raw)

add-i : tie.Need-overflow_step-i invariant-loop decreases-loop
add-i c = search rules

loop-less : tie.Need-loop-i-smaller invariant-loop decreases-loop
loop-less c = search rules

loop-again : tie.Need-loop-i-preserved invariant-loop decreases-loop
loop-again c =
    let l = c.loop-i in
    (search rules, every_more _ l.i l.invariant.1 (sym c.good_slots.ensures ∙ not-false _ c.if-not-good_slots.false-raw))

returns-2 : tie.Need-returns invariant-loop decreases-loop
returns-2 c = every-ends (split_count (entry c.before).args.splits.now) _ c.loop-i.i (omega arith) c.loop-i.invariant.1

pub slots_good_spec : {M : Type 1} → statement M
slots_good_spec =
    tie.close
    (tie.spec
    invariant-loop
    decreases-loop
    split-count-requires
    loop-holds
    good-slots-requires
    returns
    add-i
    loop-less
    loop-again
    returns-2)
