-- `unions_good` goes through the splits; the sets of those passed are the unions of their parts. Assumes nothing.
use borrow.Author.Rules.{rules}
use borrow.Author.Tests.{not-true, not-false}
use mathlib.Core.Path.{◌≡◌, sym, ap₂, ◌∙◌}
use mathlib.Core.Bool.{Bool, true}
use mathlib.Core.List.{List}
use Prim.Native.Nat.{ℕ, ◌-◌, ◌≤◌}
use native.Mathlib.Omega.{arith}
use lib.Dec.{eqb}
use Rattle.rules.specs.Scan.{every}
use Rattle.table.specs.Table.{split_count, part, split_set, slots, used_slots, joined}
use Rattle.table.proofs.Turns.{every-none, every_more, every-stops, every-ends}
use Rattle.table.proofs.unions_good.Statement.{statement}
use Rattle.table.proofs.unions_good.Tie as tie

-- the set of split i is the union of its parts
abbrev united : List ℕ → List ℕ → ℕ → Bool
united parts splits i = eqb (split_set splits i) (joined (part parts) (used_slots (slots splits i)))

abbrev invariant-loop : tie.invariant-loop-i
invariant-loop parts splits n i₀ i = (i ≤ n) × (every i (united parts splits) ≡ true)

abbrev decreases-loop : tie.decreases-loop-i
decreases-loop parts splits n i₀ i = n - i

-- the way back from the loop's head to the entry
abbrev entry : tie.At-loop-i invariant-loop decreases-loop → tie.Start invariant-loop decreases-loop
entry c = c.before.before.before.before

-- what the test says
said : (c : tie.After-same invariant-loop decreases-loop)
    → let h = c.before.before.before.before in
    c.same.result ≡ united (entry h).args.parts.now (entry h).args.splits.now h.loop-i.i
said c = c.same.ensures ∙ ap₂ (λ (x y : ℕ). eqb x y) c.split_set.ensures c.union_of.ensures

split-count-requires : tie.Need-split_count-n-requires invariant-loop decreases-loop
split-count-requires c κs = search rules

loop-holds : tie.Need-loop-i-init invariant-loop decreases-loop
loop-holds c = (search rules, every-none _)

split-set-requires : tie.Need-split_set-requires invariant-loop decreases-loop
split-set-requires c κs = search rules

union-of-requires : tie.Need-union_of-requires invariant-loop decreases-loop
union-of-requires c κs = search rules

same-requires : tie.Need-same-requires invariant-loop decreases-loop
same-requires c κs = search rules

returns : tie.Need-returns-then-not-same invariant-loop decreases-loop
returns c =
    let h = c.before.before.before.before.before in
    every-stops (split_count (entry h).args.splits.now) _ h.loop-i.i (omega arith) (sym (said c.before) ∙ not-true _ c.if-not-same.true-raw)

add-i : tie.Need-overflow_step-i invariant-loop decreases-loop
add-i c = search rules

loop-less : tie.Need-loop-i-smaller invariant-loop decreases-loop
loop-less c = search rules

loop-again : tie.Need-loop-i-preserved invariant-loop decreases-loop
loop-again c =
    let l = c.loop-i in
    (search rules, every_more _ l.i l.invariant.1 (sym (said c.before) ∙ not-false _ c.if-not-same.false-raw))

returns-2 : tie.Need-returns invariant-loop decreases-loop
returns-2 c = every-ends (split_count (entry c.before).args.splits.now) _ c.loop-i.i (omega arith) c.loop-i.invariant.1

pub unions_good_spec : {M : Type 1} → statement M
unions_good_spec =
    tie.close
    (tie.spec
    invariant-loop
    decreases-loop
    split-count-requires
    loop-holds
    split-set-requires
    union-of-requires
    same-requires
    returns
    add-i
    loop-less
    loop-again
    returns-2)
