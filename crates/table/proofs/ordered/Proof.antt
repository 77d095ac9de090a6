-- `ordered` goes through the splits from the second on; those passed are in order. Assumes nothing.
use borrow.Author.Rules.{rules}
use borrow.Author.Tests.{not-true, not-false}
use mathlib.Core.Path.{◌≡◌, sym, ◌∙◌}
use mathlib.Core.Bool.{true}
use Prim.Native.Nat.{◌-◌, ◌<◌}
use native.Mathlib.Omega.{arith}
use Rattle.rules.specs.Scan.{every}
use Rattle.rules.proofs.Scanning.{every-at, every-all}
use Rattle.table.specs.Table.{split_count, split_set, in_order}
use Rattle.table.proofs.Entries.{in-order-at}
use Rattle.table.proofs.Checked.{in-order-first}
use Rattle.table.proofs.Turns.{every-none, every_more, every-stops}
use Rattle.table.proofs.ordered.Statement.{statement}
use Rattle.table.proofs.ordered.Tie as tie

abbrev invariant-loop : tie.invariant-loop-i
invariant-loop splits n i₀ i = (0 < i) × (every i (in_order splits) ≡ true)

abbrev decreases-loop : tie.decreases-loop-i
decreases-loop splits n i₀ i = n - i

-- the way back from the loop's head to the entry
abbrev entry : tie.At-loop-i invariant-loop decreases-loop → tie.Start invariant-loop decreases-loop
entry c = c.before.before.before

-- what the test says
said : (c : tie.After-before_whole invariant-loop decreases-loop)
    → c.before_whole.result ≡ in_order (entry c.before.before).args.splits.now c.loop-i.i
unfolding split_set
said c =
    let h = c.before.before in
    c.before_whole.ensures
    ∙ in-order-at (entry h).args.splits.now h.loop-i.i (λ i. (h.shared_slice_known-1.given i).fits) (λ e. omega (arith, e, h.loop-i.invariant.0)) (omega arith)

split-count-requires : tie.Need-split_count-n-requires invariant-loop decreases-loop
split-count-requires c κs = search rules

loop-holds : tie.Need-loop-i-init invariant-loop decreases-loop
loop-holds c = (omega arith, every_more (in_order c.args.splits.now) 0 (every-none _) (in-order-first c.args.splits.now))

sub-last : tie.Need-overflow_sub-last invariant-loop decreases-loop
sub-last c = search rules

mul-before-whole : tie.Need-overflow_mul-last invariant-loop decreases-loop
mul-before-whole c = search rules

mul-before-whole-2 : tie.Need-overflow_mul-i invariant-loop decreases-loop
mul-before-whole-2 c = search rules

before-whole-requires : tie.Need-before_whole-requires invariant-loop decreases-loop
before-whole-requires c κs = search rules

returns : tie.Need-returns-then-not-before_whole invariant-loop decreases-loop
returns c =
    let h = c.before.before.before in
    every-stops (split_count (entry h).args.splits.now) _ h.loop-i.i (omega arith) (sym (said c.before) ∙ not-true _ c.if-not-before_whole.true-raw)

add-i : tie.Need-overflow_step-i invariant-loop decreases-loop
add-i c = search rules

loop-less : tie.Need-loop-i-smaller invariant-loop decreases-loop
loop-less c = search rules

loop-again : tie.Need-loop-i-preserved invariant-loop decreases-loop
loop-again c =
    let h = c in
    (omega arith, every_more _ h.loop-i.i h.loop-i.invariant.1 (sym (said c.before) ∙ not-false _ c.if-not-before_whole.false-raw))

returns-2 : tie.Need-returns invariant-loop decreases-loop
returns-2 c =
    let S = (entry c.before).args.splits.now in
    sym (every-all (split_count S) (in_order S) (λ j l. every-at c.loop-i.i (in_order S) c.loop-i.invariant.1 j (omega arith)))

pub ordered_spec : {M : Type 1} → statement M
ordered_spec =
    tie.close
    (tie.spec
    invariant-loop
    decreases-loop
    split-count-requires
    loop-holds
    sub-last
    mul-before-whole
    mul-before-whole-2
    before-whole-requires
    returns
    add-i
    loop-less
    loop-again
    returns-2)
