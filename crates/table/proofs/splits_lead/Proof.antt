-- `splits_lead` goes through the splits; from those passed every byte leads to a split. Assumes nothing.
use borrow.Author.Rules.{rules}
use borrow.Author.Tests.{not-true, not-false}
use mathlib.Core.Path.{◌≡◌, sym, ◌∙◌}
use mathlib.Core.Bool.{Bool, true}
use mathlib.Core.List.{List}
use Prim.Native.Nat.{ℕ, ◌-◌, ◌≤◌}
use native.Mathlib.Omega.{arith}
use Rattle.rules.specs.Scan.{every}
use Rattle.rules.proofs.Scanning.{every-at}
use Rattle.table.specs.Table.{byte_values, most_parts, split_count, row, slots, used_slots, all_below, joined, is_split}
use Rattle.table.proofs.Turns.{every-none, every_more, every-stops, every-ends}
use Rattle.table.proofs.splits_lead.Statement.{statement}
use Rattle.table.proofs.splits_lead.Tie as tie

-- from split i every byte leads to a split, through the rows
abbrev closed : List ℕ → List ℕ → List ℕ → ℕ → Bool
closed classes rows splits i = every byte_values (λ d. is_split splits (joined (λ p. row classes rows p d) (used_slots (slots splits i))))

abbrev invariant-loop : tie.invariant-loop-i
invariant-loop classes rows splits lowers k n i₀ i = (i ≤ n) × (every i (closed classes rows splits) ≡ true)

abbrev decreases-loop : tie.decreases-loop-i
decreases-loop classes rows splits lowers k n i₀ i = n - i

-- the way back from the loop's head to the entry
abbrev entry : tie.At-loop-i invariant-loop decreases-loop → tie.Start invariant-loop decreases-loop
entry c = c.before.before.before.before.before.before

-- what the test says
said : (c : tie.After-leads_at invariant-loop decreases-loop)
    → let s = entry c.before.before in
    c.leads_at.result ≡ closed s.args.classes.now s.args.rows.now s.args.splits.now c.loop-i.i
said c = c.leads_at.ensures

split-count-requires : tie.Need-split_count-n-requires invariant-loop decreases-loop
split-count-requires c κs = search rules

loop-holds : tie.Need-loop-i-init invariant-loop decreases-loop
loop-holds c = (search rules, every-none _)

leads-at-requires : tie.Need-leads_at-requires invariant-loop decreases-loop
leads-at-requires c κs =
    let s = entry c.before in
    let l = every-at (split_count s.args.splits.now) (λ j. all_below most_parts (used_slots (slots s.args.splits.now j))) s.requires.1 c.loop-i.i (omega arith) in
    (s.requires.0, l, s.requires.2, omega arith)

returns : tie.Need-returns-then-not-leads_at invariant-loop decreases-loop
returns c =
    let h = c.before.before.before in
    every-stops (split_count (entry h).args.splits.now) _ h.loop-i.i (omega arith) (sym (said c.before) ∙ not-true _ c.if-not-leads_at.true-raw)

add-i : tie.Need-overflow_step-i invariant-loop decreases-loop
add-i c = search rules

loop-less : tie.Need-loop-i-smaller invariant-loop decreases-loop
loop-less c = search rules

loop-again : tie.Need-loop-i-preserved invariant-loop decreases-loop
loop-again c =
    let l = c.loop-i in
    (search rules, every_more _ l.i l.invariant.1 (sym (said c.before) ∙ not-false _ c.if-not-leads_at.false-raw))

returns-2 : tie.Need-returns invariant-loop decreases-loop
returns-2 c = every-ends (split_count (entry c.before).args.splits.now) _ c.loop-i.i (omega arith) c.loop-i.invariant.1

pub splits_lead_spec : {M : Type 1} → statement M
splits_lead_spec =
    tie.close
    (tie.spec
    invariant-loop
    decreases-loop
    split-count-requires
    loop-holds
    leads-at-requires
    returns
    add-i
    loop-less
    loop-again
    returns-2)
