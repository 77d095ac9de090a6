-- `same_set` compares byte by byte. Assumes nothing.
use borrow.Author.Rules.{rules}
use mathlib.Core.Path.{◌≡◌}
use Prim.Native.Nat.{◌≤◌, ◌<◌, ◌-◌, ◌+◌}
use native.Mathlib.Omega.{arith}
use lib.ListN.{get_or}
use Rattle.sets.specs.Set.{set_size}
use Rattle.numbers.proofs.Laws.{Small}
use Rattle.sets.proofs.Words.{Alike, alike-none, alike-more}
use Rattle.index_feed.proofs.Saving.{set-alike}
use Rattle.index_feed.proofs.same_set.Statement.{statement}
use Rattle.index_feed.proofs.same_set.Tie as tie

-- the lists are known to have bytes once one is read
abbrev invariant-loop : tie.invariant-loop-k
invariant-loop splits at flow all₀ k₀ all k = (k ≤ set_size) × (0 < k → Small 8 splits × Small 8 flow) × Alike (λ j. get_or splits (at + j) 0) (λ j. get_or flow j 0) k all

abbrev decreases-loop : tie.decreases-loop-k
decreases-loop splits at flow all₀ k₀ all k = set_size - k

loop-holds : tie.Need-loop-k-init invariant-loop decreases-loop
loop-holds c = (omega arith, (λ l. absurd (omega (arith, l))), alike-none (λ j. get_or c.args.splits.now (c.args.at + j) 0) (λ j. get_or c.args.flow.now j 0))

add-all : tie.Need-overflow_add-all invariant-loop decreases-loop
add-all c = search rules

shared-slice-read-all : tie.Need-bounds-splits-at invariant-loop decreases-loop
shared-slice-read-all c = search rules

shared-slice-read-all-2 : tie.Need-bounds-flow-k invariant-loop decreases-loop
shared-slice-read-all-2 c = search rules

add-k : tie.Need-overflow_step-k invariant-loop decreases-loop
add-k c = search rules

loop-less : tie.Need-loop-k-smaller invariant-loop decreases-loop
loop-less c = search rules

loop-again : tie.Need-loop-k-preserved invariant-loop decreases-loop
loop-again c =
    let h = c.before.before.before in
    let a = h.args in (
      omega arith,
      (λ l. ((λ i. (c.shared_slice_known-1.given i).fits), (λ i. (c.shared_slice_known-in-loop-k-1.given i).fits))),
      alike-more (λ j. get_or a.splits.now (a.at + j) 0) (λ j. get_or a.flow.now j 0) h.loop-k.k h.loop-k.all h.loop-k.invariant.2,
    )

returns : tie.Need-returns invariant-loop decreases-loop
returns c =
    let l = c.loop-k in
    let s = c.before.before in
    let e : l.k ≡ set_size = omega (arith, l.invariant.0) in
    let b = l.invariant.1 (omega (arith, e)) in
    set-alike s.args.splits.now s.args.flow.now s.args.at b.0 b.1 s.requires.0 s.requires.1 l.all (rw e at l.invariant.2)

pub same_set_spec : {M : Type 1} → statement M
same_set_spec = tie.close (tie.spec invariant-loop decreases-loop loop-holds add-all shared-slice-read-all shared-slice-read-all-2 add-k loop-less loop-again returns)
