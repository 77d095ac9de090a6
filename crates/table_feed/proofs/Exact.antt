-- Where the check has accepted a table, at each split's set: no 14, the split step is the list's step, at most b rows, and a split again. Assumes nothing.
use Prim.Native.Nat.{ℕ, ◌≤◌, ◌<◌}
use mathlib.Core.Path.{◌≡◌, refl, sym, ap, ◌∙◌}
use mathlib.Core.Bool.{true, false}
use mathlib.Core.List.{List}
use lib.ListN.{length}
use borrow.Author.Tests.{lt-leb, le-ltb}
use Rattle.list.specs.Automaton.{step}
use Rattle.table.specs.Table.{Table, byte_values, part_count, split_count, part, row, split_set, slots, used_slots, all_below, joined, is_split, split_of}
use Rattle.table.proofs.Joined.{step-joined, joined_same}
use Rattle.table.proofs.Accepted.{Accepted, Slots-good, slots-said}
use Rattle.table_feed.specs.Split.{taken, stuck, split_step}
use Rattle.table_feed.proofs.Stepping.{found-split, taken_at}

module _ (L : List ℕ) (b : ℕ) (T : Table) (a : Accepted L b T) (F : ℕ) (s : is_split T.splits F ≡ true) where
  -- the frontier's split is there, and its set is the frontier
  pub found : (split_of T.splits F < split_count T.splits) × (split_set T.splits (split_of T.splits F) ≡ F)
  found = found-split T.splits F s

  good : Slots-good (part_count T.parts) b (slots T.splits (split_of T.splits F))
  good = slots-said (part_count T.parts) b (slots T.splits (split_of T.splits F)) (a.slots-good (split_of T.splits F) found.0)

  -- the slots taken are the slots in use
  pub taken-used : taken T F ≡ used_slots (slots T.splits (split_of T.splits F))
  taken-used = sym (taken_at T F (split_of T.splits F) refl) ∙ good.taken

  named : all_below (part_count T.parts) (taken T F) ≡ true
  named = rw taken-used good.named

  -- at most b rows
  pub few : length (taken T F) ≤ b
  few = rw taken-used good.few

  -- never 14
  pub free : stuck b T F ≡ false
  unfolding stuck
  free = rw (lt-leb (split_count T.splits) (split_of T.splits F) found.0, named, le-ltb b (length (taken T F)) few)

  -- the split step is the step
  pub same : (c : ℕ) → c < byte_values → split_step T F c ≡ step L F c
  unfolding split_step
  same c h =
      joined_same (λ p. row T.classes T.rows p c) (λ p. step L (part T.parts p) c) (part_count T.parts) (taken T F) named (λ p hp. a.rows-good p c hp h)
      ∙ sym (step-joined L (part T.parts) c (taken T F))
      ∙ ap (λ (S : ℕ). step L S c) (ap (joined (part T.parts)) taken-used ∙ sym (a.unions (split_of T.splits F) found.0) ∙ found.1)

  -- and the next frontier is a split again
  pub stays : (c : ℕ) → c < byte_values → is_split T.splits (step L F c) ≡ true
  stays c h = rw found.1 at (a.closed (split_of T.splits F) c found.0 h)
