-- The split step by the first split whose set is the frontier: where it halts, what it gives, and what it costs. Assumes nothing.
use Prim.Native.Nat.{ℕ, ◌≤◌, ◌<◌}
use mathlib.Core.Path.{◌≡◌, refl, sym, ap, ◌∙◌}
use mathlib.Core.Bool.{Bool, true, false, ◌||◌, not}
use mathlib.Core.List.{List}
use mathlib.Core.Logic.{◌↔◌}
use native.Mathlib.Omega.{arith}
use lib.ListN.{length, get_or}
use lib.Dec.{ltb, leb, eqb}
use borrow.Author.Tests.{eqb-true, le-leb, lt-leb, le-ltb, lt-ltb}
use Rattle.sets.specs.Set.{holds}
use Rattle.rules.specs.Scan.{first}
use Rattle.rules.proofs.Scanning.{first_found}
use Rattle.table.specs.Table.{Table, part_count, split_count, row, split_set, slots, taken_slots, all_below, joined, is_split, split_of}
use Rattle.table.proofs.Joined.{joined-exactly}
use Rattle.table.proofs.Found.{split-exactly}
use Rattle.list.specs.Automaton.{accepted}
use Rattle.table_feed.specs.Split.{taken, stuck, split_step, split}
use Rattle.std.specs.declared.option.Option.{Option}
use Rattle.std.specs.declared.option.Option.TheVariants.{Some, None}
use Rattle.table_feed.specs.declared.Taken.{Taken}
use Rattle.table_feed.specs.inner.Taken.{TakesSlots, TakesStep}
use Rattle.table_feed.proofs.Taking.{taken-most}

-- where some split has the set F, the search gives one that has it
pub found-split : (S : List ℕ) (F : ℕ) → is_split S F ≡ true → (split_of S F < split_count S) × (split_set S (split_of S F) ≡ F)
unfolding split_of
found-split S F s =
    let p : ℕ → Bool = (λ i. eqb (split_set S i) F) in
    let r = first_found (split_count S) p s in
    (r.0, eqb-true (split_set S (first (split_count S) p)) F r.1)

-- ---- the step, where the search gives i

-- the slots taken are those of split i up to the first unused one
pub taken_at : (T : Table) (F i : ℕ) → i ≡ split_of T.splits F → taken_slots (slots T.splits i) ≡ taken T F
unfolding taken
taken_at T F i e = ap (λ (n : ℕ). taken_slots (slots T.splits n)) e

-- where split i is the first whose set equals F
pub taken-first : (T : Table) (F i : ℕ) → i < split_count T.splits → split_set T.splits i ≡ F → ((j : ℕ) → j < i → split_set T.splits j ≡ F → ⊥)
    → taken T F ≡ taken_slots (slots T.splits i)
taken-first T F i l e n = sym (taken_at T F i (sym ((split-exactly T.splits F i l).1 (e, n))))

-- s is in the next frontier exactly when it is in the row that c selects of some slot taken
pub split-step-exactly : (T : Table) (F c s : ℕ)
    → holds (split_step T F c) s ≡ true ↔ ((i : ℕ) × (i < length (taken T F)) × (holds (row T.classes T.rows (get_or (taken T F) i 0) c) s ≡ true))
unfolding split_step
split-step-exactly T F c s = joined-exactly (λ p. row T.classes T.rows p c) (taken T F) s

module _ (b : ℕ) (T : Table) (F c : ℕ) where
  -- no split has the set F
  pub step-none : split_of T.splits F ≡ split_count T.splits → TakesStep b T F c None
  unfolding stuck
  step-none e =
      let s : leb (split_count T.splits) (split_of T.splits F) ≡ true = le-leb (split_count T.splits) (split_of T.splits F) (omega (arith, e)) in
      record { halts = sym (rw s); takes = tt }

  -- the slots of split i are taken; too many of them halt
  module _ (i : ℕ) (e : i ≡ split_of T.splits F) (l : i < split_count T.splits) where
    these : taken_slots (slots T.splits i) ≡ taken T F
    these = taken_at T F i e

    halts-of : (t u : Bool) → t ≡ not (all_below (part_count T.parts) (taken_slots (slots T.splits i))) → ltb b (length (taken T F)) ≡ u → (t || u) ≡ stuck b T F
    unfolding stuck
    halts-of t u h q =
        let f : leb (split_count T.splits) (split_of T.splits F) ≡ false = ap (leb (split_count T.splits)) (sym e) ∙ lt-leb (split_count T.splits) i l in
        let p : not (all_below (part_count T.parts) (taken T F)) ≡ t = ap (λ (ss : List ℕ). not (all_below (part_count T.parts) ss)) (sym these) ∙ sym h in
        sym (rw (f, p, q))

    -- as they are taken
    abbrev Slots : Option Taken → Type 0
    Slots = TakesSlots (part_count T.parts) (λ p. row T.classes T.rows p c) (taken_slots (slots T.splits i))

    pub step-bad : Slots None → TakesStep b T F c None
    step-bad g = record { halts = halts-of true _ g.halts refl; takes = tt }

    module _ (s : Taken) (g : Slots (Some s)) where
      many : s.rows ≡ length (taken T F)
      many = g.takes.0 ∙ ap (λ (ss : List ℕ). length ss) these

      pub step-over : b < s.rows → TakesStep b T F c None
      step-over h = record { halts = halts-of false true g.halts (ap (ltb b) (sym many) ∙ lt-ltb b s.rows h); takes = tt }

      pub step-found : s.rows ≤ b → TakesStep b T F c (Some s)
      unfolding split_step
      step-found h =
          record {
            halts = halts-of false false g.halts (ap (ltb b) (sym many) ∙ le-ltb b s.rows h);
            takes = (many, g.takes.1 ∙ ap (joined (λ p. row T.classes T.rows p c)) these);
          }

-- ---- what a step costs

pub split-cheap : (T : Table) (F : ℕ) → length (taken T F) ≤ 4
unfolding taken
split-cheap T F = taken-most T.splits (split_of T.splits F)

-- ---- the engine: a byte moves by the rows, tells what the list accepts there, costs the slots taken, and halts where stuck

pub split-engine : (L : List ℕ) (b : ℕ) (T : Table) (F c : ℕ)
    → ((split L b T).next F c ≡ split_step T F c) × ((split L b T).alerts F c ≡ accepted L (split_step T F c)) × ((split L b T).cost F ≡ length (taken T F)) × ((split L b T).halts F ≡ stuck b T F)
split-engine L b T F c = (refl, refl, refl, refl)
