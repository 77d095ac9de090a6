-- The rules of the filler: which refuses where those before it pass, and what is known where none does. Assumes nothing.
use Prim.Native.Nat.{ℕ, ◌≤◌, ◌<◌}
use mathlib.Core.Path.{◌≡◌, refl, sym, ap, ◌∙◌}
use mathlib.Core.Bool.{Bool, true, false, ◌||◌, not}
use mathlib.Core.List.{List, [], ◌∷◌}
use native.Mathlib.Omega.{arith}
use lib.ListN.{length, get_or}
use lib.Dec.{ltb, eqb}
use borrow.Author.Tests.{eqb-true, not-false, eq-eqb}
use Rattle.sets.specs.Set.{set_size}
use Rattle.rules.specs.Scan.{every}
use Rattle.rules.specs.Rules.{verdict}
use Rattle.rules.proofs.Scanning.{neither, every-all, some-intro}
use Rattle.rules.proofs.Rules.{skip, stop, last, passes, passes-front, verdict-then}
use Rattle.list.specs.List.{list_rules}
use Rattle.list.specs.Automaton.{step}
use Rattle.table.specs.Table.{Table, byte_values, most_class, most_parts, most_splits, split_size, largest, split_count, split_set, in_order, class_count, row, row_at, joined, bad_classes, bad_count, bad_rows_length, bad_bound, bad_lengths, bad_splits, bad_rows, bad_union, no_start_split, not_closed, size_rules, table_refusal}
use Rattle.table.proofs.Accepted as said
use Rattle.table_feed.specs.Split.{taken, split_step}
use Rattle.table_feed.proofs.Exact.{same}
use Rattle.index.specs.Entry.{entry_place, wrong_index}
use Rattle.index.proofs.Sizes.{few-splits}
use Rattle.index_fill.specs.Filled.{index_refusal}

-- ---- the rules

module _ (L : List ℕ) (b : ℕ) (T : Table) (X : List ℕ) where
  -- the list passes: the other rules are left
  module _ (l : verdict (list_rules L) ≡ 0) where
    rest : index_refusal L b T X
        ≡ verdict ((7, bad_bound b) ∷ (8, bad_lengths T || wrong_index T.splits X) ∷ (9, bad_splits b T) ∷ (10, bad_rows L T) ∷ (11, bad_union T) ∷ (12, no_start_split L T) ∷ (13, not_closed L T) ∷ [])
    rest = verdict-then (list_rules L) _ refl l

    -- the sizes do not
    pub refused-sizes : (verdict (size_rules b T) ≡ 0 → ⊥) → verdict (size_rules b T) ≡ index_refusal L b T X
    refused-sizes z = go (bad_bound b) refl (bad_lengths T) refl
      where
        go : (s : Bool) → bad_bound b ≡ s → (t : Bool) → bad_lengths T ≡ t → verdict (size_rules b T) ≡ index_refusal L b T X
        go true p t q = stop 7 _ p ∙ sym (rest ∙ stop 7 _ p)
        go false p true q = skip 7 _ p ∙ stop 8 _ q ∙ sym (rest ∙ skip 7 _ p ∙ stop 8 _ (rw q))
        go false p false q = absurd (z (skip 7 _ p ∙ last 8 q))

    -- they do
    module _ (z : verdict (size_rules b T) ≡ 0) where
      sizes : (bad_bound b ≡ false) × (bad_lengths T ≡ false)
      sizes = let r = passes 6 (bad_bound b) ((8, bad_lengths T) ∷ []) z in (r.0, (passes 7 (bad_lengths T) [] r.1).0)

      pub refused-index : wrong_index T.splits X ≡ true → 8 ≡ index_refusal L b T X
      refused-index w = sym (rest ∙ skip 7 _ sizes.0 ∙ stop 8 _ (rw (sizes.1, w)))

      pub table-left : wrong_index T.splits X ≡ false → table_refusal L b T ≡ index_refusal L b T X
      unfolding table_refusal
      table-left w =
          verdict-then (list_rules L) _ refl l ∙ verdict-then (size_rules b T) _ refl z
          ∙ sym (rest ∙ skip 7 _ sizes.0 ∙ skip 8 _ (rw (sizes.1, w)))

-- where none refuses, the check accepts the table, and the index has an entry for each split
pub fill-passes : (L : List ℕ) (b : ℕ) (T : Table) (X : List ℕ) → index_refusal L b T X ≡ 0 → (table_refusal L b T ≡ 0) × (length X ≡ entry_place (split_count T.splits))
fill-passes L b T X v =
    let l = passes-front (list_rules L) _ v in
    let r7 = passes 6 (bad_bound b) _ (sym (rest L b T X l) ∙ v) in
    let r8 = passes 7 (bad_lengths T || wrong_index T.splits X) _ r7.1 in
    let q = neither (bad_lengths T) (wrong_index T.splits X) r8.0 in (
      table-left L b T X l (skip 7 _ r7.0 ∙ last 8 q.0) q.1 ∙ v,
      eqb-true (length X) (entry_place (split_count T.splits)) (not-false (eqb (length X) (entry_place (split_count T.splits))) q.1),
    )

-- ---- what an accepted table gives the filler

-- the number of its splits
pub count-good : (T : Table) → bad_lengths T ≡ false → bad_count split_size most_splits T.splits ≡ false
unfolding bad_lengths
count-good T e =
    let r = neither (bad_classes T.classes || bad_count set_size most_parts T.parts || bad_count split_size most_splits T.splits) (bad_rows_length T) e in
    (neither (bad_classes T.classes || bad_count set_size most_parts T.parts) (bad_count split_size most_splits T.splits) r.0).1

pub sizes-few : (b : ℕ) (T : Table) → verdict (size_rules b T) ≡ 0 → split_count T.splits ≤ most_splits
sizes-few b T z = few-splits T.splits (count-good T (passes 7 (bad_lengths T) [] (passes 6 (bad_bound b) ((8, bad_lengths T) ∷ []) z).1).0)

-- a class for each byte
classes-long : (T : Table) → bad_lengths T ≡ false → length T.classes ≡ byte_values
unfolding bad_lengths bad_classes
classes-long T e =
    let r = neither (bad_classes T.classes || bad_count set_size most_parts T.parts || bad_count split_size most_splits T.splits) (bad_rows_length T) e in
    let q = neither (bad_classes T.classes || bad_count set_size most_parts T.parts) (bad_count split_size most_splits T.splits) r.0 in
    let c = neither (bad_classes T.classes) (bad_count set_size most_parts T.parts) q.0 in
    eqb-true (length T.classes) byte_values (not-false (eqb (length T.classes) byte_values) (neither (not (eqb (length T.classes) byte_values)) (ltb most_class (largest T.classes)) c.0).0)

-- bytes of one class lead alike from every split

pub alike-classes : (L : List ℕ) (b : ℕ) (T : Table) → table_refusal L b T ≡ 0 → (i d e : ℕ) → i < split_count T.splits → d < byte_values → e < byte_values → get_or T.classes d 0 ≡ get_or T.classes e 0
    → step L (split_set T.splits i) d ≡ step L (split_set T.splits i) e
unfolding split_step row
alike-classes L b T ok i d e h ld le q =
    let a = said.accepted L b T ok in
    let F = split_set T.splits i in
    let s = some-intro (split_count T.splits) (λ j. eqb (split_set T.splits j) F) i h (eq-eqb F F refl) in
    sym (same L b T a F s d ld) ∙ ap (λ (k : ℕ). joined (λ p. row_at T.rows (class_count T.classes) p k) (taken T F)) q ∙ same L b T a F s e le

pub record Fillable (L : List ℕ) (T : Table) : Type 0 where
  pub few : split_count T.splits ≤ most_splits
  pub ordered : every (split_count T.splits) (in_order T.splits) ≡ true
  pub classes : byte_values ≤ length T.classes
  pub alike : (i d e : ℕ) → i < split_count T.splits → d < byte_values → e < byte_values → get_or T.classes d 0 ≡ get_or T.classes e 0
      → step L (split_set T.splits i) d ≡ step L (split_set T.splits i) e

pub fillable : (L : List ℕ) (b : ℕ) (T : Table) → table_refusal L b T ≡ 0 → Fillable L T
fillable L b T ok =
    let a = said.accepted L b T ok in
    record {
      few = few-splits T.splits (count-good T a.lengths);
      ordered = every-all (split_count T.splits) (in_order T.splits) a.ordered;
      classes = omega (arith, classes-long T a.lengths);
      alike = alike-classes L b T ok;
    }
