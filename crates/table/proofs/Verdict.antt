-- The table check goes through its rules in order: the answer at each test, what the rules passed give, and rule 13 through the rows. Assumes nothing.
use Prim.Native.Nat.{ℕ, zero, suc, ◌*◌, ◌%◌, ◌≤◌, ◌<◌}
use mathlib.Core.Path.{◌≡◌, refl, sym, ap, ◌∙◌}
use mathlib.Core.Bool.{Bool, true, false, ◌&&◌, ◌||◌, not}
use mathlib.Core.List.{List, [], ◌∷◌}
use native.Mathlib.Omega.{arith}
use lib.ListN.{length}
use lib.Dec.{ltb, eqb}
use borrow.Author.Tests.{eqb-true, ltb-false, not-false}
use Rattle.sets.specs.Set.{set_size}
use Rattle.rules.specs.Scan.{every}
use Rattle.rules.specs.Rules.{verdict}
use Rattle.list.specs.List.{list_rules, list_refusal}
use Rattle.list.specs.Automaton.{start, step}
use Rattle.rules.proofs.Scanning.{both, neither, every-at, every-all, every-same}
use Rattle.rules.proofs.Rules.{passes, skip, stop, last, verdict-first, verdict-refused, verdict-then, passes-front}
use Rattle.table.specs.Table.{Table, byte_values, most_parts, class_count, part_count, split_count, part, row, split_set, slots, used_slots, all_below, joined, is_split, split_size, most_splits}
use Rattle.table.specs.Table.{bad_classes, bad_count, bad_rows_length, bad_lengths, good_slots, in_order, unordered, bad_splits, bad_rows, bad_union, no_start_split, not_closed, size_rules, rising_rules, table_refusal}
use Rattle.table.proofs.Joined.{step-joined, joined_same}
use Rattle.table.proofs.Accepted.{slots-said}
use Rattle.table.proofs.Slots.{below_wider}

-- ---- what the rules from 9 on scan

abbrev pub good_splits : ℕ → Table → Bool
good_splits b T = every (split_count T.splits) (λ i. good_slots (part_count T.parts) b (slots T.splits i) && in_order T.splits i)

abbrev pub good_rows : List ℕ → Table → Bool
good_rows L T = every (part_count T.parts) (λ p. every byte_values (λ c. eqb (row T.classes T.rows p c) (step L (part T.parts p) c)))

abbrev pub good_unions : Table → Bool
good_unions T = every (split_count T.splits) (λ i. eqb (split_set T.splits i) (joined (part T.parts) (used_slots (slots T.splits i))))

abbrev pub closed : List ℕ → Table → Bool
closed L T = every (split_count T.splits) (λ i. every byte_values (λ c. is_split T.splits (step L (split_set T.splits i) c)))

-- the same through the rows
abbrev pub rows_closed : Table → Bool
rows_closed T =
    every (split_count T.splits) (λ i. every byte_values (λ c. is_split T.splits (joined (λ p. row T.classes T.rows p c) (used_slots (slots T.splits i)))))

-- ---- the list's and the sizes' refusals are the table's

module _ (L : List ℕ) (b : ℕ) (T : Table) where
  pub list-first : (r : ℕ) → r ≡ list_refusal L → (r ≡ 0 → ⊥) → r ≡ table_refusal L b T
  unfolding table_refusal
  list-first zero e n = absurd (n refl)
  list-first (suc r) e n = sym (verdict-first (list_rules L) _ r (sym e))

  module _ (l : list_refusal L ≡ 0) where
    pub size-first : (r : ℕ) → r ≡ verdict (size_rules b T) → (r ≡ 0 → ⊥) → r ≡ table_refusal L b T
    unfolding table_refusal
    size-first zero e n = absurd (n refl)
    size-first (suc r) e n = sym (verdict-then (list_rules L) _ refl l ∙ verdict-first (size_rules b T) _ r (sym e))

    -- ---- the answer at each test from 9 on

    module _ (z : verdict (size_rules b T) ≡ 0) where
      entries : table_refusal L b T
          ≡ verdict ((9, bad_splits b T) ∷ (10, bad_rows L T) ∷ (11, bad_union T) ∷ (12, no_start_split L T) ∷ (13, not_closed L T) ∷ [])
      unfolding table_refusal
      entries = verdict-then (list_rules L) _ refl l ∙ verdict-then (size_rules b T) _ refl z

      pub refused-9 : good_splits b T ≡ false → 9 ≡ table_refusal L b T
      unfolding bad_splits
      refused-9 e = sym (entries ∙ stop 9 _ (ap not e))

      module _ (e9 : good_splits b T ≡ true) where
        pub refused-10 : good_rows L T ≡ false → 10 ≡ table_refusal L b T
        unfolding bad_splits bad_rows
        refused-10 e = sym (entries ∙ skip 9 _ (ap not e9) ∙ stop 10 _ (ap not e))

        module _ (e10 : good_rows L T ≡ true) where
          pub refused-11 : good_unions T ≡ false → 11 ≡ table_refusal L b T
          unfolding bad_splits bad_rows bad_union
          refused-11 e = sym (entries ∙ skip 9 _ (ap not e9) ∙ skip 10 _ (ap not e10) ∙ stop 11 _ (ap not e))

          module _ (e11 : good_unions T ≡ true) where
            pub refused-12 : is_split T.splits (start L) ≡ false → 12 ≡ table_refusal L b T
            unfolding bad_splits bad_rows bad_union no_start_split
            refused-12 e = sym (entries ∙ skip 9 _ (ap not e9) ∙ skip 10 _ (ap not e10) ∙ skip 11 _ (ap not e11) ∙ stop 12 _ (ap not e))

            module _ (e12 : is_split T.splits (start L) ≡ true) where
              pub refused-13 : closed L T ≡ false → 13 ≡ table_refusal L b T
              unfolding bad_splits bad_rows bad_union no_start_split not_closed
              refused-13 e =
                  sym (entries ∙ skip 9 _ (ap not e9) ∙ skip 10 _ (ap not e10) ∙ skip 11 _ (ap not e11) ∙ skip 12 _ (ap not e12) ∙ stop 13 _ (ap not e))

              pub passed : closed L T ≡ true → 0 ≡ table_refusal L b T
              unfolding bad_splits bad_rows bad_union no_start_split not_closed
              passed e =
                  sym (entries ∙ skip 9 _ (ap not e9) ∙ skip 10 _ (ap not e10) ∙ skip 11 _ (ap not e11) ∙ skip 12 _ (ap not e12) ∙ last 13 (ap not e))

-- ---- what the rules passed give

-- a list of entries that is not bad is not too long
pub count_fits : (entry most : ℕ) (xs : List ℕ) → bad_count entry most xs ≡ false → length xs ≤ entry * most
unfolding bad_count
count_fits entry most xs e =
    ltb-false (entry * most) (length xs)
    (neither (eqb (length xs) 0) (ltb (entry * most) (length xs)) (neither (eqb (length xs) 0 || ltb (entry * most) (length xs)) (not (eqb (length xs % entry) 0)) e).0).1

pub few-parts : (b : ℕ) (T : Table) → verdict (size_rules b T) ≡ 0 → part_count T.parts ≤ most_parts
unfolding bad_lengths
few-parts b T z =
    let e = (passes 7 _ _ (passes 6 _ _ z).1).0 in
    let r = neither (bad_classes T.classes || bad_count set_size most_parts T.parts || bad_count split_size most_splits T.splits) (bad_rows_length T) e in
    let q = neither (bad_classes T.classes || bad_count set_size most_parts T.parts) (bad_count split_size most_splits T.splits) r.0 in
    let l = count_fits set_size most_parts T.parts (neither (bad_classes T.classes) (bad_count set_size most_parts T.parts) q.0).1 in
    omega arith

-- each part and class has its row
pub rows-there : (b : ℕ) (T : Table) → verdict (size_rules b T) ≡ 0 → length T.rows ≡ set_size * (part_count T.parts * class_count T.classes)
unfolding bad_lengths bad_rows_length
rows-there b T z =
    let e = (passes 7 _ _ (passes 6 _ _ z).1).0 in
    let r = neither (bad_classes T.classes || bad_count set_size most_parts T.parts || bad_count split_size most_splits T.splits) (bad_rows_length T) e in
    eqb-true (length T.rows) (set_size * (part_count T.parts * class_count T.classes)) (not-false (eqb (length T.rows) (set_size * (part_count T.parts * class_count T.classes))) r.1)

-- ---- what a split feed asks of its table

module _ (b : ℕ) (T : Table) where
  pub size-refuses : (r : ℕ) → r ≡ verdict (size_rules b T) → (r ≡ 0 → ⊥) → r ≡ verdict (rising_rules b T)
  size-refuses r e n = e ∙ sym (verdict-refused (size_rules b T) ((9, unordered T.splits) ∷ []) (λ z. n (e ∙ z)))

  module _ (z : verdict (size_rules b T) ≡ 0) where
    pub unordered-refuses : every (split_count T.splits) (in_order T.splits) ≡ false → 9 ≡ verdict (rising_rules b T)
    unfolding unordered
    unordered-refuses e = sym (verdict-then (size_rules b T) ((9, unordered T.splits) ∷ []) refl z ∙ stop 9 [] (ap not e))

    pub ordered-passes : every (split_count T.splits) (in_order T.splits) ≡ true → 0 ≡ verdict (rising_rules b T)
    unfolding unordered
    ordered-passes e = sym (verdict-then (size_rules b T) ((9, unordered T.splits) ∷ []) refl z ∙ last 9 (ap not e))

  -- where it passes, the sizes do and the splits are in order
  module _ (v : verdict (rising_rules b T) ≡ 0) where
    pub rising-sizes : verdict (size_rules b T) ≡ 0
    rising-sizes = passes-front (size_rules b T) ((9, unordered T.splits) ∷ []) v

    pub rising-ordered : every (split_count T.splits) (in_order T.splits) ≡ true
    unfolding unordered
    rising-ordered = not-false _ (passes 8 _ _ (sym (verdict-then (size_rules b T) ((9, unordered T.splits) ∷ []) refl rising-sizes) ∙ v)).0

module _ (b : ℕ) (T : Table) (e9 : good_splits b T ≡ true) where
  at : (i : ℕ) → i < split_count T.splits → (good_slots (part_count T.parts) b (slots T.splits i) ≡ true) × (in_order T.splits i ≡ true)
  at i h =
      both (good_slots (part_count T.parts) b (slots T.splits i)) (in_order T.splits i)
      (every-at (split_count T.splits) (λ j. good_slots (part_count T.parts) b (slots T.splits j) && in_order T.splits j) e9 i h)

  pub splits-ordered : every (split_count T.splits) (in_order T.splits) ≡ true
  splits-ordered = every-all (split_count T.splits) (in_order T.splits) (λ i h. (at i h).1)

  named : (i : ℕ) → i < split_count T.splits → all_below (part_count T.parts) (used_slots (slots T.splits i)) ≡ true
  named i h = (slots-said (part_count T.parts) b (slots T.splits i) (at i h).0).named

  pub splits-below : part_count T.parts ≤ most_parts → every (split_count T.splits) (λ i. all_below most_parts (used_slots (slots T.splits i))) ≡ true
  splits-below l =
      every-all (split_count T.splits) (λ i. all_below most_parts (used_slots (slots T.splits i)))
      (λ i h. below_wider (part_count T.parts) most_parts (used_slots (slots T.splits i)) l (named i h))

  -- where rules 9, 10 and 11 have passed, rule 13 may be tested on the rows
  pub rows-closed : (L : List ℕ) → good_rows L T ≡ true → good_unions T ≡ true → rows_closed T ≡ closed L T
  rows-closed L rows unions =
      every-same (split_count T.splits) _ _ (λ i h. every-same byte_values _ _ (λ c k. ap (is_split T.splits) (same i h c k)))
    where
      same : (i : ℕ) → i < split_count T.splits → (c : ℕ) → c < byte_values
          → joined (λ p. row T.classes T.rows p c) (used_slots (slots T.splits i)) ≡ step L (split_set T.splits i) c
      same i h c k =
          joined_same (λ p. row T.classes T.rows p c) (λ p. step L (part T.parts p) c) (part_count T.parts) (used_slots (slots T.splits i)) (named i h)
          (λ p l. eqb-true (row T.classes T.rows p c) (step L (part T.parts p) c)
          (every-at byte_values (λ d. eqb (row T.classes T.rows p d) (step L (part T.parts p) d))
          (every-at (part_count T.parts) (λ q. every byte_values (λ d. eqb (row T.classes T.rows q d) (step L (part T.parts q) d))) rows p l) c k))
          ∙ sym (step-joined L (part T.parts) c (used_slots (slots T.splits i)))
          ∙ ap (λ (F : ℕ). step L F c) (sym (eqb-true (split_set T.splits i) (joined (part T.parts) (used_slots (slots T.splits i)))
          (every-at (split_count T.splits) (λ j. eqb (split_set T.splits j) (joined (part T.parts) (used_slots (slots T.splits j)))) unions i h)))
