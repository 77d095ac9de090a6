-- The table check in both directions: what an accepted table obeys, and that it accepts every table that obeys it. Assumes nothing.
use Prim.Native.Nat.{ℕ, ◌≤◌, ◌<◌}
use mathlib.Core.Path.{◌≡◌, refl, ap, ◌∙◌}
use mathlib.Core.Bool.{Bool, true, false, ◌&&◌, not}
use mathlib.Core.List.{List}
use lib.ListN.{length}
use lib.Dec.{leb, eqb}
use borrow.Author.Tests.{eqb-true, eq-eqb, leb-true, not-false}
use Rattle.rules.specs.Scan.{every, rising}
use Rattle.list.specs.List.{list_rules, list_refusal}
use Rattle.list.specs.Automaton.{start, step}
use Rattle.rules.proofs.Scanning.{both, every-at, every-all}
use Rattle.rules.proofs.Rules.{passes, passes-front, skip, last, verdict-then}
use Rattle.table.specs.Table.{Table, byte_values, part_count, split_count, part, row, split_set, slots, used_slots, taken_slots, all_below, joined, is_split}
use Rattle.table.specs.Table.{bad_bound, bad_lengths, good_slots, in_order, bad_splits, bad_rows, bad_union, no_start_split, not_closed, table_refusal}
use Rattle.table.proofs.Joined.{used-taken}

-- 01's rules, each for every split, part and byte
pub record Accepted (L : List ℕ) (b : ℕ) (T : Table) : Type 0 where
  pub list : list_refusal L ≡ 0
  pub bound : bad_bound b ≡ false
  pub lengths : bad_lengths T ≡ false
  pub slots-good : (i : ℕ) → i < split_count T.splits → good_slots (part_count T.parts) b (slots T.splits i) ≡ true
  pub ordered : (i : ℕ) → i < split_count T.splits → in_order T.splits i ≡ true
  pub rows-good : (p c : ℕ) → p < part_count T.parts → c < byte_values → row T.classes T.rows p c ≡ step L (part T.parts p) c
  pub unions : (i : ℕ) → i < split_count T.splits → split_set T.splits i ≡ joined (part T.parts) (used_slots (slots T.splits i))
  pub begins : is_split T.splits (start L) ≡ true
  pub closed : (i c : ℕ) → i < split_count T.splits → c < byte_values → is_split T.splits (step L (split_set T.splits i) c) ≡ true

module _ (L : List ℕ) (b : ℕ) (T : Table) where
  good : ℕ → Bool
  good i = good_slots (part_count T.parts) b (slots T.splits i) && in_order T.splits i

  same_row : ℕ → ℕ → Bool
  same_row p c = eqb (row T.classes T.rows p c) (step L (part T.parts p) c)

  same-union : ℕ → Bool
  same-union i = eqb (split_set T.splits i) (joined (part T.parts) (used_slots (slots T.splits i)))

  leads : ℕ → ℕ → Bool
  leads i c = is_split T.splits (step L (split_set T.splits i) c)

  -- the check accepts no other
  pub accepted : table_refusal L b T ≡ 0 → Accepted L b T
  unfolding table_refusal bad_splits bad_rows bad_union no_start_split not_closed good same_row same-union leads
  accepted e =
      let r1 = passes 0 _ _ e in
      let r2 = passes 1 _ _ r1.1 in
      let r3 = passes 2 _ _ r2.1 in
      let r7 = passes 6 _ _ r3.1 in
      let r8 = passes 7 _ _ r7.1 in
      let r9 = passes 8 _ _ r8.1 in
      let r10 = passes 9 _ _ r9.1 in
      let r11 = passes 10 _ _ r10.1 in
      let r12 = passes 11 _ _ r11.1 in
      let r13 = passes 12 _ _ r12.1 in
      let g = every-at (split_count T.splits) good (not-false (every (split_count T.splits) good) r9.0) in
      record {
        list = passes-front (list_rules L) _ e;
        bound = r7.0;
        lengths = r8.0;
        slots-good = λ i h. (both (good_slots (part_count T.parts) b (slots T.splits i)) (in_order T.splits i) (g i h)).0;
        ordered = λ i h. (both (good_slots (part_count T.parts) b (slots T.splits i)) (in_order T.splits i) (g i h)).1;
        rows-good =
            λ p c hp hc.
            eqb-true (row T.classes T.rows p c) (step L (part T.parts p) c)
            (every-at byte_values (same_row p) (every-at (part_count T.parts) (λ q. every byte_values (same_row q)) (not-false (every (part_count T.parts) (λ q. every byte_values (same_row q))) r10.0) p hp) c hc);
        unions =
            λ i h.
            eqb-true (split_set T.splits i) (joined (part T.parts) (used_slots (slots T.splits i)))
            (every-at (split_count T.splits) same-union (not-false (every (split_count T.splits) same-union) r11.0) i h);
        begins = not-false (is_split T.splits (start L)) r12.0;
        closed =
            λ i c hi hc.
            every-at byte_values (leads i) (every-at (split_count T.splits) (λ j. every byte_values (leads j)) (not-false (every (split_count T.splits) (λ j. every byte_values (leads j))) r13.0) i hi) c hc;
      }

  -- and it accepts every table that obeys them, whoever built it
  pub accepts : Accepted L b T → table_refusal L b T ≡ 0
  unfolding table_refusal bad_splits bad_rows bad_union no_start_split not_closed good same_row same-union leads
  accepts a =
      let s9 : every (split_count T.splits) good ≡ true = every-all (split_count T.splits) good (λ i h. rw (a.slots-good i h, a.ordered i h)) in
      let s10 : every (part_count T.parts) (λ q. every byte_values (same_row q)) ≡ true =
      every-all (part_count T.parts) (λ q. every byte_values (same_row q)) (λ p hp. every-all byte_values (same_row p) (λ c hc. eq-eqb _ _ (a.rows-good p c hp hc))) in
      let s11 : every (split_count T.splits) same-union ≡ true = every-all (split_count T.splits) same-union (λ i h. eq-eqb _ _ (a.unions i h)) in
      let s13 : every (split_count T.splits) (λ j. every byte_values (leads j)) ≡ true =
      every-all (split_count T.splits) (λ j. every byte_values (leads j)) (λ i hi. every-all byte_values (leads i) (λ c hc. a.closed i c hi hc)) in
      verdict-then (list_rules L) _ refl a.list
      ∙ skip 7 _ a.bound
      ∙ skip 8 _ a.lengths
      ∙ skip 9 _ (ap not s9)
      ∙ skip 10 _ (ap not s10)
      ∙ skip 11 _ (ap not s11)
      ∙ skip 12 _ (ap not a.begins)
      ∙ last 13 (ap not s13)

-- what rule 9 says of the slots of a split
pub record Slots-good (n b : ℕ) (ss : List ℕ) : Type 0 where
  pub named : all_below n (used_slots ss) ≡ true
  pub taken : taken_slots ss ≡ used_slots ss
  pub rise : rising 0 (used_slots ss) ≡ true
  pub few : length (used_slots ss) ≤ b

pub slots-said : (n b : ℕ) (ss : List ℕ) → good_slots n b ss ≡ true → Slots-good n b ss
unfolding good_slots
slots-said n b ss e =
    let g2 = both (all_below n (used_slots ss) && eqb (length (used_slots ss)) (length (taken_slots ss)) && rising 0 (used_slots ss)) (leb (length (used_slots ss)) b) e in
    let g3 = both (all_below n (used_slots ss) && eqb (length (used_slots ss)) (length (taken_slots ss))) (rising 0 (used_slots ss)) g2.0 in
    let g4 = both (all_below n (used_slots ss)) (eqb (length (used_slots ss)) (length (taken_slots ss))) g3.0 in
    record {
      named = g4.0;
      taken = used-taken ss (eqb-true (length (used_slots ss)) (length (taken_slots ss)) g4.1);
      rise = g3.1;
      few = leb-true (length (used_slots ss)) b g2.1;
    }
