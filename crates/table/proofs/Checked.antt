-- The table check in a reader's words: each refusal is given exactly when its row says and no earlier row does, and what each row says. Assumes nothing.
use Prim.Native.Nat.{ℕ, zero, suc, ◌+◌, ◌*◌, ◌%◌, ◌≤◌, ◌<◌}
use mathlib.Core.Path.{◌≡◌, refl, sym, ap, ◌∙◌}
use mathlib.Core.Bool.{Bool, true, false, ◌&&◌, ◌||◌, not, true≢false}
use mathlib.Core.List.{List, [], ◌∷◌}
use mathlib.Core.Logic.{◌⊎◌, inl, inr, ◌↔◌}
use native.Mathlib.Omega.{arith}
use native.Mathlib.Nat.{lt_of_not-le}
use native.Mathlib.Decide.{dec_lt}
use lib.ListN.{length, get_or, length-take, length-drop}
use lib.Dec.{eqb, ltb}
use borrow.Author.Tests.{eqb-false, eq-eqb, ne_eqb, ltb-true, lt-ltb, le-ltb, le-leb, not-true}
use Rattle.numbers.specs.Number.{before}
use Rattle.sets.specs.Set.{set_size, bytes_at}
use Rattle.numbers.specs.Order.{Smaller}
use Rattle.numbers.proofs.Order.{before-exactly}
use Rattle.sets.proofs.Sets.{byte-in}
use Rattle.rules.specs.Scan.{every}
use Rattle.rules.specs.Rules.{Refuses}
use Rattle.list.specs.Automaton.{start, step}
use Rattle.rules.proofs.Scanning.{choose, either-words, equal_words, differ-words, over-words, length-words, some-none, none-some, refuses-exactly}
use Rattle.rules.proofs.Rules.{refuses}
use Rattle.table.specs.Table.{Table, byte_values, most_class, most_parts, most_splits, most_bound, split_size, largest, class_count, part_count, split_count, part, row, split_set, slots, used_slots, taken_slots, joined, is_split}
use Rattle.table.specs.Table.{bad_bound, bad_classes, bad_count, bad_rows_length, bad_lengths, good_slots, in_order, unordered, bad_splits, bad_rows, bad_union, no_start_split, not_closed, table_rules, table_refusal}
use Rattle.table.proofs.Entries.{largest-at}
use Rattle.table.proofs.Accepted.{Slots-good, slots-said, accepted, accepts}

-- 0 is given exactly when no row applies, and each number exactly when its row is the first that applies
pub table-exactly : (L : List ℕ) (b : ℕ) (T : Table) → Refuses (table_rules L b T) (table_refusal L b T)
unfolding table_refusal
table-exactly L b T = refuses (table_rules L b T) refl

-- ---- tests in words

unequal-words : (x y : ℕ) → eqb x y ≡ false ↔ (x ≡ y → ⊥)
unequal-words x y = (eqb-false x y, ne_eqb x y)

-- a scan that refuses names one that fails
scan-words : (n : ℕ) (p : ℕ → Bool) (A : ℕ → Type 0) → ((i : ℕ) → p i ≡ false ↔ A i) → not (every n p) ≡ true ↔ ((i : ℕ) × (i < n) × A i)
scan-words n p A f = (there, back)
  where
    there : not (every n p) ≡ true → (i : ℕ) × (i < n) × A i
    there e = let w = (refuses-exactly n p).0 e in (w.0, w.1, (f w.0).0 w.2)

    back : (i : ℕ) × (i < n) × A i → not (every n p) ≡ true
    back w = (refuses-exactly n p).1 (w.0, w.1, (f w.0).1 w.2)

fails-words : (n : ℕ) (p : ℕ → Bool) (A : ℕ → Type 0) → ((i : ℕ) → p i ≡ false ↔ A i) → every n p ≡ false ↔ ((i : ℕ) × (i < n) × A i)
fails-words n p A f = (λ e. (scan-words n p A f).0 (ap not e), λ w. not-true (every n p) ((scan-words n p A f).1 w))

-- F is no split exactly when no split has that set
pub no-split : (S : List ℕ) (F : ℕ) → is_split S F ≡ false ↔ ((j : ℕ) → j < split_count S → split_set S j ≡ F → ⊥)
no-split S F = (
  λ e j h. eqb-false (split_set S j) F (none-some (split_count S) (λ i. eqb (split_set S i) F) e j h),
  λ n. some-none (split_count S) (λ i. eqb (split_set S i) F) (λ j h. ne_eqb (split_set S j) F (n j h)),
)

-- ---- 7 and 8

pub bad-bound : (b : ℕ) → bad_bound b ≡ true ↔ ((b ≡ 0) ⊎ (most_bound < b))
bad-bound b = either-words (b ≡ 0) (most_bound < b) (eqb b 0) (ltb most_bound b) (equal_words b 0) (over-words most_bound b)

over-largest : (m : ℕ) (xs : List ℕ) → m < largest xs → (i : ℕ) × (i < length xs) × (m < get_or xs i 0)
unfolding largest
over-largest m [] h = absurd (omega arith)
over-largest m (x ∷ xs) h =
    elim (dec_lt m x) [ yes l ↦ (0, omega arith, l) | no g ↦ later (over-largest m xs (omega (arith, lt_of_not-le (λ (l : suc m ≤ x). g l)))) ]
  where
    later : (i : ℕ) × (i < length xs) × (m < get_or xs i 0) → (i : ℕ) × (i < length (x ∷ xs)) × (m < get_or (x ∷ xs) i 0)
    later w = (suc w.0, omega (arith, w.1), w.2)

-- there are not as many classes as bytes, or one is over the largest
pub bad-classes : (C : List ℕ) → bad_classes C ≡ true ↔ ((length C ≡ byte_values → ⊥) ⊎ ((i : ℕ) × (i < length C) × (most_class < get_or C i 0)))
unfolding bad_classes
bad-classes C =
    either-words (length C ≡ byte_values → ⊥) ((i : ℕ) × (i < length C) × (most_class < get_or C i 0)) (not (eqb (length C) byte_values)) (ltb most_class (largest C))
    (differ-words (length C) byte_values)
    (λ e. over-largest most_class C (ltb-true most_class (largest C) e), λ w. lt-ltb most_class (largest C) (omega (arith, w.2, largest-at C w.0)))

-- no entry, more than the most, or a broken one
abbrev pub Miscounted : ℕ → ℕ → List ℕ → Type 0
Miscounted entry most xs = ((length xs ≡ 0) ⊎ (entry * most < length xs)) ⊎ (length xs % entry ≡ 0 → ⊥)

pub bad-count : (entry most : ℕ) (xs : List ℕ) → bad_count entry most xs ≡ true ↔ Miscounted entry most xs
unfolding bad_count
bad-count entry most xs = length-words entry most (length xs)

module _ (T : Table) where
  -- there is not one row for each part and class
  pub bad-rows-length : bad_rows_length T ≡ true ↔ (length T.rows ≡ set_size * (part_count T.parts * class_count T.classes) → ⊥)
  unfolding bad_rows_length
  bad-rows-length = differ-words (length T.rows) (set_size * (part_count T.parts * class_count T.classes))

  pub bad-lengths : bad_lengths T ≡ true
      ↔ (((bad_classes T.classes ≡ true ⊎ Miscounted set_size most_parts T.parts) ⊎ Miscounted split_size most_splits T.splits) ⊎ bad_rows_length T ≡ true)
  unfolding bad_lengths
  bad-lengths =
      either-words ((bad_classes T.classes ≡ true ⊎ Miscounted set_size most_parts T.parts) ⊎ Miscounted split_size most_splits T.splits) (bad_rows_length T ≡ true)
      (bad_classes T.classes || bad_count set_size most_parts T.parts || bad_count split_size most_splits T.splits) (bad_rows_length T)
      (either-words (bad_classes T.classes ≡ true ⊎ Miscounted set_size most_parts T.parts) (Miscounted split_size most_splits T.splits)
      (bad_classes T.classes || bad_count set_size most_parts T.parts) (bad_count split_size most_splits T.splits)
      (either-words (bad_classes T.classes ≡ true) (Miscounted set_size most_parts T.parts) (bad_classes T.classes) (bad_count set_size most_parts T.parts) (λ e. e, λ e. e) (bad-count set_size most_parts T.parts))
      (bad-count split_size most_splits T.splits))
      (λ e. e, λ e. e)

-- ---- 9

-- the slots of a split are good exactly when those in use name parts, stand before the unused ones, rise, and are at most b
pub slots-exactly : (n b : ℕ) (ss : List ℕ) → good_slots n b ss ≡ true ↔ Slots-good n b ss
unfolding good_slots
slots-exactly n b ss = (
  slots-said n b ss,
  λ g. rw (g.named, eq-eqb (length (used_slots ss)) (length (taken_slots ss)) (sym (ap length g.taken)), g.rise, le-leb (length (used_slots ss)) b g.few),
)

-- split 0 has none before it
pub in-order-first : (S : List ℕ) → in_order S 0 ≡ true
unfolding in_order
in-order-first S = refl

-- a later split is in order exactly when the set before it has the smaller byte at the first place where the two sets differ
pub in-order-exactly : (S : List ℕ) (i : ℕ) → suc i < split_count S → in_order S (suc i) ≡ true
    ↔ Smaller set_size (λ j. get_or S (split_size * i + j) 0) (λ j. get_or S (split_size * suc i + j) 0)
unfolding in_order
in-order-exactly S i h = (there, back)
  where
    long : (j : ℕ) → split_size * j + set_size ≤ length S → length (bytes_at S (split_size * j)) ≡ set_size
    long j l = simp (length-take, length-drop) (omega arith)

    one : length (bytes_at S (split_size * i)) ≡ set_size
    one = long i (omega arith)

    same : length (bytes_at S (split_size * i)) ≡ length (bytes_at S (split_size * suc i))
    same = one ∙ sym (long (suc i) (omega arith))

    x : (j : ℕ) → j < set_size → get_or (bytes_at S (split_size * i)) j 0 ≡ get_or S (split_size * i + j) 0
    x = byte-in S (split_size * i)

    y : (j : ℕ) → j < set_size → get_or (bytes_at S (split_size * suc i)) j 0 ≡ get_or S (split_size * suc i + j) 0
    y = byte-in S (split_size * suc i)

    there : before (bytes_at S (split_size * i)) (bytes_at S (split_size * suc i)) ≡ true → Smaller set_size (λ j. get_or S (split_size * i + j) 0) (λ j. get_or S (split_size * suc i + j) 0)
    there e =
        let w = (before-exactly (bytes_at S (split_size * i)) (bytes_at S (split_size * suc i)) same).0 e in
        let k : w.0 < set_size = omega (arith, w.1, one) in
        (w.0, k, λ j m. sym (x j (omega arith)) ∙ w.2 j m ∙ y j (omega arith), rw (← x w.0 k, ← y w.0 k) w.3)

    back : Smaller set_size (λ j. get_or S (split_size * i + j) 0) (λ j. get_or S (split_size * suc i + j) 0) → before (bytes_at S (split_size * i)) (bytes_at S (split_size * suc i)) ≡ true
    back w =
        let k : w.0 < set_size = w.1 in
        (before-exactly (bytes_at S (split_size * i)) (bytes_at S (split_size * suc i)) same).1
        (w.0, omega (arith, k, one), λ j m. x j (omega arith) ∙ w.2 j m ∙ sym (y j (omega arith)), rw (x w.0 k, y w.0 k) w.3)

and-fails : (a b : Bool) → (a && b) ≡ false ↔ ((a ≡ false) ⊎ (b ≡ false))
and-fails true b = (λ e. inr e, λ s. choose s (λ p. absurd (true≢false p)) (λ q. q))
and-fails false b = (λ e. inl refl, λ s. refl)

module _ (b : ℕ) (T : Table) where
  -- some split has bad slots, or does not come after the one before
  pub bad-splits : bad_splits b T ≡ true
      ↔ ((i : ℕ) × (i < split_count T.splits) × ((good_slots (part_count T.parts) b (slots T.splits i) ≡ false) ⊎ (in_order T.splits i ≡ false)))
  unfolding bad_splits
  bad-splits =
      scan-words (split_count T.splits) (λ i. good_slots (part_count T.parts) b (slots T.splits i) && in_order T.splits i)
      (λ i. (good_slots (part_count T.parts) b (slots T.splits i) ≡ false) ⊎ (in_order T.splits i ≡ false))
      (λ i. and-fails (good_slots (part_count T.parts) b (slots T.splits i)) (in_order T.splits i))

-- the splits are unordered exactly when some set does not come after the one before
pub unordered-exactly : (S : List ℕ) → unordered S ≡ true ↔ ((i : ℕ) × (suc i < split_count S) × (in_order S (suc i) ≡ false))
unfolding unordered
unordered-exactly S = (λ e. later (w.0 e), λ x. w.1 (suc x.0, x.1, x.2))
  where
    w : not (every (split_count S) (in_order S)) ≡ true ↔ ((i : ℕ) × (i < split_count S) × (in_order S i ≡ false))
    w = scan-words (split_count S) (in_order S) (λ i. in_order S i ≡ false) (λ i. (λ e. e, λ e. e))

    later : (i : ℕ) × (i < split_count S) × (in_order S i ≡ false) → (i : ℕ) × (suc i < split_count S) × (in_order S (suc i) ≡ false)
    later (zero, h, e) = absurd (true≢false (sym (in-order-first S) ∙ e))
    later (suc i, h, e) = (i, h, e)

-- ---- 10 to 13

module _ (L : List ℕ) (T : Table) where
  -- some part has a row that a byte selects and that is not the step
  pub bad-rows : bad_rows L T ≡ true
      ↔ ((p : ℕ) × (p < part_count T.parts) × ((c : ℕ) × (c < byte_values) × (row T.classes T.rows p c ≡ step L (part T.parts p) c → ⊥)))
  unfolding bad_rows
  bad-rows =
      scan-words (part_count T.parts) (λ p. every byte_values (λ c. eqb (row T.classes T.rows p c) (step L (part T.parts p) c)))
      (λ p. (c : ℕ) × (c < byte_values) × (row T.classes T.rows p c ≡ step L (part T.parts p) c → ⊥))
      (λ p. fails-words byte_values (λ c. eqb (row T.classes T.rows p c) (step L (part T.parts p) c))
      (λ c. row T.classes T.rows p c ≡ step L (part T.parts p) c → ⊥)
      (λ c. unequal-words (row T.classes T.rows p c) (step L (part T.parts p) c)))

  -- some split's set is not the union of its parts
  pub bad-union : bad_union T ≡ true
      ↔ ((i : ℕ) × (i < split_count T.splits) × (split_set T.splits i ≡ joined (part T.parts) (used_slots (slots T.splits i)) → ⊥))
  unfolding bad_union
  bad-union =
      scan-words (split_count T.splits) (λ i. eqb (split_set T.splits i) (joined (part T.parts) (used_slots (slots T.splits i))))
      (λ i. split_set T.splits i ≡ joined (part T.parts) (used_slots (slots T.splits i)) → ⊥)
      (λ i. unequal-words (split_set T.splits i) (joined (part T.parts) (used_slots (slots T.splits i))))

  -- no split has the start set
  pub no-start-split : no_start_split L T ≡ true ↔ ((i : ℕ) → i < split_count T.splits → split_set T.splits i ≡ start L → ⊥)
  unfolding no_start_split
  no-start-split =
      (λ e. (no-split T.splits (start L)).0 (not-true (is_split T.splits (start L)) e), λ n. ap not ((no-split T.splits (start L)).1 n))

  -- from some split some byte leads to a set that no split has
  pub not-closed : not_closed L T ≡ true
      ↔ ((i : ℕ) × (i < split_count T.splits) × ((c : ℕ) × (c < byte_values) × ((j : ℕ) → j < split_count T.splits → split_set T.splits j ≡ step L (split_set T.splits i) c → ⊥)))
  unfolding not_closed
  not-closed =
      scan-words (split_count T.splits) (λ i. every byte_values (λ c. is_split T.splits (step L (split_set T.splits i) c)))
      (λ i. (c : ℕ) × (c < byte_values) × ((j : ℕ) → j < split_count T.splits → split_set T.splits j ≡ step L (split_set T.splits i) c → ⊥))
      (λ i. fails-words byte_values (λ c. is_split T.splits (step L (split_set T.splits i) c))
      (λ c. (j : ℕ) → j < split_count T.splits → split_set T.splits j ≡ step L (split_set T.splits i) c → ⊥)
      (λ c. no-split T.splits (step L (split_set T.splits i) c)))

-- ---- the bound

-- a table that is accepted at b is accepted at each larger bound
pub larger-bound : (L : List ℕ) (b c : ℕ) (T : Table) → table_refusal L b T ≡ 0 → b ≤ c → c ≤ most_bound → table_refusal L c T ≡ 0
larger-bound L b c T e h l =
    let a = accepted L b T e in
    accepts L c T
    (record {
      list = a.list;
      bound = rw (ne_eqb c 0 (λ z. omega (arith, h, z, bound_some b a.bound)), le-ltb most_bound c l);
      lengths = a.lengths;
      slots-good =
          λ i m. let g = slots-said (part_count T.parts) b (slots T.splits i) (a.slots-good i m) in
          (slots-exactly (part_count T.parts) c (slots T.splits i)).1 (record { named = g.named; taken = g.taken; rise = g.rise; few = omega (arith, g.few) });
      ordered = a.ordered;
      rows-good = a.rows-good;
      unions = a.unions;
      begins = a.begins;
      closed = a.closed;
    })
  where
    bound_some : (b : ℕ) → bad_bound b ≡ false → 1 ≤ b
    bound_some zero q = absurd (true≢false q)
    bound_some (suc b) q = omega arith
