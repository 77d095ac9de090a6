-- The table check accepts the table of a list at bound 1; and what that table holds, in words. Assumes nothing.
use Prim.Native.Nat.{ℕ, zero, suc, ◌+◌, ◌*◌, ◌%◌, ◌^◌, ◌≤◌, ◌<◌}
use mathlib.Core.Path.{◌≡◌, refl, sym, ap, ◌∙◌}
use mathlib.Core.Bool.{true, false}
use mathlib.Core.List.{List, [], ◌∷◌, ◌++◌}
use native.Mathlib.Omega.{arith}
use native.Mathlib.Nat.{mul-div_cancel_left, mul-le-mul_left, mul-pos, mul-mod_right}
use lib.ListN.{length, get_or, take, drop, replicate, length-append, length-replicate}
use lib.Seq.{take_at, get_or-append-add}
use lib.Arith.{digits_lt, digits_div, digits_mod}
use lib.Dec.{eqb, lit<}
use borrow.Author.Tests.{eq-eqb, ne_eqb, lt-ltb, le-ltb, le-leb}
use Rattle.numbers.specs.Number.{num, digits}
use Rattle.sets.specs.Set.{states, set_size, set_bytes, bytes_at, read_at}
use Rattle.numbers.proofs.Laws.{Small, num-digits, digits-num, length_digits}
use Rattle.sets.proofs.Sets.{join-comm, join-empty}
use Rattle.list.specs.List.{word, list_refusal}
use Rattle.list.specs.Automaton.{start, step}
use Rattle.numbers.specs.Order.{Smaller}
use Rattle.numbers.proofs.Order.{before-exactly}
use Rattle.rules.proofs.Scanning.{some-intro}
use Rattle.rules.proofs.Stacks.{stack-length, stack-entry, stack-part, stack_at}
use Rattle.list.proofs.Steps.{step-lt}
use Rattle.table.specs.Table.{byte_values, most_class, most_parts, most_splits, split_size, largest, part_count, split_count, part, row, split_set, slots, used_slots, taken_slots, all_below, joined, is_split, bad_classes, bad_count, bad_rows_length, bad_lengths, good_slots, in_order, table_refusal}
use Rattle.rules.specs.Scan.{rising, stack}
use Rattle.table.proofs.Accepted.{accepts}
use Rattle.table_classes.specs.Classes.{most_classes, class_of, classes_of, class_total}
use Rattle.table_build.specs.Build.{In, Reached, lower, slot_bytes, parts_of, row_of, rows_of, splits_of, table_of}
use Rattle.table_build.specs.Words.{Tabled}
use Rattle.table_build.proofs.Reached.{reach-start, reach_step, reach-lt}
use Rattle.table_classes.proofs.Classes.{lowest_step}
use Rattle.table_classes.proofs.Totals.{class-length, class-at, class-lt}
use Rattle.table_classes.proofs.Words.{coarsest}

pub slots-long : (i : ℕ) → length (slot_bytes i) ≡ 8
slots-long i = simp (length-append, length_digits, length-replicate)

slots-small : (i : ℕ) → Small 8 (slot_bytes i)
unfolding digits
slots-small i zero = omega arith
slots-small i (suc zero) = omega arith
slots-small i (suc (suc j)) = ones 6 j
  where
    ones : (n j : ℕ) → get_or (replicate {A = ℕ} n 255) j 0 < 2 ^ 8
    ones zero j = omega arith
    ones (suc n) zero = omega arith
    ones (suc n) (suc j) = ones n j

-- as a number
slots-value : (i : ℕ) → i < 65536 → num 8 (slot_bytes i) ≡ 18446744073709486080 + i
unfolding digits num
slots-value i h = omega arith

pub slots-number : (i : ℕ) → i < 65536 → digits 8 8 (18446744073709486080 + i) ≡ slot_bytes i
slots-number i h =
    ap (λ (x : ℕ). digits 8 8 x) (sym (slots-value i h)) ∙ ap (λ (n : ℕ). digits 8 n (num 8 (slot_bytes i))) (sym (slots-long i)) ∙ digits-num 8 (slot_bytes i) (slots-small i)

pub split-long : (S i : ℕ) → length (set_bytes S ++ slot_bytes i) ≡ split_size
split-long S i = length-append (set_bytes S) (slot_bytes i) ∙ omega (arith, length_digits 8 set_size S, slots-long i)

-- ---- the entries of the lists that are made

module _ (xs : List ℕ) where
  pub part_length : length (parts_of xs) ≡ set_size * length xs
  unfolding parts_of
  part_length = stack-length (λ p. set_bytes (get_or xs p 0)) set_size (λ p. length_digits 8 set_size (get_or xs p 0)) (length xs)

  part-count : part_count (parts_of xs) ≡ length xs
  part-count = rw part_length (mul-div_cancel_left (length xs) (lit< tt))

  abbrev split_bytes : ℕ → List ℕ
  split_bytes i = set_bytes (get_or xs i 0) ++ slot_bytes i

  split-size : (i : ℕ) → length (split_bytes i) ≡ split_size
  split-size i = split-long (get_or xs i 0) i

  pub split-length : length (splits_of xs) ≡ split_size * length xs
  unfolding splits_of
  split-length = stack-length split_bytes split_size split-size (length xs)

  split-count : split_count (splits_of xs) ≡ length xs
  split-count = rw split-length (mul-div_cancel_left (length xs) (lit< tt))

  split-bytes : (i : ℕ) → i < length xs → bytes_at (splits_of xs) (split_size * i) ≡ set_bytes (get_or xs i 0)
  unfolding splits_of
  split-bytes i h =
      let e : split_size * i ≡ split_size * i + 0 = omega arith in
      ap (λ (k : ℕ). take set_size (drop k (stack split_bytes (length xs)))) e
      ∙ stack-part split_bytes split_size split-size (length xs) i h 0 set_size (omega arith)
      ∙ take_at (set_bytes (get_or xs i 0)) (slot_bytes i) set_size (length_digits 8 set_size (get_or xs i 0))

  split-get : (i j : ℕ) → i < length xs → j < 8 → get_or (splits_of xs) (split_size * i + (set_size + j)) 0 ≡ get_or (slot_bytes i) j 0
  unfolding splits_of
  split-get i j h l =
      stack_at split_bytes split_size split-size (length xs) i h (set_size + j) (omega arith)
      ∙ ap (λ (k : ℕ). get_or (split_bytes i) (k + j) 0) (sym (length_digits 8 set_size (get_or xs i 0)))
      ∙ get_or-append-add (set_bytes (get_or xs i 0)) (slot_bytes i) j 0

  split-word : (i j : ℕ) → i < length xs → j < 7 → word (splits_of xs) (split_size * i + set_size + j) ≡ get_or (slot_bytes i) j 0 + 256 * get_or (slot_bytes i) (j + 1) 0
  split-word i j h l =
      let a : split_size * i + set_size + j ≡ split_size * i + (set_size + j) = omega arith in
      let b : split_size * i + set_size + j + 1 ≡ split_size * i + (set_size + (j + 1)) = omega arith in
      rw (b, a, split-get i j h (omega arith), split-get i (j + 1) h (omega arith))

  split-slots : (i : ℕ) → i < length xs → i < 65535 → slots (splits_of xs) i ≡ i ∷ (65535 ∷ (65535 ∷ (65535 ∷ [])))
  unfolding slots digits
  split-slots i h l =
      let a : word (splits_of xs) (split_size * i + set_size + 0) ≡ i = split-word i 0 h (lit< tt) ∙ omega arith in
      rw (a, split-word i 2 h (lit< tt), split-word i 4 h (lit< tt), split-word i 6 h (lit< tt))

  module _ (small : (i : ℕ) → i < length xs → get_or xs i 0 < 2 ^ states) where
    part_at : (p : ℕ) → p < length xs → part (parts_of xs) p ≡ get_or xs p 0
    unfolding part read_at parts_of
    part_at p h =
        ap (num 8) (stack-entry (λ q. set_bytes (get_or xs q 0)) set_size (λ q. length_digits 8 set_size (get_or xs q 0)) (length xs) p h)
        ∙ num-digits 8 set_size (get_or xs p 0) (small p h)

    split_at : (i : ℕ) → i < length xs → split_set (splits_of xs) i ≡ get_or xs i 0
    unfolding split_set read_at
    split_at i h = ap (num 8) (split-bytes i h) ∙ num-digits 8 set_size (get_or xs i 0) (small i h)

-- a split with one slot, at bound 1
one-used : (i : ℕ) → i < 65535 → used_slots (i ∷ (65535 ∷ (65535 ∷ (65535 ∷ [])))) ≡ i ∷ []
unfolding used_slots
one-used i h = rw (ne_eqb i 65535 (λ e. omega arith))

one-taken : (i : ℕ) → i < 65535 → taken_slots (i ∷ (65535 ∷ (65535 ∷ (65535 ∷ [])))) ≡ i ∷ []
unfolding taken_slots
one-taken i h = rw (ne_eqb i 65535 (λ e. omega arith))

one-good : (n i : ℕ) → i < n → i < 65535 → good_slots n 1 (i ∷ (65535 ∷ (65535 ∷ (65535 ∷ [])))) ≡ true
unfolding good_slots all_below rising
one-good n i h l = rw (one-used i l, one-taken i l, lt-ltb i n h, le-leb 0 i (omega arith))

joined-one : (f : ℕ → ℕ) (i : ℕ) → joined f (i ∷ []) ≡ f i
unfolding joined
joined-one f i = join-comm (f i) 0 ∙ join-empty (f i)

-- a list of so many whole entries
good-count : (entry most n : ℕ) (b : List ℕ) → zero < entry → length b ≡ entry * n → zero < n → n ≤ most → bad_count entry most b ≡ false
unfolding bad_count
good-count entry most n b z e p l =
    let q : entry * n ≤ entry * most = mul-le-mul_left entry l in
    let w : zero < entry * n = mul-pos z p in
    rw (e, ne_eqb (entry * n) 0 (λ k. omega arith), le-ltb (entry * most) (entry * n) q, eq-eqb (entry * n % entry) 0 (mul-mod_right entry n))

-- ---- the rows, for any list of sets

pub row-length : (L xs : List ℕ) → length (rows_of L xs) ≡ set_size * (length xs * class_total L)
unfolding rows_of
row-length L xs = stack-length (λ j. set_bytes (row_of L xs j)) set_size (λ j. length_digits 8 set_size (row_of L xs j)) (length xs * class_total L)

module _ (L : List ℕ) (good : list_refusal L ≡ 0) (xs : List ℕ) (a : Reached L xs) (few : length xs ≤ most_parts) (classes : class_total L ≤ most_classes) where
  small : (i : ℕ) → i < length xs → get_or xs i 0 < 2 ^ states
  small i h = reach-lt L (get_or xs i 0) (a.sound (get_or xs i 0) (i, h, refl))

  row_at : (p c : ℕ) → p < length xs → c < byte_values → row (classes_of L) (rows_of L xs) p c ≡ step L (get_or xs p 0) c
  unfolding row read_at rows_of
  row_at p c hp hc =
      rw (class-at L c hc)
      (ap (num 8) (stack-entry (λ j. set_bytes (row_of L xs j)) set_size (λ j. length_digits 8 set_size (row_of L xs j)) (length xs * class_total L) (p * class_total L + class_of L c) (digits_lt hp (class-lt L c hc)))
      ∙ num-digits 8 set_size (row_of L xs (p * class_total L + class_of L c)) (step-lt L _ _)
      ∙ rw (digits_div p (class-lt L c hc), digits_mod p (class-lt L c hc)) (lowest_step L good (get_or xs p 0) c hc))

  in_split : (S : ℕ) → In S xs → is_split (splits_of xs) S ≡ true
  in_split S (i, h, e) =
      rw (split-count xs) (some-intro (length xs) (λ j. eqb (split_set (splits_of xs) j) S) i h (eq-eqb (split_set (splits_of xs) i) S (split_at xs small i h ∙ e)))

  in-order : (i : ℕ) → i < length xs → in_order (splits_of xs) i ≡ true
  unfolding in_order
  in-order zero h = refl
  in-order (suc i) h = rw (split-bytes xs i (omega arith), split-bytes xs (suc i) h) (a.rises i (suc i) (omega arith) h)

  some-set : 0 < length xs
  some-set = let r = a.all (start L) (reach-start L) in omega (arith, r.1)

  lengths : bad_lengths (table_of L xs) ≡ false
  unfolding bad_lengths bad_classes bad_rows_length
  lengths =
      rw (
        eq-eqb (length (classes_of L)) byte_values (class-length L),
        le-ltb most_class (largest (classes_of L)) (omega arith),
        good-count set_size most_parts (length xs) (parts_of xs) (lit< tt) (part_length xs) some-set few,
        good-count split_size most_splits (length xs) (splits_of xs) (lit< tt) (split-length xs) some-set (omega arith),
        part-count xs,
        eq-eqb (length (rows_of L xs)) (set_size * (length xs * class_total L)) (row-length L xs),
      )

  -- the check accepts it
  pub accepted-at-1 : table_refusal L 1 (table_of L xs) ≡ 0
  accepted-at-1 =
      accepts L 1 (table_of L xs)
      (record {
        list = good;
        bound = refl;
        lengths = lengths;
        slots-good = λ i h. let l : i < length xs = within i h in rw (part-count xs, split-slots xs i l (omega arith)) (one-good (length xs) i l (omega arith));
        ordered = λ i h. in-order i (within i h);
        rows-good = λ p c hp hc. let l : p < length xs = rw (part-count xs) at hp in row_at p c l hc ∙ ap (λ (F : ℕ). step L F c) (sym (part_at xs small p l));
        unions = λ i h. let l : i < length xs = within i h in union i l;
        begins = in_split (start L) (a.all (start L) (reach-start L));
        closed = λ i c h hc. let l : i < length xs = within i h in
            in_split (step L (split_set (splits_of xs) i) c) (rw (split_at xs small i l) (a.all (step L (get_or xs i 0) c) (reach_step L (get_or xs i 0) c hc (a.sound (get_or xs i 0) (i, l, refl)))));
      })
    where
      within : (i : ℕ) → i < split_count (splits_of xs) → i < length xs
      within i h = rw (split-count xs) at h

      one : (i : ℕ) → i < length xs → joined (part (parts_of xs)) (i ∷ []) ≡ get_or xs i 0
      one i l = joined-one (part (parts_of xs)) i ∙ part_at xs small i l

      union : (i : ℕ) → i < length xs → split_set (splits_of xs) i ≡ joined (part (parts_of xs)) (used_slots (slots (splits_of xs) i))
      union i l =
          split_at xs small i l
          ∙ sym (ap (λ (ss : List ℕ). joined (part (parts_of xs)) ss) (ap used_slots (split-slots xs i l (omega arith)) ∙ one-used i (omega arith)) ∙ one i l)

  -- ---- and in a reader's words

  -- one part and one split for each set that can be reached
  pub tabled : Tabled L (table_of L xs)
  tabled =
      record {
        sound = λ p h. let l : p < length xs = inside p h in rw (part_at xs small p l) (a.sound (get_or xs p 0) (p, l, refl));
        all = λ S r. let i = a.all S r in (i.0, rw (part-count xs) i.1, part_at xs small i.0 i.1 ∙ i.2);
        rise = λ i j l h.
            let k : j < length xs = inside j h in
            rw (part_at xs small i (omega arith), part_at xs small j k) (smaller (get_or xs i 0) (get_or xs j 0) (a.rises i j l k));
        as_many = split-count xs ∙ sym (part-count xs);
        same_set = λ i h. let l : i < length xs = inside i h in split_at xs small i l ∙ sym (part_at xs small i l);
        one-slot = λ i h. let l : i < length xs = inside i h in split-slots xs i l (omega arith);
        class-of = λ c h. class-at L c h;
        coarsest = coarsest L good;
        row-of = λ p c h hc. let l : p < length xs = inside p h in row_at p c l hc ∙ ap (λ (F : ℕ). step L F c) (sym (part_at xs small p l));
      }
    where
      inside : (p : ℕ) → p < part_count (parts_of xs) → p < length xs
      inside p h = rw (part-count xs) at h

      smaller : (x y : ℕ) → lower x y ≡ true → Smaller set_size (λ j. get_or (set_bytes x) j 0) (λ j. get_or (set_bytes y) j 0)
      smaller x y e =
          rw (length_digits 8 set_size x) at ((before-exactly (set_bytes x) (set_bytes y) (length_digits 8 set_size x ∙ sym (length_digits 8 set_size y))).0 e)
