-- The index that is made straight from a list is right, and a byte costs one row by it. Assumes nothing.
use Prim.Native.Nat.{ℕ, zero, suc, ◌+◌, ◌*◌, ◌%◌, ◌^◌, ◌≤◌, ◌<◌}
use mathlib.Core.Path.{◌≡◌, refl, sym, ap, ◌∙◌, subst}
use mathlib.Core.Bool.{true, false}
use mathlib.Core.List.{List, []}
use native.Mathlib.Omega.{arith}
use native.Mathlib.Nat.{mul-div_cancel_left, mul-mod_right}
use lib.ListN.{length, get_or, take, drop, replicate, length-append, length-replicate, get_or-replicate}
use lib.Seq.{take_at, get_or-append-add}
use lib.Dec.{eqb, lit<}
use borrow.Author.Tests.{eq-eqb, ne_eqb, le-ltb}
use Rattle.numbers.specs.Number.{num, digits}
use Rattle.sets.specs.Set.{states, set_size, set_bytes, bytes_at, read_at}
use Rattle.numbers.proofs.Laws.{num-digits, length_digits, small-digits}
use Rattle.rules.specs.Scan.{stack}
use Rattle.rules.proofs.Scanning.{some-intro}
use Rattle.rules.proofs.Stacks.{stack-length, stack-part, stack_at}
use Rattle.list.specs.List.{list_refusal}
use Rattle.list.specs.Automaton.{start, step}
use Rattle.feed.specs.Calls.{Bytes}
use Rattle.feed.proofs.Runs.{bytes-append}
use Rattle.table.specs.Table.{most_splits, split_size, split_count, split_set, slots, taken_slots, is_split, in_order, bad_count}
use Rattle.table_build.specs.Build.{In, lower, Reached}
use Rattle.table_build.proofs.Reached.{reach-start, reach_step, reach-lt}
use Rattle.index.specs.Right.{Right, Costs}
use Rattle.index.specs.Means.{stand_means}
use Rattle.index_fill.specs.Filled.{cost_of, index_of}
use Rattle.index_fill.proofs.Made.{Closed, made-right, made-costs}
use Rattle.index_prepare.specs.Prepare.{bare_split, splits_of, made_index}

-- ---- bytes

pub set-bytes : (n : ℕ) → Bytes (set_bytes n)
set-bytes n = small-digits 8 set_size n

pub unused-bytes : (n : ℕ) → Bytes (replicate n 255)
unused-bytes zero j = lit< tt
unused-bytes (suc n) zero = lit< tt
unused-bytes (suc n) (suc j) = unused-bytes n j

pub stack-bytes : (f : ℕ → List ℕ) → ((i : ℕ) → Bytes (f i)) → (n : ℕ) → Bytes (stack f n)
unfolding stack
stack-bytes f h zero = λ j. lit< tt
stack-bytes f h (suc n) = bytes-append (stack f n) (f n) (stack-bytes f h n) (h n)

-- ---- the splits

pub bare-size : (S : ℕ) → length (bare_split S) ≡ split_size
bare-size S = length-append (set_bytes S) (replicate 8 255) ∙ omega (arith, length_digits 8 set_size S, length-replicate {A = ℕ} 8 255)

-- four unused slots, as a number
pub unused : digits 8 8 18446744073709551615 ≡ replicate 8 255
unfolding digits
unused = refl

module _ (xs : List ℕ) where
  abbrev split_bytes : ℕ → List ℕ
  split_bytes i = bare_split (get_or xs i 0)

  split-size : (i : ℕ) → length (split_bytes i) ≡ split_size
  split-size i = bare-size (get_or xs i 0)

  pub split-length : length (splits_of xs) ≡ split_size * length xs
  unfolding splits_of
  split-length = stack-length split_bytes split_size split-size (length xs)

  pub split-count : split_count (splits_of xs) ≡ length xs
  split-count = rw split-length (mul-div_cancel_left (length xs) (lit< tt))

  all-bytes : Bytes (splits_of xs)
  unfolding splits_of
  all-bytes = stack-bytes split_bytes (λ i. bytes-append (set_bytes (get_or xs i 0)) (replicate 8 255) (set-bytes (get_or xs i 0)) (unused-bytes 8)) (length xs)

  split-bytes : (i : ℕ) → i < length xs → bytes_at (splits_of xs) (split_size * i) ≡ set_bytes (get_or xs i 0)
  unfolding splits_of
  split-bytes i h =
      let e : split_size * i ≡ split_size * i + 0 = omega arith in
      ap (λ (k : ℕ). take set_size (drop k (stack split_bytes (length xs)))) e
      ∙ stack-part split_bytes split_size split-size (length xs) i h 0 set_size (omega arith)
      ∙ take_at (set_bytes (get_or xs i 0)) (replicate 8 255) set_size (length_digits 8 set_size (get_or xs i 0))

  slot-byte : (i j : ℕ) → i < length xs → j < 8 → (a : ℕ) → a ≡ split_size * i + (set_size + j) → get_or (splits_of xs) a 0 ≡ 255
  unfolding splits_of
  slot-byte i j h l a e =
      ap (λ (k : ℕ). get_or (stack split_bytes (length xs)) k 0) e
      ∙ stack_at split_bytes split_size split-size (length xs) i h (set_size + j) (omega arith)
      ∙ ap (λ (k : ℕ). get_or (split_bytes i) (k + j) 0) (sym (length_digits 8 set_size (get_or xs i 0)))
      ∙ get_or-append-add (set_bytes (get_or xs i 0)) (replicate 8 255) j 0
      ∙ get_or-replicate 8 j 255 0 l

  -- it takes no slot
  none-taken : (i : ℕ) → i < length xs → taken_slots (slots (splits_of xs) i) ≡ []
  unfolding slots taken_slots
  none-taken i h =
      let a = slot-byte i 0 h (lit< tt) (split_size * i + set_size + 2 * 0) (omega arith) in
      let b = slot-byte i 1 h (lit< tt) (split_size * i + set_size + 2 * 0 + 1) (omega arith) in
      rw (a, b)

  split_at : ((i : ℕ) → i < length xs → get_or xs i 0 < 2 ^ states) → (i : ℕ) → i < length xs → split_set (splits_of xs) i ≡ get_or xs i 0
  unfolding split_set read_at
  split_at small i h = ap (num 8) (split-bytes i h) ∙ num-digits 8 set_size (get_or xs i 0) (small i h)

  count-good : 0 < length xs → length xs ≤ most_splits → bad_count split_size most_splits (splits_of xs) ≡ false
  unfolding bad_count
  count-good p l =
      rw (split-length, ne_eqb (split_size * length xs) 0 (λ k. omega arith), le-ltb (split_size * most_splits) (split_size * length xs) (omega arith), eq-eqb (split_size * length xs % split_size) 0 (mul-mod_right split_size (length xs)))

  pub in-order : ((i j : ℕ) → i < j → j < length xs → lower (get_or xs i 0) (get_or xs j 0) ≡ true) → (i : ℕ) → i < length xs → in_order (splits_of xs) i ≡ true
  unfolding in_order
  in-order r zero h = refl
  in-order r (suc i) h = rw (split-bytes i (omega arith), split-bytes (suc i) h) (r i (suc i) (omega arith) h)

-- ---- of a list whose reachable sets are xs

module _ (L : List ℕ) (good : list_refusal L ≡ 0) (xs : List ℕ) (a : Reached L xs) (few : length xs ≤ most_splits) where
  small : (i : ℕ) → i < length xs → get_or xs i 0 < 2 ^ states
  small i h = reach-lt L (get_or xs i 0) (a.sound (get_or xs i 0) (i, h, refl))

  in_split : (S : ℕ) → In S xs → is_split (splits_of xs) S ≡ true
  in_split S (i, h, e) =
      rw (split-count xs) (some-intro (length xs) (λ j. eqb (split_set (splits_of xs) j) S) i h (eq-eqb (split_set (splits_of xs) i) S (split_at xs small i h ∙ e)))

  some-set : 0 < length xs
  some-set = let r = a.all (start L) (reach-start L) in omega (arith, r.1)

  within : (i : ℕ) → i < split_count (splits_of xs) → i < length xs
  within i h = rw (split-count xs) at h

  closed : Closed L (splits_of xs)
  closed =
      record {
        list = good;
        bytes = all-bytes xs;
        count = count-good xs some-set few;
        ordered = λ i h. in-order xs a.rises i (within i h);
        begins = in_split (start L) (a.all (start L) (reach-start L));
        closed = λ i c h hc.
            let l : i < length xs = within i h in
            in_split (step L (split_set (splits_of xs) i) c) (rw (split_at xs small i l) (a.all (step L (get_or xs i 0) c) (reach_step L (get_or xs i 0) c hc (a.sound (get_or xs i 0) (i, l, refl)))));
      }

  pub prepared-right : Right L (splits_of xs) (made_index L xs)
  prepared-right = rw (split-count xs) at (made-right L 1 (splits_of xs) closed (omega arith))

  pub prepared-costs : Costs 1 (λ F. 1) (splits_of xs) (made_index L xs)
  unfolding cost_of
  prepared-costs =
      subst (λ (n : ℕ). Costs 1 (λ F. 1) (splits_of xs) (index_of L 1 (splits_of xs) n)) (split-count xs)
      (made-costs L 1 (splits_of xs) closed (omega arith) 1 (λ F. 1) (λ i h. (ap (λ (ss : List ℕ). 1 + length ss) (none-taken xs i (within i h)), omega arith)))

  -- so by it the feed is lawful for the list, at one row a byte
  pub prepared-checked : (h : ℕ) → (stand_means 1 (λ F. 1) (splits_of xs) (made_index L xs) h).Checked L
  prepared-checked h = (prepared-right, prepared-costs)
