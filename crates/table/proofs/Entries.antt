-- What the reads of a table's lists give, down to the bytes, and that their places fit a machine word. Assumes nothing.
use Prim.Native.Nat.{ℕ, zero, suc, ◌+◌, ◌-◌, ◌*◌, ◌/◌, ◌%◌, ◌^◌, ◌≤◌, ◌<◌, max}
use mathlib.Core.Path.{◌≡◌, refl, sym, ap, ◌∙◌}
use mathlib.Core.Bool.{true}
use mathlib.Core.List.{List, [], ◌∷◌}
use mathlib.Core.Logic.{◌↔◌}
use native.Mathlib.Omega.{arith}
use native.Mathlib.Numerals.{add-one}
use native.Mathlib.Nat.{suc_inj, lt_of_not-le, mul-le-mul, mul-le-mul_right, suc-mul}
use native.Mathlib.Decide.{dec_lt}
use lib.ListN.{length, get_or, drop, length-take, length-drop, drop_of_length-le}
use lib.Seq.{drop-cons, get_or-drop}
use Rattle.numbers.specs.Number.{num, digits, before}
use Rattle.sets.specs.Set.{states, set_size, holds, set_bytes, bytes_at, set_at, read_at}
use Rattle.numbers.proofs.Laws.{Small, small-take, digits-num}
use Rattle.sets.proofs.Sets.{set-at-holds}
use Rattle.sets.proofs.Standing.{set-at-past}
use Rattle.rules.proofs.Scanning.{equal_words}
use Rattle.table.specs.Table.{most_parts, split_size, largest, class_count, part_count, split_count, part, row_at, row, split_set, slot, slots, unused_slot, in_order, table}

-- the lists of a table are those that it is made of, each in its place
pub table-lists : (C P W S : List ℕ) → ((table C P W S).classes ≡ C) × ((table C P W S).parts ≡ P) × ((table C P W S).rows ≡ W) × ((table C P W S).splits ≡ S)
table-lists C P W S = (refl, refl, refl, refl)

-- ---- how many

-- as many parts as there are whole sets, as many splits as there are whole records
pub parts-exactly : (P : List ℕ) (n : ℕ) → part_count P ≡ n ↔ ((set_size * n ≤ length P) × (length P < set_size * suc n))
parts-exactly P n = (λ e. (omega arith, omega arith), λ w. omega (arith, w.0, w.1))

pub splits-exactly : (S : List ℕ) (n : ℕ) → split_count S ≡ n ↔ ((split_size * n ≤ length S) × (length S < split_size * suc n))
splits-exactly S n = (λ e. (omega arith, omega arith), λ w. omega (arith, w.0, w.1))

-- ---- which set stands where: state s is bit s mod 8 of byte s div 8 there

-- part p is set p of the parts
pub part-holds : (P : List ℕ) → Small 8 P → (p s : ℕ)
    → holds (part P p) s ≡ true ↔ ((s < states) × (get_or P (set_size * p + s / 8) 0 / 2 ^ (s % 8) % 2 ≡ 1))
unfolding part
part-holds P h p s = set-at-holds P (set_size * p) h s

-- the row of part p and class q, where there are k classes, is set p × k + q of the rows
pub row-at-holds : (W : List ℕ) → Small 8 W → (k p q s : ℕ)
    → holds (row_at W k p q) s ≡ true ↔ ((s < states) × (get_or W (set_size * (p * k + q) + s / 8) 0 / 2 ^ (s % 8) % 2 ≡ 1))
row-at-holds W h k p q s = set-at-holds W (set_size * (p * k + q)) h s

-- the row that byte c selects is that of its class
pub row-holds : (C W : List ℕ) → Small 8 W → (p c s : ℕ)
    → holds (row C W p c) s ≡ true ↔ ((s < states) × (get_or W (set_size * (p * class_count C + get_or C c 0) + s / 8) 0 / 2 ^ (s % 8) % 2 ≡ 1))
unfolding row
row-holds C W h p c s = row-at-holds W h (class_count C) p (get_or C c 0) s

-- the set of split i is at the front of record i of the splits
pub split-holds : (S : List ℕ) → Small 8 S → (i s : ℕ)
    → holds (split_set S i) s ≡ true ↔ ((s < states) × (get_or S (split_size * i + s / 8) 0 / 2 ^ (s % 8) % 2 ≡ 1))
unfolding split_set
split-holds S h i s = set-at-holds S (split_size * i) h s

-- ---- past the end

pub part-past : (P : List ℕ) (p : ℕ) → part_count P < p → 0 ≡ part P p
unfolding part
part-past P p h = set-at-past P (set_size * p) (omega arith)

pub split-past : (S : List ℕ) (i : ℕ) → split_count S < i → 0 ≡ split_set S i
unfolding split_set
split-past S i h = set-at-past S (split_size * i) (omega arith)

-- ---- slots

pub slots_length : (S : List ℕ) (i : ℕ) → length (slots S i) ≡ 4
unfolding slots
slots_length S i = refl

pub slot_at : (S : List ℕ) (i j : ℕ) → j < 4 → get_or (slots S i) j 0 ≡ slot S i j
unfolding slots
slot_at S i zero h = refl
slot_at S i (suc zero) h = refl
slot_at S i (suc (suc zero)) h = refl
slot_at S i (suc (suc (suc zero))) h = refl
slot_at S i (suc (suc (suc (suc j)))) h = absurd (omega arith)

-- slot j of split i is two bytes behind its set, low byte first
pub slot-bytes : (S : List ℕ) (i j : ℕ) → j < 4
    → get_or (slots S i) j 0 ≡ get_or S (split_size * i + set_size + 2 * j) 0 + 256 * get_or S (split_size * i + set_size + 2 * j + 1) 0
slot-bytes S i j h = slot_at S i j h

-- it is unused exactly when it is 65,535
pub unused-exactly : (x : ℕ) → unused_slot x ≡ true ↔ (x ≡ 65535)
unused-exactly x = equal_words x 65535

pub slots-cons : (S : List ℕ) (i j x : ℕ) → j < 4 → x ≡ get_or (slots S i) j 0 → drop j (slots S i) ≡ x ∷ drop (j + 1) (slots S i)
slots-cons S i j x h e = rw (add-one j, e) (drop-cons (slots S i) j 0 (rw (slots_length S i) h))

pub slots_end : (S : List ℕ) (i j : ℕ) → 4 ≤ j → drop j (slots S i) ≡ []
slots_end S i j h = drop_of_length-le (slots S i) {i = j} (rw (slots_length S i) h)

-- ---- the largest of a list

pub largest-at : (xs : List ℕ) (i : ℕ) → get_or xs i 0 ≤ largest xs
unfolding largest
largest-at [] i = omega arith
largest-at (x ∷ xs) zero = omega arith
largest-at (x ∷ xs) (suc i) = omega (arith, largest-at xs i)

-- of a list that is not empty it is one of the numbers, and none is larger
largest-in : (xs : List ℕ) → zero < length xs → (i : ℕ) × (i < length xs) × (get_or xs i 0 ≡ largest xs)
unfolding largest
largest-in [] h = absurd (omega arith)
largest-in (x ∷ []) h = (0, omega arith, omega arith)
largest-in (x ∷ y ∷ xs) h =
    let w = largest-in (y ∷ xs) (omega arith) in
    elim (dec_lt x (largest (y ∷ xs))) [ yes l ↦ (suc w.0, omega (arith, w.1), w.2 ∙ omega arith) | no g ↦ (0, omega arith, omega (arith, lt_of_not-le (λ (l : suc x ≤ largest (y ∷ xs)). g l))) ]

pub largest-exactly : (xs : List ℕ) → zero < length xs → (m : ℕ)
    → largest xs ≡ m ↔ (((i : ℕ) × (i < length xs) × (get_or xs i 0 ≡ m)) × ((i : ℕ) → i < length xs → get_or xs i 0 ≤ m))
largest-exactly xs h m = (there, back)
  where
    there : largest xs ≡ m → ((i : ℕ) × (i < length xs) × (get_or xs i 0 ≡ m)) × ((i : ℕ) → i < length xs → get_or xs i 0 ≤ m)
    there e = let w = largest-in xs h in ((w.0, w.1, w.2 ∙ e), λ i l. omega (arith, largest-at xs i))

    back : ((i : ℕ) × (i < length xs) × (get_or xs i 0 ≡ m)) × ((i : ℕ) → i < length xs → get_or xs i 0 ≤ m) → largest xs ≡ m
    back w =
        let r = largest-in xs h in
        omega (arith, r.2, w.1 r.0 r.1, w.0.2, largest-at xs w.0.0)

-- K: the largest class, plus 1
pub class-count : (C : List ℕ) → zero < length C → (k : ℕ)
    → class_count C ≡ k ↔ (((i : ℕ) × (i < length C) × (suc (get_or C i 0) ≡ k)) × ((i : ℕ) → i < length C → get_or C i 0 < k))
class-count C h zero = (λ e. absurd (omega arith), λ w. absurd (omega (arith, w.0.2)))
class-count C h (suc k) =
    let w = largest-exactly C h k in (
      λ e. let r = w.0 (suc_inj e) in ((r.0.0, r.0.1, ap suc r.0.2), λ i l. omega (arith, r.1 i l)),
      λ r. ap suc (w.1 ((r.0.0, r.0.1, suc_inj r.0.2), λ i l. omega (arith, r.1 i l))),
    )

largest-lt : (n : ℕ) (xs : List ℕ) → zero < n → ((i : ℕ) → get_or xs i 0 < n) → largest xs < n
unfolding largest
largest-lt n [] z h = z
largest-lt n (x ∷ xs) z h = omega (arith, largest-lt n xs z (λ i. h (suc i)), h 0)

pub largest-all : (b : List ℕ) (i m : ℕ) → length b ≤ i → max m (largest (drop i b)) ≡ m
unfolding largest
largest-all b i m h = rw (drop_of_length-le b {i = i} h) (omega arith)

pub largest-more : (b : List ℕ) (i m : ℕ) → i < length b → max m (largest (drop i b)) ≡ max (max m (get_or b i 0)) (largest (drop (i + 1) b))
unfolding largest
largest-more b i m h = rw (add-one i, drop-cons b i 0 h) (omega arith)

pub classes-fit : (C : List ℕ) → Small 8 C → class_count C ≤ 2 ^ 8
classes-fit C s = omega (arith, largest-lt 256 C (omega arith) s)

-- ---- the place of a row

pub rows_fit : (n k : ℕ) → n ≤ most_parts → k ≤ 2 ^ 8 → n * k ≤ most_parts * 2 ^ 8
rows_fit n k h l = mul-le-mul {n₁ = n} {m₁ = k} {n₂ = most_parts} {m₂ = 2 ^ 8} h l

-- of n parts and k classes, each part and class has its row
pub row_inside : (n k p q : ℕ) → p < n → q < k → p * k + q < n * k
row_inside n k p q h l = omega (arith, mul-le-mul_right {m = suc p} {n = n} k h, suc-mul p k)

-- ---- the bytes of a set that stands in a list of bytes

pub set-bytes : (b : List ℕ) (at : ℕ) → Small 8 b → at + set_size ≤ length b → set_bytes (set_at b at) ≡ bytes_at b at
unfolding read_at
set-bytes b at s h =
    let l : length (bytes_at b at) ≡ set_size = simp (length-take, length-drop) (omega arith) in
    let t : Small 8 (bytes_at b at) = small-take 8 set_size (drop at b) (λ i. rw (get_or-drop at b i 0) (s (at + i))) in
    ap (λ (n : ℕ). digits 8 n (num 8 (bytes_at b at))) (sym l) ∙ digits-num 8 (bytes_at b at) t

-- the bytes of a split's set
pub split-bytes : (S : List ℕ) (i : ℕ) → Small 8 S → i < split_count S → set_bytes (split_set S i) ≡ bytes_at S (split_size * i)
unfolding split_set
split-bytes S i s h = set-bytes S (split_size * i) s (omega arith)

-- the test of the order, on the sets
pub in-order-at : (S : List ℕ) (i : ℕ) → Small 8 S → (i ≡ 0 → ⊥) → i < split_count S → before (set_bytes (split_set S (i - 1))) (set_bytes (split_set S i)) ≡ in_order S i
unfolding in_order
in-order-at S zero s n h = absurd (n refl)
in-order-at S (suc i) s n h =
    let e : suc i - 1 ≡ i = omega arith in
    rw (e, split-bytes S i s (omega arith), split-bytes S (suc i) s h)
