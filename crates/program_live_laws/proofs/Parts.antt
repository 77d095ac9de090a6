-- The parts of a state after something is put into it: what was put stands there, and every other part stays. Assumes nothing.
use Prim.Native.Nat.{ℕ, zero, suc, ◌+◌, ◌*◌, ◌-◌, ◌%◌, ◌^◌, ◌≤◌, ◌<◌}
use mathlib.Core.Path.{◌≡◌, refl, sym, ap, ◌∙◌}
use mathlib.Core.Bool.{Bool, true, false, ◌&&◌, ◌||◌}
use mathlib.Core.List.{List, [], ◌∷◌, ◌++◌, append_assoc}
use mathlib.Core.Logic.{◌⊎◌, inl, inr}
use native.Mathlib.Omega.{arith}
use lib.ListN.{length, take, drop, replicate, length-take, length-drop, length-append, length-replicate, take-append-drop}
use lib.Seq.{take-append_seam, drop-append_seam, take-append-le, drop-append-le, drop-append-add, drop-drop}
use lib.Dec.{leb}
use borrow.Author.Tests.{leb-true}
use Rattle.rules.proofs.Scanning.{both}
use Rattle.numbers.specs.Number.{num, digits, placed}
use Rattle.numbers.proofs.Laws.{num-digits, length_digits}
use Rattle.numbers.proofs.Placing.{placed-fits, length-placed}
use Rattle.list_flow.specs.Flow.{flow_size}
use Rattle.program_turn.specs.State.{state_size, whole_numbers, long_at, word_at, flow_of, length_at, sum_at, kind_at, first_at, before_at, place_at, lines_at, flow_at, plus_number, sum_of, fresh_state}

module _ (S : List ℕ) (at : ℕ) (xs : List ℕ) (fits : at + length xs ≤ length S) where
  front_long : length (take at S) ≡ at
  front_long = length-take at S ∙ omega (arith, fits)

  split : placed S at xs ≡ take at S ++ (xs ++ drop (at + length xs) S)
  split = placed-fits S at xs fits ∙ append_assoc (take at S) xs (drop (at + length xs) S)

  pub part_same : take (length xs) (drop at (placed S at xs)) ≡ xs
  part_same =
      let Z = xs ++ drop (at + length xs) S in
      let d : drop at (take at S ++ Z) ≡ Z = ap (λ (k : ℕ). drop k (take at S ++ Z)) (sym front_long) ∙ drop-append_seam (take at S) Z in
      ap (λ (T : List ℕ). take (length xs) (drop at T)) split ∙ ap (take (length xs)) d ∙ take-append_seam xs (drop (at + length xs) S)

  front_of : (a n : ℕ) → a + n ≤ at → (Z : List ℕ) → take n (drop a (take at S ++ Z)) ≡ take n (drop a (take at S))
  front_of a n l Z =
      ap (take n) (drop-append-le a (take at S) Z (omega (arith, l, front_long)))
      ∙ take-append-le n (drop a (take at S)) Z (omega (arith, l, front_long, length-drop a (take at S)))

  -- a part that ends before it
  part-before : (a n : ℕ) → a + n ≤ at → take n (drop a (placed S at xs)) ≡ take n (drop a S)
  part-before a n l =
      ap (λ (T : List ℕ). take n (drop a T)) split
      ∙ front_of a n l (xs ++ drop (at + length xs) S)
      ∙ sym (front_of a n l (drop at S))
      ∙ ap (λ (T : List ℕ). take n (drop a T)) (take-append-drop at S)

  -- a part that begins behind it
  part-behind : (a n : ℕ) → at + length xs ≤ a → take n (drop a (placed S at xs)) ≡ take n (drop a S)
  part-behind a n l =
      let X = take at S ++ xs in
      let m : length X ≡ at + length xs = length-append (take at S) xs ∙ omega (arith, front_long) in
      let b = a - (at + length xs) in
      let e : a ≡ length X + b = omega (arith, l, m) in
      let f : at + length xs + b ≡ a = omega (arith, l) in
      let d : drop a (X ++ drop (at + length xs) S) ≡ drop a S =
      ap (λ (k : ℕ). drop k (X ++ drop (at + length xs) S)) e
      ∙ drop-append-add X (drop (at + length xs) S) b
      ∙ drop-drop b (at + length xs) S
      ∙ ap (λ (k : ℕ). drop k S) f in
      ap (λ (T : List ℕ). take n (drop a T)) (placed-fits S at xs fits) ∙ ap (take n) d

  pub part-other : (a n : ℕ) → (a + n ≤ at) ⊎ (at + length xs ≤ a) → take n (drop a (placed S at xs)) ≡ take n (drop a S)
  part-other a n (inl l) = part-before a n l
  part-other a n (inr l) = part-behind a n l

-- ---- numbers

module _ (S : List ℕ) (at k v : ℕ) (fits : at + k ≤ length S) where
  fit : at + length (digits 8 k v) ≤ length S
  fit = omega (arith, fits, length_digits 8 k v)

  pub number_same : v < 2 ^ (8 * k) → num 8 (take k (drop at (placed S at (digits 8 k v)))) ≡ v
  number_same l =
      let e : take k (drop at (placed S at (digits 8 k v))) ≡ digits 8 k v =
      ap (λ (n : ℕ). take n (drop at (placed S at (digits 8 k v)))) (sym (length_digits 8 k v)) ∙ part_same S at (digits 8 k v) fit in
      ap (num 8) e ∙ num-digits 8 k v l

  pub number-other : (a n : ℕ) → (a + n ≤ at) ⊎ (at + k ≤ a) → take n (drop a (placed S at (digits 8 k v))) ≡ take n (drop a S)
  number-other a n (inl l) = part-other S at (digits 8 k v) fit a n (inl l)
  number-other a n (inr l) = part-other S at (digits 8 k v) fit a n (inr (omega (arith, l, length_digits 8 k v)))

-- a count to which n is added
pub plus-same : (S : List ℕ) (at n : ℕ) → at + 8 ≤ length S → long_at S at + n < whole_numbers → long_at (plus_number S at n) at ≡ long_at S at + n
plus-same S at n l h =
    let e : (long_at S at + n) % whole_numbers ≡ long_at S at + n = omega (arith, h) in
    rw e (number_same S at 8 (long_at S at + n) l h)

-- ---- parts put in, one after the other

pub record Put : Type 0 where
  pub at : ℕ
  pub size : ℕ
  pub bytes : List ℕ

abbrev pub number : ℕ → ℕ → ℕ → Put
number at k v = record { at = at; size = k; bytes = digits 8 k v }

abbrev pub all_put : List ℕ → List Put → List ℕ
all_put S [] = S
all_put S (p ∷ ps) = all_put (placed S p.at p.bytes) ps

-- each has its size, and stands within a state
abbrev pub Fit : List Put → Type 0
Fit [] = Unit {0}
Fit (p ∷ ps) = (length p.bytes ≡ p.size) × (leb (p.at + p.size) state_size ≡ true) × Fit ps

-- none of them touches the n bytes from a on
abbrev pub apart : ℕ → ℕ → List Put → Bool
apart a n [] = true
apart a n (p ∷ ps) = (leb (a + n) p.at || leb (p.at + p.size) a) && apart a n ps

pub put-size : (ps : List Put) (S : List ℕ) → length (all_put S ps) ≡ length S
put-size [] S = refl
put-size (p ∷ ps) S = put-size ps (placed S p.at p.bytes) ∙ length-placed S p.at p.bytes

pub put_other : (ps : List Put) (S : List ℕ) → length S ≡ state_size → Fit ps → (a n : ℕ) → apart a n ps ≡ true → take n (drop a (all_put S ps)) ≡ take n (drop a S)
put_other [] S z f a n h = refl
put_other (p ∷ ps) S z f a n h =
    let b = both (leb (a + n) p.at || leb (p.at + p.size) a) (apart a n ps) h in
    put_other ps (placed S p.at p.bytes) (length-placed S p.at p.bytes ∙ z) f.2 a n b.1
    ∙ part-other S p.at p.bytes (omega (arith, f.0, leb-true (p.at + p.size) state_size f.1, z)) a n (side (leb (a + n) p.at) refl b.0)
  where
    side : (l : Bool) → leb (a + n) p.at ≡ l → (l || leb (p.at + p.size) a) ≡ true → (a + n ≤ p.at) ⊎ (p.at + length p.bytes ≤ a)
    side true e k = inl (leb-true (a + n) p.at e)
    side false e k = inr (omega (arith, f.0, leb-true (p.at + p.size) a k))

pub put_same : (p : Put) (ps : List Put) (S : List ℕ) → length S ≡ state_size → Fit (p ∷ ps) → apart p.at p.size ps ≡ true
    → take p.size (drop p.at (all_put S (p ∷ ps))) ≡ p.bytes
put_same p ps S z f h =
    put_other ps (placed S p.at p.bytes) (length-placed S p.at p.bytes ∙ z) f.2 p.at p.size h
    ∙ ap (λ (n : ℕ). take n (drop p.at (placed S p.at p.bytes))) (sym f.0)
    ∙ part_same S p.at p.bytes (omega (arith, f.0, leb-true (p.at + p.size) state_size f.1, z))

-- ---- zeros

zeros-take : (k n : ℕ) → num 8 (take k (replicate n 0)) ≡ 0
unfolding num
zeros-take zero n = refl
zeros-take (suc k) zero = refl
zeros-take (suc k) (suc n) = rw (zeros-take k n)

pub zeros-drop : (a n : ℕ) → drop a (replicate {A = ℕ} n 0) ≡ replicate (n - a) 0
zeros-drop zero n = let e : n - 0 ≡ n = omega arith in rw e
zeros-drop (suc a) zero = let e : 0 - suc a ≡ 0 = omega arith in rw e
zeros-drop (suc a) (suc n) = let e : suc n - suc a ≡ n - a = omega arith in rw e (zeros-drop a n)

pub zeros-part : (n a k : ℕ) → num 8 (take k (drop a (replicate n 0))) ≡ 0
zeros-part n a k = ap (λ (xs : List ℕ). num 8 (take k xs)) (zeros-drop a n) ∙ zeros-take k (n - a)

-- ---- the parts of a state T that is made of S

pub record Parts (S T R : List ℕ) (b p n : ℕ) : Type 0 where
  pub size : length T ≡ state_size
  pub kind : word_at T kind_at ≡ word_at S kind_at
  pub flow : flow_of T ≡ R
  pub before : long_at T before_at ≡ b
  pub place : long_at T place_at ≡ p
  pub lines : long_at T lines_at ≡ n

module _ (S R : List ℕ) (size : length S ≡ state_size) (long : length R ≡ flow_size) where
  abbrev T₁ : List ℕ
  T₁ = placed S flow_at R

  fit₁ : flow_at + length R ≤ length S
  fit₁ = omega (arith, size, long)

  size₁ : length T₁ ≡ state_size
  size₁ = length-placed S flow_at R ∙ size

  flow₁ : flow_of T₁ ≡ R
  flow₁ = ap (λ (k : ℕ). take k (drop flow_at T₁)) (sym long) ∙ part_same S flow_at R fit₁

  -- the record and two counts
  pub turned-parts : (m n : ℕ) → long_at S place_at + m < whole_numbers → long_at S lines_at + n < whole_numbers
      → Parts S (plus_number (plus_number T₁ place_at m) lines_at n) R (long_at S before_at) (long_at S place_at + m) (long_at S lines_at + n)
  turned-parts m n hm hn =
      let v₂ = (long_at T₁ place_at + m) % whole_numbers in
      let T₂ = plus_number T₁ place_at m in
      let v₃ = (long_at T₂ lines_at + n) % whole_numbers in
      let size₂ : length T₂ ≡ state_size = length-placed T₁ place_at (digits 8 8 v₂) ∙ size₁ in
      let p : long_at T₁ place_at ≡ long_at S place_at = ap (num 8) (part-other S flow_at R fit₁ place_at 8 (inl (omega arith))) in
      let q : long_at T₂ lines_at ≡ long_at S lines_at =
      ap (num 8) (number-other T₁ place_at 8 v₂ (omega (arith, size₁)) lines_at 8 (inr (omega arith)) ∙ part-other S flow_at R fit₁ lines_at 8 (inl (omega arith))) in
      record {
        size = length-placed T₂ lines_at (digits 8 8 v₃) ∙ size₂;
        kind =
            ap (num 8)
            (number-other T₂ lines_at 8 v₃ (omega (arith, size₂)) kind_at 4 (inl (omega arith))
            ∙ number-other T₁ place_at 8 v₂ (omega (arith, size₁)) kind_at 4 (inl (omega arith))
            ∙ part-other S flow_at R fit₁ kind_at 4 (inl (omega arith)));
        flow =
            number-other T₂ lines_at 8 v₃ (omega (arith, size₂)) flow_at flow_size (inr (omega arith))
            ∙ number-other T₁ place_at 8 v₂ (omega (arith, size₁)) flow_at flow_size (inr (omega arith))
            ∙ flow₁;
        before =
            ap (num 8)
            (number-other T₂ lines_at 8 v₃ (omega (arith, size₂)) before_at 8 (inl (omega arith))
            ∙ number-other T₁ place_at 8 v₂ (omega (arith, size₁)) before_at 8 (inl (omega arith))
            ∙ part-other S flow_at R fit₁ before_at 8 (inl (omega arith)));
        place =
            ap (num 8) (number-other T₂ lines_at 8 v₃ (omega (arith, size₂)) place_at 8 (inl (omega arith)))
            ∙ plus-same T₁ place_at m (omega (arith, size₁)) (omega (arith, p, hm))
            ∙ ap (λ (x : ℕ). x + m) p;
        lines = plus-same T₂ lines_at n (omega (arith, size₂)) (omega (arith, q, hn)) ∙ ap (λ (x : ℕ). x + n) q;
      }

  -- the record, the bytes before the last renewal, and the first number
  pub renewed-parts : (o f : ℕ) → long_at S before_at + o < whole_numbers
      → Parts S (placed (plus_number T₁ before_at o) first_at (digits 8 4 f)) R (long_at S before_at + o) (long_at S place_at) (long_at S lines_at)
  renewed-parts o f ho =
      let v₂ = (long_at T₁ before_at + o) % whole_numbers in
      let T₂ = plus_number T₁ before_at o in
      let size₂ : length T₂ ≡ state_size = length-placed T₁ before_at (digits 8 8 v₂) ∙ size₁ in
      let p : long_at T₁ before_at ≡ long_at S before_at = ap (num 8) (part-other S flow_at R fit₁ before_at 8 (inl (omega arith))) in
      record {
        size = length-placed T₂ first_at (digits 8 4 f) ∙ size₂;
        kind =
            ap (num 8)
            (number-other T₂ first_at 4 f (omega (arith, size₂)) kind_at 4 (inl (omega arith))
            ∙ number-other T₁ before_at 8 v₂ (omega (arith, size₁)) kind_at 4 (inl (omega arith))
            ∙ part-other S flow_at R fit₁ kind_at 4 (inl (omega arith)));
        flow =
            number-other T₂ first_at 4 f (omega (arith, size₂)) flow_at flow_size (inr (omega arith))
            ∙ number-other T₁ before_at 8 v₂ (omega (arith, size₁)) flow_at flow_size (inr (omega arith))
            ∙ flow₁;
        before =
            ap (num 8) (number-other T₂ first_at 4 f (omega (arith, size₂)) before_at 8 (inr (omega arith)))
            ∙ plus-same T₁ before_at o (omega (arith, size₁)) (omega (arith, p, ho))
            ∙ ap (λ (x : ℕ). x + o) p;
        place =
            ap (num 8)
            (number-other T₂ first_at 4 f (omega (arith, size₂)) place_at 8 (inr (omega arith))
            ∙ number-other T₁ before_at 8 v₂ (omega (arith, size₁)) place_at 8 (inr (omega arith))
            ∙ part-other S flow_at R fit₁ place_at 8 (inl (omega arith)));
        lines =
            ap (num 8)
            (number-other T₂ first_at 4 f (omega (arith, size₂)) lines_at 8 (inr (omega arith))
            ∙ number-other T₁ before_at 8 v₂ (omega (arith, size₁)) lines_at 8 (inr (omega arith))
            ∙ part-other S flow_at R fit₁ lines_at 8 (inl (omega arith)));
      }

-- ---- a fresh state: its list, its kind, and zeros

module _ (L : List ℕ) (kind : ℕ) where
  abbrev zeros : List ℕ
  zeros = replicate state_size 0

  abbrev fresh-puts : List Put
  fresh-puts = number length_at 8 (length L) ∷ number sum_at 8 (sum_of L) ∷ number kind_at 4 kind ∷ []

  fresh-last : Fit (number kind_at 4 kind ∷ [])
  fresh-last = (length_digits 8 4 kind, refl, tt)

  fresh-fit : Fit fresh-puts
  fresh-fit = (length_digits 8 8 (length L), refl, (length_digits 8 8 (sum_of L), refl, fresh-last))

  size₀ : length zeros ≡ state_size
  size₀ = length-replicate {A = ℕ} state_size 0

  pub fresh-size : length (fresh_state L kind zeros) ≡ state_size
  fresh-size = put-size fresh-puts zeros ∙ size₀

  pub fresh-kind : kind < 2 ^ (8 * 4) → word_at (fresh_state L kind zeros) kind_at ≡ kind
  fresh-kind l =
      ap (num 8) (put_same (number kind_at 4 kind) [] (all_put zeros (number length_at 8 (length L) ∷ number sum_at 8 (sum_of L) ∷ [])) (put-size (number length_at 8 (length L) ∷ number sum_at 8 (sum_of L) ∷ []) zeros ∙ size₀) fresh-last refl)
      ∙ num-digits 8 4 kind l

  -- each part from the first number on is zeros
  pub fresh-part : (a n : ℕ) → apart a n fresh-puts ≡ true → take n (drop a (fresh_state L kind zeros)) ≡ take n (drop a zeros)
  fresh-part a n e = put_other fresh-puts zeros size₀ fresh-fit a n e

  pub fresh-number : (a n : ℕ) → apart a n fresh-puts ≡ true → num 8 (take n (drop a (fresh_state L kind zeros))) ≡ 0
  fresh-number a n e = ap (num 8) (fresh-part a n e) ∙ zeros-part state_size a n
