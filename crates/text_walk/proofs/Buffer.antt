-- Rows of the work place: one read again after it was written, the others stay. Assumes nothing.
use Prim.Native.Nat.{ℕ, suc, ◌+◌, ◌-◌, ◌*◌, ◌^◌, ◌≤◌, ◌<◌}
use mathlib.Core.Path.{◌≡◌, refl, sym, ap, ◌∙◌}
use mathlib.Core.List.{List, ◌++◌, append_assoc}
use mathlib.Core.Logic.{◌⊎◌, inl, inr}
use native.Mathlib.Omega.{arith}
use native.Mathlib.Decide.{dec_lt}
use native.Mathlib.Nat.{lt_of_not-le}
use lib.ListN.{length, take, drop, length-append}
use lib.Seq.{take_at, drop_at, take-take, drop-drop, length-take-le}
use Rattle.numbers.specs.Number.{num, placed}
use Rattle.sets.specs.Set.{states, byte_count, set_size, byte_set_size, set_bytes, byte_set_bytes, byte_set_at, read_at}
use Rattle.numbers.proofs.Laws.{Small, small-drop, num-take-lt, drop-take, length_digits, num-digits}
use Rattle.numbers.proofs.Placing.{placed-fits, length-placed}
use Rattle.text_walk.specs.inner.Rows.{row_size, rows_size, prior_at, bytes_of}

module _ (b : List ℕ) (at : ℕ) (xs : List ℕ) (fits : at + length xs ≤ length b) where
  front_long : length (take at b) ≡ at
  front_long = length-take-le at b (omega arith)

  -- what stands behind, in front, and there
  pub placed-behind : (c : ℕ) → at + length xs ≤ c → drop c (placed b at xs) ≡ drop c b
  placed-behind c h =
      let n : length (take at b ++ xs) ≡ at + length xs = simp length-append (omega (arith, front_long)) in
      let e : (c - (at + length xs)) + (at + length xs) ≡ c = omega arith in
      let f : at + length xs + (c - (at + length xs)) ≡ c = omega arith in
      ap (drop c) (placed-fits b at xs fits)
      ∙ ap (λ (z : ℕ). drop z ((take at b ++ xs) ++ drop (at + length xs) b)) (sym f)
      ∙ sym (drop-drop (c - (at + length xs)) (at + length xs) ((take at b ++ xs) ++ drop (at + length xs) b))
      ∙ ap (drop (c - (at + length xs))) (drop_at (take at b ++ xs) (drop (at + length xs) b) (at + length xs) n)
      ∙ drop-drop (c - (at + length xs)) (at + length xs) b
      ∙ ap (λ (z : ℕ). drop z b) f

  pub placed-front : take at (placed b at xs) ≡ take at b
  placed-front = ap (take at) (placed-fits b at xs fits ∙ append_assoc (take at b) xs (drop (at + length xs) b)) ∙ take_at (take at b) (xs ++ drop (at + length xs) b) at front_long

  pub placed-before : (c n : ℕ) → c + n ≤ at → take n (drop c (placed b at xs)) ≡ take n (drop c b)
  placed-before c n h =
      sym (drop-take c n (placed b at xs)) ∙ ap (drop c) (sym (take-take (n + c) at (placed b at xs) (omega arith)) ∙ ap (take (n + c)) placed-front ∙ take-take (n + c) at b (omega arith)) ∙ drop-take c n b

  pub placed-there : take (length xs) (drop at (placed b at xs)) ≡ xs
  placed-there =
      ap (λ (z : List ℕ). take (length xs) (drop at z)) (placed-fits b at xs fits ∙ append_assoc (take at b) xs (drop (at + length xs) b))
      ∙ ap (take (length xs)) (drop_at (take at b) (xs ++ drop (at + length xs) b) at front_long)
      ∙ take_at xs (drop (at + length xs) b) (length xs) refl

below-above : (u t : ℕ) → (u ≡ t → ⊥) → (u < t) ⊎ (t < u)
below-above u t n = elim (dec_lt u t) [ yes l ↦ inl l | no g ↦ inr (over g) ]
  where
    over : (u < t → ⊥) → t < u
    over g = elim (dec_lt t u) [ yes l ↦ l | no h ↦ absurd (n (omega (arith, lt_of_not-le (λ (l : suc u ≤ t). g l), lt_of_not-le (λ (l : suc t ≤ u). h l)))) ]

-- ---- a set written at a row

module _ (A : List ℕ) (t : ℕ) (h : t < states) (l : length A ≡ rows_size) (S : ℕ) where
  set_long : length (set_bytes S) ≡ set_size
  set_long = length_digits 8 set_size S

  set-fits : row_size * t + length (set_bytes S) ≤ length A
  set-fits = omega (arith, set_long)

  pub prior-there : S < 2 ^ states → prior_at (placed A (row_size * t) (set_bytes S)) t ≡ S
  unfolding read_at
  prior-there s =
      ap (λ (n : ℕ). num 8 (take n (drop (row_size * t) (placed A (row_size * t) (set_bytes S))))) (sym set_long)
      ∙ ap (num 8) (placed-there A (row_size * t) (set_bytes S) set-fits) ∙ num-digits 8 set_size S s

  pub prior-other : (u : ℕ) → (u ≡ t → ⊥) → prior_at (placed A (row_size * t) (set_bytes S)) u ≡ prior_at A u
  unfolding read_at
  prior-other u n = go (below-above u t n)
    where
      go : (u < t) ⊎ (t < u) → num 8 (take set_size (drop (row_size * u) (placed A (row_size * t) (set_bytes S)))) ≡ num 8 (take set_size (drop (row_size * u) A))
      go (inl k) = ap (num 8) (placed-before A (row_size * t) (set_bytes S) set-fits (row_size * u) set_size (omega arith))
      go (inr k) = ap (λ (z : List ℕ). num 8 (take set_size z)) (placed-behind A (row_size * t) (set_bytes S) set-fits (row_size * u) (omega (arith, set_long)))

  pub prior-bytes : (u : ℕ) → bytes_of (placed A (row_size * t) (set_bytes S)) u ≡ bytes_of A u
  unfolding read_at
  prior-bytes u = elim (dec_lt u t) [ yes k ↦ early k | no g ↦ late (lt_of_not-le (λ (l : suc u ≤ t). g l)) ]
    where
      early : u < t → num 8 (take byte_set_size (drop (row_size * u + set_size) (placed A (row_size * t) (set_bytes S)))) ≡ num 8 (take byte_set_size (drop (row_size * u + set_size) A))
      early k = ap (num 8) (placed-before A (row_size * t) (set_bytes S) set-fits (row_size * u + set_size) byte_set_size (omega arith))

      late : t < suc u → num 8 (take byte_set_size (drop (row_size * u + set_size) (placed A (row_size * t) (set_bytes S)))) ≡ num 8 (take byte_set_size (drop (row_size * u + set_size) A))
      late k = ap (λ (z : List ℕ). num 8 (take byte_set_size z)) (placed-behind A (row_size * t) (set_bytes S) set-fits (row_size * u + set_size) (omega (arith, set_long)))

  pub prior-long : length (placed A (row_size * t) (set_bytes S)) ≡ length A
  prior-long = length-placed A (row_size * t) (set_bytes S)

-- ---- a byte set written at a row

module _ (A : List ℕ) (t : ℕ) (h : t < states) (l : length A ≡ rows_size) (S : ℕ) where
  byte-set-long : length (byte_set_bytes S) ≡ byte_set_size
  byte-set-long = length_digits 8 byte_set_size S

  byte-set-fits : row_size * t + set_size + length (byte_set_bytes S) ≤ length A
  byte-set-fits = omega (arith, byte-set-long)

  pub bytes-there : S < 2 ^ byte_count → bytes_of (placed A (row_size * t + set_size) (byte_set_bytes S)) t ≡ S
  unfolding read_at
  bytes-there s =
      ap (λ (n : ℕ). num 8 (take n (drop (row_size * t + set_size) (placed A (row_size * t + set_size) (byte_set_bytes S))))) (sym byte-set-long)
      ∙ ap (num 8) (placed-there A (row_size * t + set_size) (byte_set_bytes S) byte-set-fits) ∙ num-digits 8 byte_set_size S s

  pub bytes-other : (u : ℕ) → (u ≡ t → ⊥) → bytes_of (placed A (row_size * t + set_size) (byte_set_bytes S)) u ≡ bytes_of A u
  unfolding read_at
  bytes-other u n = go (below-above u t n)
    where
      go : (u < t) ⊎ (t < u) → num 8 (take byte_set_size (drop (row_size * u + set_size) (placed A (row_size * t + set_size) (byte_set_bytes S)))) ≡ num 8 (take byte_set_size (drop (row_size * u + set_size) A))
      go (inl k) = ap (num 8) (placed-before A (row_size * t + set_size) (byte_set_bytes S) byte-set-fits (row_size * u + set_size) byte_set_size (omega arith))
      go (inr k) = ap (λ (z : List ℕ). num 8 (take byte_set_size z)) (placed-behind A (row_size * t + set_size) (byte_set_bytes S) byte-set-fits (row_size * u + set_size) (omega (arith, byte-set-long)))

  pub bytes-prior : (u : ℕ) → prior_at (placed A (row_size * t + set_size) (byte_set_bytes S)) u ≡ prior_at A u
  unfolding read_at
  bytes-prior u = elim (dec_lt t u) [ yes k ↦ late k | no g ↦ early (lt_of_not-le (λ (l : suc t ≤ u). g l)) ]
    where
      early : u < suc t → num 8 (take set_size (drop (row_size * u) (placed A (row_size * t + set_size) (byte_set_bytes S)))) ≡ num 8 (take set_size (drop (row_size * u) A))
      early k = ap (num 8) (placed-before A (row_size * t + set_size) (byte_set_bytes S) byte-set-fits (row_size * u) set_size (omega arith))

      late : t < u → num 8 (take set_size (drop (row_size * u) (placed A (row_size * t + set_size) (byte_set_bytes S)))) ≡ num 8 (take set_size (drop (row_size * u) A))
      late k = ap (λ (z : List ℕ). num 8 (take set_size z)) (placed-behind A (row_size * t + set_size) (byte_set_bytes S) byte-set-fits (row_size * u) (omega (arith, byte-set-long)))

  pub bytes-long : length (placed A (row_size * t + set_size) (byte_set_bytes S)) ≡ length A
  bytes-long = length-placed A (row_size * t + set_size) (byte_set_bytes S)

pub byte-set-at-lt : (b : List ℕ) (at : ℕ) → Small 8 b → byte_set_at b at < 2 ^ byte_count
unfolding read_at
byte-set-at-lt b at h = num-take-lt 8 (drop at b) (small-drop 8 at b h) byte_set_size
