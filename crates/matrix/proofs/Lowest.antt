-- The lowest one of a word: it stands at the count of the zeros below it, and `n & (n - 1)` is the word without it. So the members are met one by one, rising. Assumes nothing.
use Prim.Native.Nat.{ℕ, zero, suc, ◌+◌, ◌-◌, ◌*◌, ◌/◌, ◌%◌, ◌^◌, ◌<◌}
use mathlib.Core.Path.{◌≡◌, refl, sym, ap, ◌∙◌}
use mathlib.Core.Bool.{false}
use mathlib.Core.List.{List, ◌∷◌, ◌++◌}
use native.Mathlib.Omega.{arith}
use native.Mathlib.Nat.{mod-lt, pow-suc, add-zero}
use lib.Dec.{eqb, lit<}
use lib.Pow.{pow-add, pow_pos, pow-lt}
use lib.Bits.{bit_and, bit_or, and_step, and_self, and_le_r, or_block, or_shifted, or_comm}
use lib.Count.{count_trailing_zeros, under, ones, ones_step}
use Rattle.numbers.specs.Number.{bit}
use Rattle.sets.specs.Set.{holds, join, members}
use Rattle.numbers.proofs.Laws.{bit-half}
use Rattle.sets.proofs.Parts.{members-one, members-parts}

-- the word without its lowest one
abbrev pub cleared : ℕ → ℕ
cleared n = bit_and n (n - 1)

half : (n k : ℕ) → n < 2 ^ suc k → n / 2 < 2 ^ k
half n k l = let e : 2 ^ suc k ≡ 2 ^ k * 2 = pow-suc 2 k in omega arith

-- an odd word loses its lowest bit; an even one is twice what its half becomes
cleared-odd : (n : ℕ) → n % 2 ≡ 1 → cleared n ≡ n / 2 * 2 ^ 1
cleared-odd n e =
    let a : (n - 1) / 2 ≡ n / 2 = omega arith in
    let b : (n - 1) % 2 ≡ 0 = omega arith in
    and_step n (n - 1) ∙ rw (a, b, e, and_self (n / 2)) (omega arith)

cleared-even : (n : ℕ) → zero < n → n % 2 ≡ 0 → cleared n ≡ cleared (n / 2) * 2 ^ 1 + 0
cleared-even n p e =
    let a : (n - 1) / 2 ≡ n / 2 - 1 = omega arith in
    let b : (n - 1) % 2 ≡ 1 = omega arith in
    and_step n (n - 1) ∙ rw (a, b, e)

-- the word is that, joined with its lowest one
pub lowest-or : (k n : ℕ) → zero < n → n < 2 ^ k → bit_or (cleared n) (2 ^ count_trailing_zeros k n) ≡ n
unfolding count_trailing_zeros
lowest-or zero n p h = absurd (omega arith)
lowest-or (suc k) n p h = go (n % 2) refl (mod-lt n (lit< tt)) (λ q. lowest-or k (n / 2) q (half n k h))
  where
    go : (d : ℕ) → n % 2 ≡ d → d < 2 → (zero < n / 2 → bit_or (cleared (n / 2)) (2 ^ count_trailing_zeros k (n / 2)) ≡ n / 2)
        → bit_or (cleared n) (2 ^ under d (count_trailing_zeros k (n / 2))) ≡ n
    go (suc (suc d)) e l ih = absurd (omega arith)
    go (suc zero) e l ih =
        rw (cleared-odd n e) (or_shifted (n / 2) 1 1 (lit< tt) ∙ omega arith)
    go zero e l ih =
        let s = cleared-even n p e in
        let t : 2 ^ suc (count_trailing_zeros k (n / 2)) ≡ 2 ^ count_trailing_zeros k (n / 2) * 2 ^ 1 + 0 = pow-suc 2 (count_trailing_zeros k (n / 2)) ∙ sym (add-zero (2 ^ count_trailing_zeros k (n / 2) * 2)) in
        rw (s, t, or_block 1 (cleared (n / 2)) (2 ^ count_trailing_zeros k (n / 2)) 0 0 (lit< tt) (lit< tt), ih (omega arith)) (omega arith)

-- one word less: it falls
pub cleared-less : (n : ℕ) → zero < n → cleared n < n
cleared-less n p = omega (arith, and_le_r n (n - 1))

-- the same of a word that stands at place s
pub lowest-join : (k n s : ℕ) → zero < n → n < 2 ^ k → n * 2 ^ s ≡ join (cleared n * 2 ^ s) (2 ^ (s + count_trailing_zeros k n))
unfolding join
lowest-join k n s p h =
    let t = count_trailing_zeros k n in
    let e : s + t ≡ t + s = omega arith in
    let u : 2 ^ (s + t) ≡ 2 ^ t * 2 ^ s = ap (λ (i : ℕ). 2 ^ i) e ∙ pow-add 2 t s in
    sym (ap₃ u ∙ shifted ∙ ap (λ (m : ℕ). m * 2 ^ s) (lowest-or k n p h))
  where
    ap₃ : 2 ^ (s + count_trailing_zeros k n) ≡ 2 ^ count_trailing_zeros k n * 2 ^ s → bit_or (cleared n * 2 ^ s) (2 ^ (s + count_trailing_zeros k n)) ≡ bit_or (cleared n * 2 ^ s) (2 ^ count_trailing_zeros k n * 2 ^ s)
    ap₃ u = ap (bit_or (cleared n * 2 ^ s)) u

    shifted : bit_or (cleared n * 2 ^ s) (2 ^ count_trailing_zeros k n * 2 ^ s) ≡ bit_or (cleared n) (2 ^ count_trailing_zeros k n) * 2 ^ s
    shifted = rw (add-zero (cleared n * 2 ^ s), add-zero (2 ^ count_trailing_zeros k n * 2 ^ s), add-zero (bit_or (cleared n) (2 ^ count_trailing_zeros k n) * 2 ^ s)) at (or_block s (cleared n) (2 ^ count_trailing_zeros k n) 0 0 (pow_pos s) (pow_pos s))

-- it has one more one than the word without it
pub ones-cleared : (k n : ℕ) → zero < n → n < 2 ^ k → ones n ≡ ones (cleared n) + 1
ones-cleared zero n p h = absurd (omega arith)
ones-cleared (suc k) n p h = go (n % 2) refl (mod-lt n (lit< tt)) (λ q. ones-cleared k (n / 2) q (half n k h))
  where
    -- a number with a 0 below
    even : (a : ℕ) → ones (a * 2 + 0) ≡ ones a
    even a =
        let p : (a * 2 + 0) % 2 ≡ 0 = omega arith in
        let q : (a * 2 + 0) / 2 ≡ a = omega arith in
        ones_step (a * 2 + 0) ∙ rw (p, q) (omega arith)

    go : (d : ℕ) → n % 2 ≡ d → d < 2 → (zero < n / 2 → ones (n / 2) ≡ ones (cleared (n / 2)) + 1) → ones n ≡ ones (cleared n) + 1
    go (suc (suc d)) e l ih = absurd (omega arith)
    go (suc zero) e l ih =
        let s : cleared n ≡ n / 2 * 2 + 0 = cleared-odd n e ∙ omega arith in
        omega (arith, ones_step n, e, ap ones s, even (n / 2))
    go zero e l ih =
        omega (arith, ones_step n, e, ap ones (cleared-even n p e), even (cleared (n / 2)), ih (omega arith))

-- ---- the members of a word are met one by one

-- of a number with a 0 below: that is not held, and the others are those of the number, one place up
shifted_none : (a : ℕ) → holds (a * 2 ^ 1) 0 ≡ false
unfolding holds
shifted_none a = let e : a * 2 ^ 1 / 1 % 2 ≡ 0 = omega arith in rw e

shifted_up : (a s : ℕ) → holds (a * 2 ^ 1) (suc s) ≡ holds a s
unfolding holds
shifted_up a s = let e : a * 2 ^ 1 / 2 ≡ a = omega arith in ap (λ (x : ℕ). eqb x 1) (sym (bit-half (a * 2 ^ 1) s) ∙ ap (λ (y : ℕ). bit y s) e)

-- the word without its lowest one has none up to that
above : (k n : ℕ) → zero < n → n < 2 ^ k → (s : ℕ) → s < suc (count_trailing_zeros k n) → holds (cleared n) s ≡ false
unfolding count_trailing_zeros
above zero n p h s l = absurd (omega arith)
above (suc k) n p h s l = go (n % 2) refl (mod-lt n (lit< tt)) l (λ q j m. above k (n / 2) q (half n k h) j m)
  where
    go : (d : ℕ) → n % 2 ≡ d → d < 2 → s < suc (under d (count_trailing_zeros k (n / 2)))
        → (zero < n / 2 → (j : ℕ) → j < suc (count_trailing_zeros k (n / 2)) → holds (cleared (n / 2)) j ≡ false) → holds (cleared n) s ≡ false
    go (suc (suc d)) e l m ih = absurd (omega arith)
    go (suc zero) e l m ih =
        let z : s ≡ 0 = omega arith in
        rw (z, cleared-odd n e) (shifted_none (n / 2))
    go zero e l m ih = rw (cleared-even n p e) (place s m)
      where
        place : (s : ℕ) → s < suc (suc (count_trailing_zeros k (n / 2))) → holds (cleared (n / 2) * 2 ^ 1 + 0) s ≡ false
        place zero m = rw (add-zero (cleared (n / 2) * 2 ^ 1)) (shifted_none (cleared (n / 2)))
        place (suc s) m = rw (add-zero (cleared (n / 2) * 2 ^ 1)) (shifted_up (cleared (n / 2)) s ∙ ih (omega arith) s (omega arith))

lowest-lt : (k n : ℕ) → zero < n → n < 2 ^ k → count_trailing_zeros k n < k
unfolding count_trailing_zeros
lowest-lt zero n p h = absurd (omega arith)
lowest-lt (suc k) n p h = go (n % 2) refl (mod-lt n (lit< tt)) (λ q. lowest-lt k (n / 2) q (half n k h))
  where
    go : (d : ℕ) → n % 2 ≡ d → d < 2 → (zero < n / 2 → count_trailing_zeros k (n / 2) < k) → under d (count_trailing_zeros k (n / 2)) < suc k
    go (suc (suc d)) e l ih = absurd (omega arith)
    go (suc zero) e l ih = omega arith
    go zero e l ih = omega (arith, ih (omega arith))

-- the lowest first, then those of the word without it: so each is met once, and they rise
pub lowest-first : (k n : ℕ) → zero < n → n < 2 ^ k → members k n ≡ count_trailing_zeros k n ∷ members k (cleared n)
unfolding join
lowest-first k n p h =
    let t = count_trailing_zeros k n in
    ap (members k) (sym (lowest-or k n p h) ∙ or_comm (cleared n) (2 ^ t))
    ∙ members-parts (suc t) (2 ^ t) (cleared n) (pow-lt (omega arith)) (above k n p h) k
    ∙ ap (λ (xs : List ℕ). xs ++ members k (cleared n)) (members-one k t (lowest-lt k n p h))
