-- A set within another: in words, and by the words of the code. Assumes nothing.
use Prim.Native.Nat.{ℕ, ◌+◌, ◌*◌, ◌/◌, ◌%◌, ◌^◌, ◌≤◌, ◌<◌}
use mathlib.Core.Path.{◌≡◌, refl, sym, ap, ◌∙◌}
use mathlib.Core.Bool.{Bool, true, false, ◌||◌}
use mathlib.Core.List.{List}
use mathlib.Core.Logic.{◌↔◌}
use native.Mathlib.Omega.{arith}
use native.Mathlib.Decide.{ℕ_discrete}
use lib.ListN.{get_or, take, drop}
use lib.Dec.{eqb}
use lib.Bits.{bit_or, bit_xor, or_shr, or_mod, or_add_and, xor_add_and, xor_self, and_le_l, and_le_r}
use borrow.Author.Tests.{eqb-true, eq-eqb, ne_eqb}
use Rattle.numbers.specs.Number.{num}
use Rattle.sets.specs.Set.{set_words, holds, join, within, set_at}
use Rattle.numbers.proofs.Laws.{Small, length_digits, small-digits}
use Rattle.sets.proofs.Sets.{Words, holds-join, set-ext}
use Rattle.sets.proofs.Words.{Laid, word_at, join-words}
use Rattle.sets.proofs.Standing.{words_in, words-in, words-in-at}

-- a is within b exactly when each of its members is one of b
pub within-exactly : (a b : ℕ) → within a b ≡ true ↔ ((s : ℕ) → holds a s ≡ true → holds b s ≡ true)
unfolding within
within-exactly a b = (there, back)
  where
    there : eqb (join a b) b ≡ true → (s : ℕ) → holds a s ≡ true → holds b s ≡ true
    there e s h = ap (λ (n : ℕ). holds n s) (sym (eqb-true (join a b) b e)) ∙ holds-join a b s ∙ rw h

    or-of : (x y : Bool) → (x ≡ true → y ≡ true) → (x || y) ≡ y
    or-of true y f = sym (f refl)
    or-of false y f = refl

    back : ((s : ℕ) → holds a s ≡ true → holds b s ≡ true) → eqb (join a b) b ≡ true
    back f = eq-eqb (join a b) b (set-ext (join a b) b (λ s. holds-join a b s ∙ or-of (holds a s) (holds b s) (f s)))

-- then it is no larger, as a number
pub within-le : (a b : ℕ) → within a b ≡ true → a ≤ b
unfolding within join
within-le a b e = omega (arith, eqb-true (join a b) b e, or_add_and a b, and_le_r a b)

-- ---- the words of two sets

xor-none : (x y : ℕ) → bit_xor x y ≡ 0 → x ≡ y
xor-none x y e = omega (arith, xor_add_and x y, and_le_l x y, and_le_r x y)

-- what word i of a has beyond that of b
abbrev pub beyond : ℕ → ℕ → ℕ
beyond x y = bit_xor (bit_or x y) y

module _ (m : ℕ) (a b : List ℕ) (va : Words m a) (vb : Words m b) where
  within-words : ((i : ℕ) → i < m → beyond (get_or a i 0) (get_or b i 0) ≡ 0) → within (num 64 a) (num 64 b) ≡ true
  unfolding within
  within-words h =
      eq-eqb (join (num 64 a) (num 64 b)) (num 64 b)
      (sym (join-words m a b va vb b vb.long (λ j l. sym (xor-none (bit_or (get_or a j 0) (get_or b j 0)) (get_or b j 0) (h j l)))))

  beyond-at : (i : ℕ) → i < m → (beyond (get_or a i 0) (get_or b i 0) ≡ 0 → ⊥) → within (num 64 a) (num 64 b) ≡ false
  unfolding within join
  beyond-at i l ne =
      ne_eqb (join (num 64 a) (num 64 b)) (num 64 b)
      (λ e. ne (ap (λ (x : ℕ). bit_xor x (get_or b i 0)) (sym both ∙ ap (λ (n : ℕ). n / 2 ^ (64 * i) % 2 ^ 64) e ∙ word_at b i vb.small (omega (arith, vb.long))) ∙ xor_self (get_or b i 0)))
    where
      both : bit_or (num 64 a) (num 64 b) / 2 ^ (64 * i) % 2 ^ 64 ≡ bit_or (get_or a i 0) (get_or b i 0)
      both =
          rw (
            or_shr (num 64 a) (num 64 b) (64 * i),
            or_mod (num 64 a / 2 ^ (64 * i)) (num 64 b / 2 ^ (64 * i)) 64,
            word_at a i va.small (omega (arith, va.long)),
            word_at b i vb.small (omega (arith, vb.long)),
          )

  -- what they have beyond, laid over one another
  pub within_all : (extra : ℕ) → Laid (λ j. beyond (get_or a j 0) (get_or b j 0)) m extra → eqb extra 0 ≡ within (num 64 a) (num 64 b)
  within_all extra h = go (ℕ_discrete extra 0)
    where
      go : Dec (extra ≡ 0) → eqb extra 0 ≡ within (num 64 a) (num 64 b)
      go (yes e) = eq-eqb extra 0 e ∙ sym (within-words (h.0 e))
      go (no n) = let w = h.1 n in ne_eqb extra 0 n ∙ sym (beyond-at w.0 w.1 w.2)

-- so of the set that stands in a list of bytes
pub covers-all : (ws b : List ℕ) (at extra : ℕ) → Words set_words ws → Small 8 b → Laid (λ j. beyond (num 8 (take 8 (drop (at + 8 * j) b))) (get_or ws j 0)) set_words extra
    → eqb extra 0 ≡ within (set_at b at) (num 64 ws)
covers-all ws b at extra v h l =
    within_all set_words (words_in b at) ws (record { long = length_digits 64 set_words (set_at b at); small = small-digits 64 set_words (set_at b at) }) v extra
    (λ e j k. rw (words-in-at b at j h k) (l.0 e j k), λ n. let w = l.1 n in (w.0, w.1, rw (words-in-at b at w.0 h w.1) w.2))
    ∙ ap (λ (n : ℕ). within n (num 64 ws)) (words-in b at h)
