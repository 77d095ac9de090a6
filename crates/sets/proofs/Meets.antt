-- Two sets that meet: in words, and by the words of the code. Assumes nothing.
use Prim.Native.Nat.{ℕ, zero, suc, ◌*◌, ◌/◌, ◌%◌, ◌^◌, ◌<◌, min}
use mathlib.Core.Path.{◌≡◌, refl, sym, ap, ◌∙◌}
use mathlib.Core.Bool.{Bool, true, false, ◌&&◌, not, true≢false}
use mathlib.Core.List.{List}
use mathlib.Core.Logic.{◌↔◌}
use native.Mathlib.Nat.{mod-lt, zero-div, zero-mod}
use native.Mathlib.Decide.{ℕ_discrete}
use native.Mathlib.Omega.{arith}
use lib.ListN.{get_or}
use lib.Dec.{eqb}
use lib.Arith.{digits_mod}
use lib.Bits.{bit_and, and_shr, and_mod, and_step}
use borrow.Author.Tests.{eqb-true, eq-eqb, ne_eqb, not-false}
use Rattle.numbers.specs.Number.{num, bit}
use Rattle.sets.specs.Set.{holds, meets}
use Rattle.numbers.proofs.Laws.{two_pos}
use Rattle.sets.proofs.Sets.{Words, holds-empty, set-ext, word_holds}
use Rattle.sets.proofs.Words.{Laid, word_at}

-- bit by bit
bit-and : (a b s : ℕ) → bit (bit_and a b) s ≡ min (bit a s) (bit b s)
bit-and a b s =
    rw (and_shr a b s, and_step (a / 2 ^ s) (b / 2 ^ s)) (digits_mod (bit_and (a / 2 ^ s / 2) (b / 2 ^ s / 2)) (least (bit a s) (bit b s) (mod-lt (a / 2 ^ s) two_pos)))
  where
    least : (x y : ℕ) → x < 2 → min x y < 2
    least x y h = omega arith

min-one : (x y : ℕ) → x < 2 → y < 2 → eqb (min x y) 1 ≡ (eqb x 1 && eqb y 1)
min-one zero zero hx hy = refl
min-one zero (suc zero) hx hy = refl
min-one (suc zero) zero hx hy = refl
min-one (suc zero) (suc zero) hx hy = refl
min-one (suc (suc x)) y hx hy = absurd (omega arith)
min-one zero (suc (suc y)) hx hy = absurd (omega arith)
min-one (suc zero) (suc (suc y)) hx hy = absurd (omega arith)

pub holds-and : (a b s : ℕ) → holds (bit_and a b) s ≡ (holds a s && holds b s)
unfolding holds
holds-and a b s = rw (bit-and a b s) (min-one (bit a s) (bit b s) (mod-lt (a / 2 ^ s) two_pos) (mod-lt (b / 2 ^ s) two_pos))

-- they do not meet exactly when no number is in both
pub apart-exactly : (a b : ℕ) → meets a b ≡ false ↔ ((s : ℕ) → holds a s ≡ true → holds b s ≡ true → ⊥)
unfolding meets
apart-exactly a b = (there, back)
  where
    there : not (eqb (bit_and a b) 0) ≡ false → (s : ℕ) → holds a s ≡ true → holds b s ≡ true → ⊥
    there e s p q =
        let z : bit_and a b ≡ 0 = eqb-true (bit_and a b) 0 (not-false (eqb (bit_and a b) 0) e) in
        true≢false (sym (rw (p, q) at (holds-and a b s)) ∙ ap (λ (n : ℕ). holds n s) z ∙ holds-empty s)

    neither : (x y : Bool) → (x ≡ true → y ≡ true → ⊥) → (x && y) ≡ false
    neither true true h = absurd (h refl refl)
    neither true false h = refl
    neither false y h = refl

    back : ((s : ℕ) → holds a s ≡ true → holds b s ≡ true → ⊥) → not (eqb (bit_and a b) 0) ≡ false
    back h = ap not (eq-eqb (bit_and a b) 0 (set-ext (bit_and a b) 0 (λ s. holds-and a b s ∙ neither (holds a s) (holds b s) (h s) ∙ sym (holds-empty s))))

-- ---- the words of two sets

module _ (m : ℕ) (a b : List ℕ) (va : Words m a) (vb : Words m b) where
  -- a word that they share
  pub meets_at : (i : ℕ) → i < m → (bit_and (get_or a i 0) (get_or b i 0) ≡ 0 → ⊥) → meets (num 64 a) (num 64 b) ≡ true
  unfolding meets
  meets_at i l ne = ap not (ne_eqb (bit_and (num 64 a) (num 64 b)) 0 (λ e. ne (sym both ∙ rw (e, zero-div (2 ^ (64 * i))) (zero-mod (2 ^ 64)))))
    where
      both : bit_and (num 64 a) (num 64 b) / 2 ^ (64 * i) % 2 ^ 64 ≡ bit_and (get_or a i 0) (get_or b i 0)
      both =
          rw (
            and_shr (num 64 a) (num 64 b) (64 * i),
            and_mod (num 64 a / 2 ^ (64 * i)) (num 64 b / 2 ^ (64 * i)) 64,
            word_at a i va.small (omega (arith, va.long)),
            word_at b i vb.small (omega (arith, vb.long)),
          )

  -- no word that they share
  pub meets-none : ((i : ℕ) → i < m → bit_and (get_or a i 0) (get_or b i 0) ≡ 0) → meets (num 64 a) (num 64 b) ≡ false
  meets-none h = (apart-exactly (num 64 a) (num 64 b)).1 (λ s p q. inside s (word_holds m a va s p) (word_holds m b vb s q).1)
    where
      inside : (s : ℕ) → (s / 64 < m) × (holds (get_or a (s / 64) 0) (s % 64) ≡ true) → holds (get_or b (s / 64) 0) (s % 64) ≡ true → ⊥
      inside s p q =
          true≢false
          (sym (rw (p.1, q) at (holds-and (get_or a (s / 64) 0) (get_or b (s / 64) 0) (s % 64)))
          ∙ ap (λ (n : ℕ). holds n (s % 64)) (h (s / 64) p.0) ∙ holds-empty (s % 64))

  -- the words that they share, laid over one another
  pub meets-all : (shared : ℕ) → Laid (λ j. bit_and (get_or a j 0) (get_or b j 0)) m shared → not (eqb shared 0) ≡ meets (num 64 a) (num 64 b)
  meets-all shared h = go (ℕ_discrete shared 0)
    where
      go : Dec (shared ≡ 0) → not (eqb shared 0) ≡ meets (num 64 a) (num 64 b)
      go (yes e) = ap not (eq-eqb shared 0 e) ∙ sym (meets-none (h.0 e))
      go (no n) = let w = h.1 n in ap not (ne_eqb shared 0 n) ∙ sym (meets_at w.0 w.1 w.2)
