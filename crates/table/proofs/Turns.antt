-- A loop that tests every number below n: one turn more, the turn that stops it, and its end. Assumes nothing.
use Prim.Native.Nat.{ℕ, zero, suc, ◌+◌, ◌<◌}
use mathlib.Core.Path.{◌≡◌, refl, sym, ap, ◌∙◌}
use mathlib.Core.Bool.{Bool, true, false, ◌&&◌}
use native.Mathlib.Numerals.{add-one}
use Rattle.rules.specs.Scan.{every}
use Rattle.rules.proofs.Scanning.{every-fails}

pub every-none : (p : ℕ → Bool) → every 0 p ≡ true
unfolding every
every-none p = refl

pub every_more : (p : ℕ → Bool) (i : ℕ) → every i p ≡ true → p i ≡ true → every (i + 1) p ≡ true
unfolding every
every_more p i e q = rw (add-one i, e, q)

pub every-stops : (n : ℕ) (p : ℕ → Bool) (i : ℕ) → i < n → p i ≡ false → false ≡ every n p
every-stops n p i h q = sym (every-fails n p i h q)

pub every-ends : (n : ℕ) (p : ℕ → Bool) (i : ℕ) → i ≡ n → every i p ≡ true → true ≡ every n p
every-ends n p i e q = sym (ap (λ (m : ℕ). every m p) (sym e) ∙ q)

-- every number passes both tests exactly when every one passes the second and every one the first
pub every-both : (n : ℕ) (p q : ℕ → Bool) → every n (λ i. p i && q i) ≡ (every n q && every n p)
unfolding every
every-both zero p q = refl
every-both (suc n) p q = rw (every-both n p q) (turned (every n q) (every n p) (p n) (q n))
  where
    turned : (a b c d : Bool) → ((a && b) && (c && d)) ≡ ((a && d) && (b && c))
    turned false b c d = refl
    turned true false c d = lost d
      where
        lost : (d : Bool) → false ≡ (d && false)
        lost false = refl
        lost true = refl
    turned true true false d = lost d
      where
        lost : (d : Bool) → false ≡ (d && false)
        lost false = refl
        lost true = refl
    turned true true true false = refl
    turned true true true true = refl
