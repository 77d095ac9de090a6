-- The position automaton's edges and accepting states are among its states.
use Prim.Native.Nat.{ℕ, zero, suc, ◌+◌, ◌-◌, ◌≤◌, ◌<◌}
use mathlib.Core.Path.{◌≡◌, refl}
use mathlib.Core.Bool.{Bool, true, false, ◌&&◌, cond, false≢true}
use mathlib.Core.Logic.{◌⊎◌, inl, inr}
use native.Mathlib.Omega.{arith}
use lib.Dec.{ltb}
use borrow.Author.Tests.{ltb-true, ltb-false, eqb-true}
use Rattle.rules.proofs.Scanning.{both, or_cases}
use Rattle.text.specs.Exp.{Exp, one, eps, cat, alt, plus, size, null, letter, first, last, follows, edge, accepts}

-- by whether a position is one of the first part
parts : (p s : ℕ) (x y : Bool) → cond (ltb p s) x y ≡ true → ((p < s) × (x ≡ true)) ⊎ ((s ≤ p) × (y ≡ true))
parts p s x y h = go (ltb p s) refl h
  where
    go : (b : Bool) → ltb p s ≡ b → cond b x y ≡ true → ((p < s) × (x ≡ true)) ⊎ ((s ≤ p) × (y ≡ true))
    go true e k = inl (ltb-true p s e, k)
    go false e k = inr (ltb-false p s e, k)

pub first_below : (e : Exp) (p : ℕ) → first e p ≡ true → p < size e
unfolding first size
first_below (one s) p h = let z : p ≡ 0 = eqb-true p 0 h in omega arith
first_below eps p h = absurd (false≢true h)
first_below (cat a b) p h = go (parts p (size a) (first a p) (null a && first b (p - size a)) h) (first_below b (p - size a))
  where
    go : ((p < size a) × (first a p ≡ true)) ⊎ ((size a ≤ p) × ((null a && first b (p - size a)) ≡ true)) → (first b (p - size a) ≡ true → p - size a < size b) → p < size a + size b
    go (inl (l, k)) ih = omega arith
    go (inr (l, k)) ih = let w = ih (both (null a) (first b (p - size a)) k).1 in omega arith
first_below (alt a b) p h = go (parts p (size a) (first a p) (first b (p - size a)) h) (first_below b (p - size a))
  where
    go : ((p < size a) × (first a p ≡ true)) ⊎ ((size a ≤ p) × (first b (p - size a) ≡ true)) → (first b (p - size a) ≡ true → p - size a < size b) → p < size a + size b
    go (inl (l, k)) ih = omega arith
    go (inr (l, k)) ih = let w = ih k in omega arith
first_below (plus a) p h = first_below a p h

pub last-below : (e : Exp) (p : ℕ) → last e p ≡ true → p < size e
unfolding last size
last-below (one s) p h = let z : p ≡ 0 = eqb-true p 0 h in omega arith
last-below eps p h = absurd (false≢true h)
last-below (cat a b) p h = go (parts p (size a) (last a p && null b) (last b (p - size a)) h) (last-below b (p - size a))
  where
    go : ((p < size a) × ((last a p && null b) ≡ true)) ⊎ ((size a ≤ p) × (last b (p - size a) ≡ true)) → (last b (p - size a) ≡ true → p - size a < size b) → p < size a + size b
    go (inl (l, k)) ih = omega arith
    go (inr (l, k)) ih = let w = ih k in omega arith
last-below (alt a b) p h = go (parts p (size a) (last a p) (last b (p - size a)) h) (last-below b (p - size a))
  where
    go : ((p < size a) × (last a p ≡ true)) ⊎ ((size a ≤ p) × (last b (p - size a) ≡ true)) → (last b (p - size a) ≡ true → p - size a < size b) → p < size a + size b
    go (inl (l, k)) ih = omega arith
    go (inr (l, k)) ih = let w = ih k in omega arith
last-below (plus a) p h = last-below a p h

pub follows-below : (e : Exp) (p q : ℕ) → follows e p q ≡ true → (p < size e) × (q < size e)
unfolding follows size
follows-below (one s) p q h = absurd (false≢true h)
follows-below eps p q h = absurd (false≢true h)
follows-below (cat a b) p q h = go (parts p (size a) _ _ h) (follows-below b (p - size a) (q - size a))
  where
    go : ((p < size a) × (cond (ltb q (size a)) (follows a p q) (last a p && first b (q - size a)) ≡ true)) ⊎ ((size a ≤ p) × (cond (ltb q (size a)) false (follows b (p - size a) (q - size a)) ≡ true))
        → (follows b (p - size a) (q - size a) ≡ true → (p - size a < size b) × (q - size a < size b)) → (p < size a + size b) × (q < size a + size b)
    go (inl (l, k)) ih = inner (parts q (size a) (follows a p q) (last a p && first b (q - size a)) k)
      where
        inner : ((q < size a) × (follows a p q ≡ true)) ⊎ ((size a ≤ q) × ((last a p && first b (q - size a)) ≡ true)) → (p < size a + size b) × (q < size a + size b)
        inner (inl (m, j)) = (omega arith, omega arith)
        inner (inr (m, j)) = let w = first_below b (q - size a) (both (last a p) (first b (q - size a)) j).1 in (omega arith, omega arith)
    go (inr (l, k)) ih = inner (parts q (size a) false (follows b (p - size a) (q - size a)) k)
      where
        inner : ((q < size a) × (false ≡ true)) ⊎ ((size a ≤ q) × (follows b (p - size a) (q - size a) ≡ true)) → (p < size a + size b) × (q < size a + size b)
        inner (inl (m, j)) = absurd (false≢true j)
        inner (inr (m, j)) = let w = ih j in (omega (arith, w.0), omega (arith, w.1))
follows-below (alt a b) p q h = go (parts p (size a) _ _ h) (follows-below b (p - size a) (q - size a))
  where
    go : ((p < size a) × (cond (ltb q (size a)) (follows a p q) false ≡ true)) ⊎ ((size a ≤ p) × (cond (ltb q (size a)) false (follows b (p - size a) (q - size a)) ≡ true))
        → (follows b (p - size a) (q - size a) ≡ true → (p - size a < size b) × (q - size a < size b)) → (p < size a + size b) × (q < size a + size b)
    go (inl (l, k)) ih = inner (parts q (size a) (follows a p q) false k)
      where
        inner : ((q < size a) × (follows a p q ≡ true)) ⊎ ((size a ≤ q) × (false ≡ true)) → (p < size a + size b) × (q < size a + size b)
        inner (inl (m, j)) = (omega arith, omega arith)
        inner (inr (m, j)) = absurd (false≢true j)
    go (inr (l, k)) ih = inner (parts q (size a) false (follows b (p - size a) (q - size a)) k)
      where
        inner : ((q < size a) × (false ≡ true)) ⊎ ((size a ≤ q) × (follows b (p - size a) (q - size a) ≡ true)) → (p < size a + size b) × (q < size a + size b)
        inner (inl (m, j)) = absurd (false≢true j)
        inner (inr (m, j)) = let w = ih j in (omega (arith, w.0), omega (arith, w.1))
follows-below (plus a) p q h = go (or_cases (follows a p q) (last a p && first a q) h) (follows-below a p q)
  where
    go : (follows a p q ≡ true) ⊎ ((last a p && first a q) ≡ true) → (follows a p q ≡ true → (p < size a) × (q < size a)) → (p < size a) × (q < size a)
    go (inl k) ih = ih k
    go (inr k) ih = let w = both (last a p) (first a q) k in (last-below a p w.0, first_below a q w.1)

pub edge-within : (free : Bool) (e : Exp) (s t c : ℕ) → edge free e s t c ≡ true → (s ≤ size e) × (t ≤ size e)
unfolding edge
edge-within free e zero zero c h = (omega arith, omega arith)
edge-within free e zero (suc q) c h = (omega arith, first_below e q (both (first e q) (letter e q c) h).0)
edge-within free e (suc p) zero c h = absurd (false≢true h)
edge-within free e (suc p) (suc q) c h = follows-below e p q (both (follows e p q) (letter e q c) h).0

pub accepts-within : (e : Exp) (s : ℕ) → accepts e s ≡ true → s ≤ size e
unfolding accepts
accepts-within e zero h = omega arith
accepts-within e (suc p) h = last-below e p h
