-- Positions from k on, and positions from 0 on.
use Prim.Native.Nat.{ℕ, ◌+◌, ◌-◌, ◌≤◌, ◌<◌}
use mathlib.Core.Path.{◌≡◌, refl, ap}
use mathlib.Core.Bool.{Bool, true, false, ◌&&◌, ◌||◌, cond}
use native.Mathlib.Omega.{arith}
use lib.Dec.{ltb, eqb}
use borrow.Author.Tests.{ltb-true, ltb-false, ne_eqb, eq-eqb, eqb-true, eqb-false}
use Rattle.text.specs.Exp.{Exp, one, eps, cat, alt, plus, size, null, letter, first, last, follows}
use Rattle.text_walk.specs.inner.Rows.{first_at, last_at, follows_at, letter_at}

-- q is a position of the expression at k
abbrev Within : ℕ → ℕ → ℕ → Type 0
Within k n q = (k ≤ q) × (q < k + n)

and_none : (a : Bool) → (a && false) ≡ false
and_none true = refl
and_none false = refl

or-none : (a : Bool) → (a || false) ≡ a
or-none true = refl
or-none false = refl

eqb-shift : (k q : ℕ) → eqb (k + q) k ≡ eqb q 0
eqb-shift k q = go (eqb q 0) refl
  where
    go : (b : Bool) → eqb q 0 ≡ b → eqb (k + q) k ≡ b
    go true e = let z : q ≡ 0 = eqb-true q 0 e in eq-eqb (k + q) k (omega arith)
    go false e = let z : q ≡ 0 → ⊥ = eqb-false q 0 e in ne_eqb (k + q) k (λ y. z (omega arith))

-- outside its own positions an expression has no first, no last, no follow
pub first_out : (e : Exp) (k q : ℕ) → (Within k (size e) q → ⊥) → first_at k e q ≡ false
unfolding size first_at
first_out (one s) k q h = ne_eqb q k (λ z. h (omega arith, omega arith))
first_out eps k q h = refl
first_out (cat a b) k q h = rw (first_out a k q (λ z. h (z.0, omega (arith, z.1))), first_out b (k + size a) q (λ z. h (omega (arith, z.0), omega (arith, z.1)))) (and_none (null a))
first_out (alt a b) k q h = rw (first_out a k q (λ z. h (z.0, omega (arith, z.1))), first_out b (k + size a) q (λ z. h (omega (arith, z.0), omega (arith, z.1))))
first_out (plus a) k q h = first_out a k q h

pub last_out : (e : Exp) (k p : ℕ) → (Within k (size e) p → ⊥) → last_at k e p ≡ false
unfolding size last_at
last_out (one s) k p h = ne_eqb p k (λ z. h (omega arith, omega arith))
last_out eps k p h = refl
last_out (cat a b) k p h = rw (last_out a k p (λ z. h (z.0, omega (arith, z.1))), last_out b (k + size a) p (λ z. h (omega (arith, z.0), omega (arith, z.1))))
last_out (alt a b) k p h = rw (last_out a k p (λ z. h (z.0, omega (arith, z.1))), last_out b (k + size a) p (λ z. h (omega (arith, z.0), omega (arith, z.1))))
last_out (plus a) k p h = last_out a k p h

pub follows-from-out : (e : Exp) (k p q : ℕ) → (Within k (size e) p → ⊥) → follows_at k e p q ≡ false
unfolding size follows_at
follows-from-out (one s) k p q h = refl
follows-from-out eps k p q h = refl
follows-from-out (cat a b) k p q h =
    rw (follows-from-out a k p q (λ z. h (z.0, omega (arith, z.1))), follows-from-out b (k + size a) p q (λ z. h (omega (arith, z.0), omega (arith, z.1))), last_out a k p (λ z. h (z.0, omega (arith, z.1))))
follows-from-out (alt a b) k p q h = rw (follows-from-out a k p q (λ z. h (z.0, omega (arith, z.1))), follows-from-out b (k + size a) p q (λ z. h (omega (arith, z.0), omega (arith, z.1))))
follows-from-out (plus a) k p q h = rw (follows-from-out a k p q h, last_out a k p h)

pub follows-to-out : (e : Exp) (k p q : ℕ) → (Within k (size e) q → ⊥) → follows_at k e p q ≡ false
unfolding size follows_at
follows-to-out (one s) k p q h = refl
follows-to-out eps k p q h = refl
follows-to-out (cat a b) k p q h =
    rw (follows-to-out a k p q (λ z. h (z.0, omega (arith, z.1))), follows-to-out b (k + size a) p q (λ z. h (omega (arith, z.0), omega (arith, z.1))), first_out b (k + size a) q (λ z. h (omega (arith, z.0), omega (arith, z.1))))
    (and_none (last_at k a p))
follows-to-out (alt a b) k p q h = rw (follows-to-out a k p q (λ z. h (z.0, omega (arith, z.1))), follows-to-out b (k + size a) p q (λ z. h (omega (arith, z.0), omega (arith, z.1))))
follows-to-out (plus a) k p q h = rw (follows-to-out a k p q h, first_out a k q h) (and_none (last_at k a p))

-- a position of b behind a
behind : (k s q : ℕ) → s ≤ q → k + q ≡ k + s + (q - s)
behind k s q h = omega arith

-- inside, they are those from 0 on
pub first-in : (e : Exp) (k q : ℕ) → q < size e → first_at k e (k + q) ≡ first e q
unfolding size first_at first
first-in (one s) k q h = eqb-shift k q
first-in eps k q h = absurd (omega arith)
first-in (cat a b) k q h = go (first-in a k q) (first-in b (k + size a) (q - size a)) (ltb q (size a)) refl
  where
    go : (q < size a → first_at k a (k + q) ≡ first a q) → (q - size a < size b → first_at (k + size a) b (k + size a + (q - size a)) ≡ first b (q - size a)) → (c : Bool) → ltb q (size a) ≡ c
        → (first_at k a (k + q) || (null a && first_at (k + size a) b (k + q))) ≡ cond (ltb q (size a)) (first a q) (null a && first b (q - size a))
    go f g true e = let l : q < size a = ltb-true q (size a) e in rw (e, f l, first_out b (k + size a) (k + q) (λ z. omega (arith, z.0)), and_none (null a)) (or-none (first a q))
    go f g false e =
        let l : size a ≤ q = ltb-false q (size a) e in
        rw (e, first_out a k (k + q) (λ z. omega (arith, z.1)), behind k (size a) q l, g (omega arith))
first-in (alt a b) k q h = go (first-in a k q) (first-in b (k + size a) (q - size a)) (ltb q (size a)) refl
  where
    go : (q < size a → first_at k a (k + q) ≡ first a q) → (q - size a < size b → first_at (k + size a) b (k + size a + (q - size a)) ≡ first b (q - size a)) → (c : Bool) → ltb q (size a) ≡ c
        → (first_at k a (k + q) || first_at (k + size a) b (k + q)) ≡ cond (ltb q (size a)) (first a q) (first b (q - size a))
    go f g true e = let l : q < size a = ltb-true q (size a) e in rw (e, f l, first_out b (k + size a) (k + q) (λ z. omega (arith, z.0))) (or-none (first a q))
    go f g false e =
        let l : size a ≤ q = ltb-false q (size a) e in
        rw (e, first_out a k (k + q) (λ z. omega (arith, z.1)), behind k (size a) q l, g (omega arith))
first-in (plus a) k q h = first-in a k q h

pub last-in : (e : Exp) (k p : ℕ) → p < size e → last_at k e (k + p) ≡ last e p
unfolding size last_at last
last-in (one s) k p h = eqb-shift k p
last-in eps k p h = absurd (omega arith)
last-in (cat a b) k p h = go (last-in a k p) (last-in b (k + size a) (p - size a)) (ltb p (size a)) refl
  where
    go : (p < size a → last_at k a (k + p) ≡ last a p) → (p - size a < size b → last_at (k + size a) b (k + size a + (p - size a)) ≡ last b (p - size a)) → (c : Bool) → ltb p (size a) ≡ c
        → ((last_at k a (k + p) && null b) || last_at (k + size a) b (k + p)) ≡ cond (ltb p (size a)) (last a p && null b) (last b (p - size a))
    go f g true e = let l : p < size a = ltb-true p (size a) e in rw (e, f l, last_out b (k + size a) (k + p) (λ z. omega (arith, z.0))) (or-none (last a p && null b))
    go f g false e =
        let l : size a ≤ p = ltb-false p (size a) e in
        rw (e, last_out a k (k + p) (λ z. omega (arith, z.1)), behind k (size a) p l, g (omega arith))
last-in (alt a b) k p h = go (last-in a k p) (last-in b (k + size a) (p - size a)) (ltb p (size a)) refl
  where
    go : (p < size a → last_at k a (k + p) ≡ last a p) → (p - size a < size b → last_at (k + size a) b (k + size a + (p - size a)) ≡ last b (p - size a)) → (c : Bool) → ltb p (size a) ≡ c
        → (last_at k a (k + p) || last_at (k + size a) b (k + p)) ≡ cond (ltb p (size a)) (last a p) (last b (p - size a))
    go f g true e = let l : p < size a = ltb-true p (size a) e in rw (e, f l, last_out b (k + size a) (k + p) (λ z. omega (arith, z.0))) (or-none (last a p))
    go f g false e =
        let l : size a ≤ p = ltb-false p (size a) e in
        rw (e, last_out a k (k + p) (λ z. omega (arith, z.1)), behind k (size a) p l, g (omega arith))
last-in (plus a) k p h = last-in a k p h

keeps : (x l : Bool) → ((x || false) || (l && false)) ≡ x
keeps true l = refl
keeps false true = refl
keeps false false = refl

pub follows-in : (e : Exp) (k p q : ℕ) → p < size e → q < size e → follows_at k e (k + p) (k + q) ≡ follows e p q
unfolding size follows_at follows
follows-in (one s) k p q h i = refl
follows-in eps k p q h i = refl
follows-in (cat a b) k p q h i = go (follows-in a k p q) (follows-in b (k + size a) (p - size a) (q - size a)) (ltb p (size a)) (ltb q (size a)) refl refl
  where
    go : (p < size a → q < size a → follows_at k a (k + p) (k + q) ≡ follows a p q)
        → (p - size a < size b → q - size a < size b → follows_at (k + size a) b (k + size a + (p - size a)) (k + size a + (q - size a)) ≡ follows b (p - size a) (q - size a))
        → (c d : Bool) → ltb p (size a) ≡ c → ltb q (size a) ≡ d
        → ((follows_at k a (k + p) (k + q) || follows_at (k + size a) b (k + p) (k + q)) || (last_at k a (k + p) && first_at (k + size a) b (k + q)))
        ≡ cond (ltb p (size a)) (cond (ltb q (size a)) (follows a p q) (last a p && first b (q - size a))) (cond (ltb q (size a)) false (follows b (p - size a) (q - size a)))
    go f g true true e d =
        let l : p < size a = ltb-true p (size a) e in let m : q < size a = ltb-true q (size a) d in
        rw (e, d, f l m, follows-from-out b (k + size a) (k + p) (k + q) (λ z. omega (arith, z.0)), first_out b (k + size a) (k + q) (λ z. omega (arith, z.0)))
        (keeps (follows a p q) (last_at k a (k + p)))
    go f g true false e d =
        let l : p < size a = ltb-true p (size a) e in let m : size a ≤ q = ltb-false q (size a) d in
        rw (
          e,
          d,
          follows-to-out a k (k + p) (k + q) (λ z. omega (arith, z.1)),
          follows-from-out b (k + size a) (k + p) (k + q) (λ z. omega (arith, z.0)),
          last-in a k p l,
          behind k (size a) q m,
          first-in b (k + size a) (q - size a) (omega arith),
        )
    go f g false true e d =
        let l : size a ≤ p = ltb-false p (size a) e in let m : q < size a = ltb-true q (size a) d in
        rw (
          e,
          d,
          follows-from-out a k (k + p) (k + q) (λ z. omega (arith, z.1)),
          follows-to-out b (k + size a) (k + p) (k + q) (λ z. omega (arith, z.0)),
          last_out a k (k + p) (λ z. omega (arith, z.1)),
        )
    go f g false false e d =
        let l : size a ≤ p = ltb-false p (size a) e in let m : size a ≤ q = ltb-false q (size a) d in
        rw (
          e,
          d,
          follows-from-out a k (k + p) (k + q) (λ z. omega (arith, z.1)),
          last_out a k (k + p) (λ z. omega (arith, z.1)),
          behind k (size a) p l,
          behind k (size a) q m,
          g (omega arith) (omega arith),
        )
        (or-none (follows b (p - size a) (q - size a)))
follows-in (alt a b) k p q h i = go (follows-in a k p q) (follows-in b (k + size a) (p - size a) (q - size a)) (ltb p (size a)) (ltb q (size a)) refl refl
  where
    go : (p < size a → q < size a → follows_at k a (k + p) (k + q) ≡ follows a p q)
        → (p - size a < size b → q - size a < size b → follows_at (k + size a) b (k + size a + (p - size a)) (k + size a + (q - size a)) ≡ follows b (p - size a) (q - size a))
        → (c d : Bool) → ltb p (size a) ≡ c → ltb q (size a) ≡ d
        → (follows_at k a (k + p) (k + q) || follows_at (k + size a) b (k + p) (k + q))
        ≡ cond (ltb p (size a)) (cond (ltb q (size a)) (follows a p q) false) (cond (ltb q (size a)) false (follows b (p - size a) (q - size a)))
    go f g true true e d =
        let l : p < size a = ltb-true p (size a) e in let m : q < size a = ltb-true q (size a) d in
        rw (e, d, f l m, follows-from-out b (k + size a) (k + p) (k + q) (λ z. omega (arith, z.0))) (or-none (follows a p q))
    go f g true false e d =
        let l : p < size a = ltb-true p (size a) e in let m : size a ≤ q = ltb-false q (size a) d in
        rw (e, d, follows-to-out a k (k + p) (k + q) (λ z. omega (arith, z.1)), follows-from-out b (k + size a) (k + p) (k + q) (λ z. omega (arith, z.0)))
    go f g false true e d =
        let l : size a ≤ p = ltb-false p (size a) e in let m : q < size a = ltb-true q (size a) d in
        rw (e, d, follows-from-out a k (k + p) (k + q) (λ z. omega (arith, z.1)), follows-to-out b (k + size a) (k + p) (k + q) (λ z. omega (arith, z.0)))
    go f g false false e d =
        let l : size a ≤ p = ltb-false p (size a) e in let m : size a ≤ q = ltb-false q (size a) d in
        rw (e, d, follows-from-out a k (k + p) (k + q) (λ z. omega (arith, z.1)), behind k (size a) p l, behind k (size a) q m, g (omega arith) (omega arith))
follows-in (plus a) k p q h i = rw (follows-in a k p q h i, last-in a k p h, first-in a k q i)

-- ---- byte sets

pub letter-out : (e : Exp) (k p c : ℕ) → (Within k (size e) p → ⊥) → letter_at k e p c ≡ false
unfolding size letter_at
letter-out (one s) k p c h = ap (λ z. z && s c) (ne_eqb p k (λ z. h (omega arith, omega arith)))
letter-out eps k p c h = refl
letter-out (cat a b) k p c h = rw (letter-out a k p c (λ z. h (z.0, omega (arith, z.1))), letter-out b (k + size a) p c (λ z. h (omega (arith, z.0), omega (arith, z.1))))
letter-out (alt a b) k p c h = rw (letter-out a k p c (λ z. h (z.0, omega (arith, z.1))), letter-out b (k + size a) p c (λ z. h (omega (arith, z.0), omega (arith, z.1))))
letter-out (plus a) k p c h = letter-out a k p c h

letter-both : (a b : Exp) (k p c : ℕ) → p < size a + size b → (p < size a → letter_at k a (k + p) c ≡ letter a p c)
    → (p - size a < size b → letter_at (k + size a) b (k + size a + (p - size a)) c ≡ letter b (p - size a) c)
    → (letter_at k a (k + p) c || letter_at (k + size a) b (k + p) c) ≡ cond (ltb p (size a)) (letter a p c) (letter b (p - size a) c)
letter-both a b k p c h f g = go (ltb p (size a)) refl
  where
    go : (d : Bool) → ltb p (size a) ≡ d → (letter_at k a (k + p) c || letter_at (k + size a) b (k + p) c) ≡ cond (ltb p (size a)) (letter a p c) (letter b (p - size a) c)
    go true e = let l : p < size a = ltb-true p (size a) e in rw (e, f l, letter-out b (k + size a) (k + p) c (λ z. omega (arith, z.0))) (or-none (letter a p c))
    go false e =
        let l : size a ≤ p = ltb-false p (size a) e in
        rw (e, letter-out a k (k + p) c (λ z. omega (arith, z.1)), behind k (size a) p l, g (omega arith))

pub letter-in : (e : Exp) (k p c : ℕ) → p < size e → letter_at k e (k + p) c ≡ letter e p c
unfolding size letter_at letter
letter-in (one s) k p c h = let z : k + p ≡ k = omega arith in ap (λ d. d && s c) (eq-eqb (k + p) k z)
letter-in eps k p c h = absurd (omega arith)
letter-in (cat a b) k p c h = letter-both a b k p c h (letter-in a k p c) (letter-in b (k + size a) (p - size a) c)
letter-in (alt a b) k p c h = letter-both a b k p c h (letter-in a k p c) (letter-in b (k + size a) (p - size a) c)
letter-in (plus a) k p c h = letter-in a k p c h
