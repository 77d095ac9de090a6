-- {m,n} without writing it out: what the code computes.
use Prim.Native.Nat.{ℕ, zero, suc, ◌+◌, ◌-◌, ◌*◌, ◌≤◌, ◌<◌}
use mathlib.Core.Path.{◌≡◌, refl, sym, ap, ◌∙◌}
use mathlib.Core.Bool.{Bool, true, false, ◌&&◌, ◌||◌, cond}
use native.Mathlib.Omega.{arith}
use native.Mathlib.Nat.{suc-mul, zero-mul, mul-le-mul_right}
use lib.Dec.{leb, ltb, eqb, leb-zero, leb-suc-zero, leb-suc-suc, eqb-suc-zero, eqb-suc-suc}
use borrow.Author.Tests.{ne_eqb, lt-ltb, le-ltb}
use Rattle.text.specs.Exp.{Exp, one, eps, cat, alt, plus, opt, times, size, null, first, last, follows}

pub size-times : (e : Exp) (m n : ℕ) → size (times e m n) ≡ n * size e
unfolding size times
size-times e m zero = sym (zero-mul (size e))
size-times e zero (suc n) = ap (λ z. size e + z + 0) (size-times e zero n) ∙ (let k : suc n * size e ≡ n * size e + size e = suc-mul n (size e) in omega arith)
size-times e (suc m) (suc n) = ap (λ z. size e + z) (size-times e m n) ∙ (let k : suc n * size e ≡ n * size e + size e = suc-mul n (size e) in omega arith)

-- m ≤ n
pub null-times : (e : Exp) (m n : ℕ) → m ≤ n → null (times e m n) ≡ (eqb m 0 || null e)
unfolding null times
null-times e zero zero h = refl
null-times e (suc m) zero h = absurd (omega arith)
null-times e zero (suc n) h = or-true (null e && null (times e zero n))
  where
    or-true : (a : Bool) → (a || true) ≡ true
    or-true true = refl
    or-true false = refl
null-times e (suc m) (suc n) h = ap (λ z. null e && z) (null-times e m n (omega arith)) ∙ go (null e) (eqb m 0) ∙ ap (λ z. z || null e) (sym (ne_eqb (suc m) 0 (λ q. omega arith)))
  where
    go : (a b : Bool) → (a && (b || a)) ≡ (false || a)
    go true true = refl
    go true false = refl
    go false b = refl

in-copies : (s i n p : ℕ) → i < n → p < s → i * s + p < n * s
in-copies s i n p h l =
    let a : suc i * s ≡ i * s + s = suc-mul i s in
    let b : suc i * s ≤ n * s = mul-le-mul_right s h in
    omega arith

skipped : (a b c : Bool) → (a && ((b || a) && c)) ≡ ((false || a) && c)
skipped true true c = refl
skipped true false c = refl
skipped false b c = refl

-- position p of copy i
pub first-times : (e : Exp) (m n i p : ℕ) → i < n → p < size e → first (times e m n) (i * size e + p) ≡ ((eqb i 0 || null e) && first e p)
unfolding times first size
first-times e m zero i p h l = absurd (omega arith)
first-times e zero (suc n) zero p h l =
    let k : 0 * size e + p ≡ p = omega arith in
    rw (k, lt-ltb p (size e + size (times e 0 n)) (omega arith), lt-ltb p (size e) l)
first-times e (suc m) (suc n) zero p h l =
    let k : 0 * size e + p ≡ p = omega arith in
    rw (k, lt-ltb p (size e) l)
first-times e zero (suc n) (suc i) p h l =
    let x : ℕ = i * size e + p in
    let k : suc i * size e + p ≡ size e + x = omega (arith, suc-mul i (size e)) in
    let j : size e + x - size e ≡ x = omega arith in
    let b : x < n * size e = in-copies (size e) i n p (omega arith) l in
    rw (
      k,
      lt-ltb (size e + x) (size e + size (times e 0 n)) (omega (arith, size-times e 0 n, b)),
      le-ltb (size e + x) (size e) (omega arith),
      j,
      first-times e zero n i p (omega arith) l,
      ne_eqb (suc i) 0 (λ q. omega arith),
    )
    (skipped (null e) (eqb i 0) (first e p))
first-times e (suc m) (suc n) (suc i) p h l =
    let x : ℕ = i * size e + p in
    let k : suc i * size e + p ≡ size e + x = omega (arith, suc-mul i (size e)) in
    let j : size e + x - size e ≡ x = omega arith in
    rw (k, le-ltb (size e + x) (size e) (omega arith), j, first-times e m n i p (omega arith) l, ne_eqb (suc i) 0 (λ q. omega arith))
    (skipped (null e) (eqb i 0) (first e p))

-- ---- last and follows

opt-last : (x : Exp) (q : ℕ) → q < size x → last (opt x) q ≡ last x q
unfolding last size
opt-last x q h = rw (lt-ltb q (size x) h)

opt-follows : (x : Exp) (p q : ℕ) → p < size x → q < size x → follows (opt x) p q ≡ follows x p q
unfolding follows size
opt-follows x p q h l = rw (lt-ltb p (size x) h, lt-ltb q (size x) l)

here : (s p : ℕ) → 0 * s + p ≡ p
here s p = omega arith

there : (s i p : ℕ) → suc i * s + p ≡ s + (i * s + p)
there s i p = omega (arith, suc-mul i s)

last-here : (e t : Exp) (p : ℕ) → p < size e → last (cat e t) (0 * size e + p) ≡ (last e p && null t)
unfolding last
last-here e t p l = rw (here (size e) p, lt-ltb p (size e) l)

last-there : (e t : Exp) (i p : ℕ) → last (cat e t) (suc i * size e + p) ≡ last t (i * size e + p)
unfolding last
last-there e t i p =
    let x : ℕ = i * size e + p in
    let j : size e + x - size e ≡ x = omega arith in
    rw (there (size e) i p, le-ltb (size e + x) (size e) (omega arith), j)

one_more : (m : ℕ) → leb (suc m) 1 ≡ eqb m 0
one_more zero = refl
one_more (suc m) = leb-suc-suc (suc m) 0 ∙ leb-suc-zero m ∙ sym (eqb-suc-zero m)

in_size : (e : Exp) (n i p : ℕ) → i < suc n → p < size e → i * size e + p < size (cat e (times e 0 n))
unfolding size
in_size e n i p h l = omega (arith, in-copies (size e) i (suc n) p h l, size-times e 0 n, suc-mul n (size e))

pub last-times : (e : Exp) (m n i p : ℕ) → m ≤ n → i < n → p < size e → last (times e m n) (i * size e + p) ≡ (last e p && (leb m (suc i) || null e))
unfolding times
last-times e m zero i p g h l = absurd (omega arith)
last-times e zero (suc n) zero p g h l =
    opt-last (cat e (times e 0 n)) (0 * size e + p) (in_size e n 0 p h l) ∙ last-here e (times e 0 n) p l ∙ ap (λ z. last e p && z) (null-times e 0 n (omega arith))
last-times e zero (suc n) (suc i) p g h l =
    opt-last (cat e (times e 0 n)) (suc i * size e + p) (in_size e n (suc i) p h l) ∙ last-there e (times e 0 n) i p ∙ last-times e 0 n i p (omega arith) (omega arith) l
    ∙ ap (λ z. last e p && (z || null e)) (leb-zero (suc i) ∙ sym (leb-zero (suc (suc i))))
last-times e (suc m) (suc n) zero p g h l =
    last-here e (times e m n) p l ∙ ap (λ z. last e p && z) (null-times e m n (omega arith)) ∙ ap (λ z. last e p && (z || null e)) (sym (one_more m))
last-times e (suc m) (suc n) (suc i) p g h l =
    last-there e (times e m n) i p ∙ last-times e m n i p (omega arith) (omega arith) l ∙ ap (λ z. last e p && (z || null e)) (sym (leb-suc-suc m (suc i)))

-- copy i before copy j: the next one, or any later one over copies that may be empty
abbrev pub between : Exp → ℕ → ℕ → ℕ → ℕ → Bool
between e i j p q = cond (eqb i j) (follows e p q) (cond (ltb i j) (last e p && ((eqb j (suc i) || null e) && first e q)) false)

cat-follows : (e t : Exp) (n i j p q : ℕ) → i < suc n → j < suc n → p < size e → q < size e
    → ((j : ℕ) → j < n → first t (j * size e + q) ≡ ((eqb j 0 || null e) && first e q))
    → ((i j : ℕ) → i < n → j < n → follows t (i * size e + p) (j * size e + q) ≡ between e i j p q)
    → follows (cat e t) (i * size e + p) (j * size e + q) ≡ between e i j p q
unfolding follows
cat-follows e t n zero zero p q h k l m f g = rw (here (size e) p, here (size e) q, lt-ltb p (size e) l, lt-ltb q (size e) m)
cat-follows e t n zero (suc j) p q h k l m f g =
    let y : ℕ = j * size e + q in
    let u : size e + y - size e ≡ y = omega arith in
    rw (
      here (size e) p,
      there (size e) j q,
      lt-ltb p (size e) l,
      le-ltb (size e + y) (size e) (omega arith),
      u,
      f j (omega arith),
      ne_eqb 0 (suc j) (λ z. omega arith),
      lt-ltb 0 (suc j) (omega arith),
      eqb-suc-suc j 0,
    )
cat-follows e t n (suc i) zero p q h k l m f g =
    let x : ℕ = i * size e + p in
    rw (
      there (size e) i p,
      here (size e) q,
      le-ltb (size e + x) (size e) (omega arith),
      lt-ltb q (size e) m,
      ne_eqb (suc i) 0 (λ z. omega arith),
      le-ltb (suc i) 0 (omega arith),
    )
cat-follows e t n (suc i) (suc j) p q h k l m f g =
    let x : ℕ = i * size e + p in
    let y : ℕ = j * size e + q in
    let u : size e + x - size e ≡ x = omega arith in
    let v : size e + y - size e ≡ y = omega arith in
    rw (
      there (size e) i p,
      there (size e) j q,
      le-ltb (size e + x) (size e) (omega arith),
      le-ltb (size e + y) (size e) (omega arith),
      u,
      v,
      g i j (omega arith) (omega arith),
      eqb-suc-suc i j,
      eqb-suc-suc j (suc i),
      leb-suc-suc (suc i) j,
    )

pub follows-times : (e : Exp) (m n i j p q : ℕ) → i < n → j < n → p < size e → q < size e
    → follows (times e m n) (i * size e + p) (j * size e + q) ≡ between e i j p q
unfolding times
follows-times e m zero i j p q h k l g = absurd (omega arith)
follows-times e zero (suc n) i j p q h k l g =
    opt-follows (cat e (times e 0 n)) (i * size e + p) (j * size e + q) (in_size e n i p h l) (in_size e n j q k g)
    ∙ cat-follows e (times e 0 n) n i j p q h k l g (λ j r. first-times e 0 n j q r g) (λ i j r s. follows-times e 0 n i j p q r s l g)
follows-times e (suc m) (suc n) i j p q h k l g =
    cat-follows e (times e m n) n i j p q h k l g (λ j r. first-times e m n j q r g) (λ i j r s. follows-times e m n i j p q r s l g)

-- no positions: only the empty string
pub size-null : (e : Exp) → size e ≡ 0 → null e ≡ true
unfolding size null
size-null (one s) h = absurd (omega arith)
size-null eps h = refl
size-null (cat a b) h = rw (size-null a (omega arith), size-null b (omega arith))
size-null (alt a b) h = rw (size-null a (omega arith))
size-null (plus a) h = size-null a h
