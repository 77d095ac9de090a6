-- {m,n} written out, last time first.
use Prim.Native.Nat.{ℕ, zero, suc, ◌+◌, ◌-◌, ◌*◌, ◌≤◌, ◌<◌}
use mathlib.Core.Path.{◌≡◌, refl, sym, ap, subst, ◌∙◌}
use mathlib.Core.Bool.{Bool, true, false, ◌&&◌, ◌||◌, cond}
use native.Mathlib.Omega.{arith}
use native.Mathlib.Numerals.{add-one}
use native.Mathlib.Nat.{suc-mul, mul-le-mul_right}
use lib.Dec.{ltb, eqb}
use borrow.Author.Tests.{ltb-true, ltb-false, eqb-true, eqb-false}
use Rattle.text.specs.Exp.{Exp, one, eps, cat, alt, plus, opt, times, size, null}
use Rattle.text.proofs.Copies.{size-times, null-times, size-null}
use Rattle.sets.specs.Set.{states, holds}
use Rattle.sets.proofs.Sets.{holds-empty}
use Rattle.text_walk.specs.declared.Shape.{Shape}
use Rattle.text_walk.specs.inner.Rows.{first_at, last_at, cap, Keeps, Copied, Sums, Nothing, Further}
use Rattle.text_walk.proofs.Sum.{cap-small, cap-over, sums-stay}
use Rattle.text_walk.proofs.Shift.{sum-move}
use mathlib.Core.List.{List}
use mathlib.Core.Logic.{inl, inr}

-- ---- no positions

void-first : (e : Exp) (k q : ℕ) → size e ≡ 0 → first_at k e q ≡ false
unfolding size first_at
void-first (one s) k q h = absurd (omega arith)
void-first eps k q h = refl
void-first (cat a b) k q h = rw (void-first a k q (omega arith), void-first b (k + size a) q (omega arith)) (none (null a))
  where
    none : (x : Bool) → (x && false) ≡ false
    none true = refl
    none false = refl
void-first (alt a b) k q h = rw (void-first a k q (omega arith), void-first b (k + size a) q (omega arith))
void-first (plus a) k q h = void-first a k q h

void-last : (e : Exp) (k p : ℕ) → size e ≡ 0 → last_at k e p ≡ false
unfolding size last_at
void-last (one s) k p h = absurd (omega arith)
void-last eps k p h = refl
void-last (cat a b) k p h = rw (void-last a k p (omega arith), void-last b (k + size a) p (omega arith))
void-last (alt a b) k p h = rw (void-last a k p (omega arith), void-last b (k + size a) p (omega arith))
void-last (plus a) k p h = void-last a k p h

pub sum-void : (R : List ℕ) (k : ℕ) (e : Exp) (r : Shape) → size e ≡ 0 → Nothing r → Sums R k e r
sum-void R k e r h (s, n, f, l) = record {
  sized = s ∙ sym (ap cap h ∙ cap-small 0 (omega arith));
  nulls = n ∙ sym (size-null e h);
  known = λ _. record {
    firsts = λ q. ap (λ z. holds z q) f ∙ holds-empty q ∙ sym (void-first e k q h);
    lasts = λ q. ap (λ z. holds z q) l ∙ holds-empty q ∙ sym (void-last e k q h);
    priors = λ t a b q. absurd (omega arith);
    letters = λ t a b c o. absurd (omega arith);
  };
}

-- ---- counts of copies

pub cap-exact : (n : ℕ) → cap n < states → n ≡ cap n
cap-exact n h = go (ltb states n) refl
  where
    go : (b : Bool) → ltb states n ≡ b → n ≡ cap n
    go true e = let k : states < n = ltb-true states n e in let z : cap n ≡ states = cap-over n (omega arith) in absurd (omega arith)
    go false e = sym (cap-small n (ltb-false states n e))

zero-product : (m s : ℕ) → m * s ≡ 0 → (m ≡ 0 → ⊥) → s ≡ 0
zero-product zero s h k = absurd (k refl)
zero-product (suc m) s h k = let z : suc m * s ≡ m * s + s = suc-mul m s in omega arith

times_zero : (m : ℕ) → m * 0 ≡ 0
times_zero m = omega arith

none-copied : (m s : ℕ) → m * cap s ≡ 0 → m * s ≡ 0
none-copied m s h = go (eqb m 0) refl
  where
    go : (b : Bool) → eqb m 0 ≡ b → m * s ≡ 0
    go true e = let z : m ≡ 0 = eqb-true m 0 e in rw z (omega arith)
    go false e =
        let c : cap s ≡ 0 = zero-product m (cap s) h (eqb-false m 0 e) in
        let d : s ≡ cap s = cap-exact s (omega arith) in
        let f : s ≡ 0 = d ∙ c in rw f (times_zero m)

cap-copies : (m s : ℕ) → cap (m * cap s) ≡ cap (m * s)
cap-copies zero s = ap cap (omega arith)
cap-copies (suc m) s = go (ltb states s) refl
  where
    go : (b : Bool) → ltb states s ≡ b → cap (suc m * cap s) ≡ cap (suc m * s)
    go true e =
        let k : states < s = ltb-true states s e in
        let z : cap s ≡ states = cap-over s (omega arith) in
        let a : suc m * cap s ≡ m * cap s + cap s = suc-mul m (cap s) in
        let b : suc m * s ≡ m * s + s = suc-mul m s in
        cap-over (suc m * cap s) (omega arith) ∙ sym (cap-over (suc m * s) (omega arith))
    go false e = ap (λ z. cap (suc m * z)) (cap-small s (ltb-false states s e))

-- nothing is written out
pub sum-none : (A R : List ℕ) (k m n : ℕ) (e : Exp) (x r : Shape) → Sums A k e x → n * x.size ≡ 0 → Nothing r → Sums R k (times e m n) r
sum-none A R k m n e x r s h w = sum-void R k (times e m n) r (size-times e m n ∙ none-copied n (size e) (ap (λ c. n * c) (sym s.sized) ∙ h)) w

-- too much is written out
pub sum-lost : (A R : List ℕ) (k m n : ℕ) (e : Exp) (x r : Shape) → Sums A k e x → m ≤ n → states < k + n * x.size → 1 ≤ k → k ≤ states → r.size ≡ cap (n * x.size) → r.null ≡ (eqb m 0 || x.null) → Sums R k (times e m n) r
sum-lost A R k m n e x r s g h i j z u = record {
  sized = z ∙ ap (λ c. cap (n * c)) s.sized ∙ cap-copies n (size e) ∙ sym (ap cap (size-times e m n));
  nulls = u ∙ ap (λ b. eqb m 0 || b) s.nulls ∙ sym (null-times e m n g);
  known = λ o. absurd (no (subst (λ c. k + c ≤ states) (size-times e m n) o));
}
  where
    no : k + n * size e ≤ states → ⊥
    no o =
        let a : n * size e ≤ states = omega arith in
        let b : cap (n * size e) ≡ n * size e = cap-small (n * size e) a in
        let c : cap (n * x.size) ≡ n * size e = ap (λ c. cap (n * c)) s.sized ∙ cap-copies n (size e) ∙ b in
        let d : cap (n * x.size) < states = omega arith in
        let f : n * x.size ≡ cap (n * x.size) = cap-exact (n * x.size) d in
        omega arith

-- ---- one time more

pub times-step : (e : Exp) (m n i : ℕ) → i < n → times e (m - i) (n - i) ≡ cond (ltb i m) (cat e (times e (m - (i + 1)) (n - (i + 1)))) (opt (cat e (times e (m - (i + 1)) (n - (i + 1)))))
times-step e m n i h = go (ltb i m) refl
  where
    a : n - i ≡ suc (n - (i + 1))
    a = omega arith

    go : (b : Bool) → ltb i m ≡ b → times e (m - i) (n - i) ≡ cond b (cat e (times e (m - (i + 1)) (n - (i + 1)))) (opt (cat e (times e (m - (i + 1)) (n - (i + 1)))))
    go true q =
        let l : i < m = ltb-true i m q in
        let b : m - i ≡ suc (m - (i + 1)) = omega arith in
        rw (a, b) (more (m - (i + 1)) (n - (i + 1)))
      where
        more : (m n : ℕ) → times e (suc m) (suc n) ≡ cat e (times e m n)
        more m n = unfold times in refl
    go false q =
        let l : m ≤ i = ltb-false i m q in
        let b : m - i ≡ 0 = omega arith in
        let d : m - (i + 1) ≡ 0 = omega arith in
        rw (a, b, d) (less (n - (i + 1)))
      where
        less : (n : ℕ) → times e 0 (suc n) ≡ opt (cat e (times e 0 n))
        less n = unfold times in refl

pub step-base : (k i s : ℕ) → k + i * s + s ≡ k + (i + 1) * s
step-base k i s = let a : suc i * s ≡ i * s + s = suc-mul i s in rw add-one (omega arith)

pub product-most : (i n s : ℕ) → i ≤ n → i * s ≤ n * s
product-most i n s h = mul-le-mul_right s h

-- the size of the first time is exact where all fit
pub size_exact : (R : List ℕ) (k n : ℕ) (e : Exp) (x : Shape) → Sums R k e x → 1 ≤ k → 1 ≤ n → k + n * x.size ≤ states → x.size ≡ size e
size_exact R k n e x s g h j =
    let a : 1 * x.size ≤ n * x.size = mul-le-mul_right x.size h in
    s.sized ∙ sym (cap-exact (size e) (subst (λ z. z < states) s.sized (omega arith)))

-- all times: the loop's invariant, at the start and after a turn
pub copies-none : (R : List ℕ) (k n m : ℕ) (e : Exp) (r : Shape) → Nothing r → Sums R k (times e (m - n) (n - n)) r
copies-none R k n m e r w = sum-void R k (times e (m - n) (n - n)) r (size-times e (m - n) (n - n) ∙ rw (same n) (omega arith)) w
  where
    same : (n : ℕ) → n - n ≡ 0
    same n = omega arith

-- one time more in front of the rest
abbrev pub Fronts : List ℕ → List ℕ → Bool → ℕ → Shape → Shape → Shape → Type 0
Fronts A B must low u z r =
    (k : ℕ) (e t : Exp) → Sums A k e u → Sums A low t z → (k + size e ≤ states → low ≡ k + size e) → Sums B k (cond must (cat e t) (opt (cat e t))) r

module _ (A : List ℕ) (k m n : ℕ) (e : Exp) (x : Shape) (s : Sums A k e x) (one_on : 1 ≤ k) (some : 1 ≤ n) (all : k + n * x.size ≤ states) where
  exact : x.size ≡ size e
  exact = size_exact A k n e x s one_on some all

  -- the first time's own rows stay
  still : (R : List ℕ) → Keeps (k + x.size) A R → Sums R k e x
  still R h = sums-stay A R k e x (λ t a b. h.below t (omega (arith, exact))) s

  pub copies-more : (R S U : List ℕ) (i : ℕ) (y z r : Shape) → i < n → Keeps (k + x.size) A R → Copied k x.size (i * x.size) R S → Further (i * x.size) x y
      → Fronts S U (ltb i m) (k + i * x.size + x.size) y z r → Sums R (k + (i + 1) * x.size) (times e (m - (i + 1)) (n - (i + 1))) z → Sums U (k + i * x.size) (times e (m - i) (n - i)) r
  copies-more R S U i y z r h keep c f w o =
      let p : (i + 1) * x.size ≤ n * x.size = product-most (i + 1) n x.size (omega arith) in
      let q : k + i * x.size + x.size ≡ k + (i + 1) * x.size = step-base k i x.size in
      let a : Sums S (k + i * x.size) e y = sum-move R S k (i * x.size) e x y (omega (arith, exact)) exact (still R keep) c f in
      let b : Sums S (k + (i + 1) * x.size) (times e (m - (i + 1)) (n - (i + 1))) z = sums-stay R S (k + (i + 1) * x.size) (times e (m - (i + 1)) (n - (i + 1))) z (λ t g _. c.outside t (inr (omega arith))) o in
      subst (λ u. Sums U (k + i * x.size) u r) (sym (times-step e m n i h))
      (w (k + i * x.size) e (times e (m - (i + 1)) (n - (i + 1))) a (subst (λ j. Sums S j (times e (m - (i + 1)) (n - (i + 1))) z) (sym q) b) (λ _. ap (λ j. k + i * x.size + j) exact))

  pub copies-last : (R U : List ℕ) (z r : Shape) → Keeps (k + x.size) A R → Fronts R U (ltb 0 m) (k + x.size) x z r
      → Sums R (k + 1 * x.size) (times e (m - 1) (n - 1)) z → Sums U k (times e m n) r
  copies-last R U z r keep w o =
      let q : k + 1 * x.size ≡ k + x.size = omega arith in
      let m0 : m - 0 ≡ m = omega arith in
      let n0 : n - 0 ≡ n = omega arith in
      subst (λ u. Sums U k (times e u n) r) m0 (subst (λ u. Sums U k (times e (m - 0) u) r) n0 (subst (λ u. Sums U k u r) (sym (times-step e m n 0 some))
      (w k e (times e (m - 1) (n - 1)) (still R keep) (subst (λ j. Sums R j (times e (m - 1) (n - 1)) z) q o) (λ _. ap (λ j. k + j) exact))))

pub cap-low : (n : ℕ) → 1 ≤ n → 1 ≤ cap n
cap-low n h = go (ltb states n) refl
  where
    go : (b : Bool) → ltb states n ≡ b → 1 ≤ cap n
    go true e = let k : states < n = ltb-true states n e in let z : cap n ≡ states = cap-over n (omega arith) in omega arith
    go false e = let z : cap n ≡ n = cap-small n (ltb-false states n e) in omega arith

pub some-copies : (n s : ℕ) → (n * s ≡ 0 → ⊥) → 1 ≤ n
some-copies zero s h = absurd (h (omega arith))
some-copies (suc n) s h = omega arith

-- a turn's rows are states, and its time stands behind the first
pub turn-fits : (i n s : ℕ) → 1 < i → i ≤ n → (i - 1) * s + s ≤ n * s
turn-fits i n s h l = let a : (i - 1 + 1) * s ≤ n * s = product-most (i - 1 + 1) n s (omega arith) in let b : 0 + (i - 1) * s + s ≡ 0 + (i - 1 + 1) * s = step-base 0 (i - 1) s in omega arith

pub turn-far : (i s : ℕ) → 1 < i → s ≤ (i - 1) * s
turn-far i s h = let a : 1 * s ≤ (i - 1) * s = product-most 1 (i - 1) s (omega arith) in omega arith

pub copied-keeps : (k n d j : ℕ) (A B : List ℕ) → j ≤ k + d → Copied k n d A B → Keeps j A B
copied-keeps k n d j A B h c = record { long = c.long; below = λ t l. c.outside t (inl (omega arith)) }
