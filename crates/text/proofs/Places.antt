-- Positions against the language: what may come first, after a position, last.
use Prim.Native.Nat.{ℕ, ◌+◌, ◌-◌, ◌≤◌, ◌<◌}
use mathlib.Core.Path.{◌≡◌, refl, sym, ap, subst, ◌∙◌}
use mathlib.Core.Bool.{Bool, true, false, ◌&&◌, ◌||◌, cond, false≢true}
use mathlib.Core.List.{List, [], ◌∷◌}
use mathlib.Core.Logic.{⊎_elim, ◌⊎◌, inl, inr}
use native.Mathlib.Omega.{arith}
use native.Mathlib.Decide.{dec_lt}
use lib.Dec.{ltb}
use borrow.Author.Tests.{eqb-true, eq-eqb, lt-ltb, le-ltb}
use Rattle.text.specs.Exp.{Exp, one, eps, cat, alt, plus, In, Then, Many, size, null, first, last, letter, follows}
use Rattle.text.specs.inner.Heads.{head_of}
use Rattle.text.proofs.Words.{then-nil, then-cons, then-here, then-step, many-cons, many-nil, many_more, nil-cons, cons-nil, tail_of}

-- what may come after position p, to the end
abbrev pub Rest : Exp → ℕ → List ℕ → Type 0
Rest (one s) p w = (p ≡ 0) × (w ≡ [])
Rest eps p w = ⊥
Rest (cat a b) p w = ((p < size a) × Then (Rest a p) (In b) w) ⊎ ((size a ≤ p) × Rest b (p - size a) w)
Rest (alt a b) p w = ((p < size a) × Rest a p w) ⊎ ((size a ≤ p) × Rest b (p - size a) w)
Rest (plus a) p w = Then (Rest a p) (Many (In a)) w

pub both : (a b : Bool) → (a && b) ≡ true → (a ≡ true) × (b ≡ true)
both true b e = (refl, e)
both false b e = absurd (false≢true e)

pub and-true : (a b : Bool) → a ≡ true → b ≡ true → (a && b) ≡ true
and-true a b p q = rw (p, q)

pub or-either : (a b : Bool) → (a || b) ≡ true → (a ≡ true) ⊎ (b ≡ true)
or-either true b e = inl refl
or-either false b e = inr e

pub or_left : (a b : Bool) → a ≡ true → (a || b) ≡ true
or_left a b p = rw p

pub or_right : (a b : Bool) → b ≡ true → (a || b) ≡ true
or_right true b p = refl
or_right false b p = p

pub in-nil : (e : Exp) → In e [] → null e ≡ true
unfolding null
in-nil (one s) i = absurd (nil-cons i.1)
in-nil eps i = refl
in-nil (cat a b) i = let r = then-nil (In a) (In b) i in and-true (null a) (null b) (in-nil a r.0) (in-nil b r.1)
in-nil (alt a b) (inl i) = or_left (null a) (null b) (in-nil a i)
in-nil (alt a b) (inr i) = or_right (null a) (null b) (in-nil b i)
in-nil (plus a) i = in-nil a (then-nil (In a) (Many (In a)) i).0

pub nil-in : (e : Exp) → null e ≡ true → In e []
unfolding null
nil-in (one s) h = absurd (false≢true h)
nil-in eps h = refl
nil-in (cat a b) h = let r = both (null a) (null b) h in then-here (In a) (In b) [] (nil-in a r.0) (nil-in b r.1)
nil-in (alt a b) h = ⊎_elim (λ x. inl (nil-in a x)) (λ x. inr (nil-in b x)) (or-either (null a) (null b) h)
nil-in (plus a) h = then-here (In a) (Many (In a)) [] (nil-in a h) (many-nil (In a))

-- ---- the two halves of the positions

shift : (n p : ℕ) → n + p - n ≡ p
shift n p = omega arith

pub left_at : (n p : ℕ) (x y : Bool) → p < n → cond (ltb p n) x y ≡ x
left_at n p x y h = rw (lt-ltb p n h)

pub right_at : (n p : ℕ) (x y : Bool) → n ≤ p → cond (ltb p n) x y ≡ y
right_at n p x y h = rw (le-ltb p n h)

pub over_at : (n p : ℕ) (x : Bool) (f : ℕ → Bool) → cond (ltb (n + p) n) x (f (n + p - n)) ≡ f p
over_at n p x f = right_at n (n + p) x (f (n + p - n)) (omega arith) ∙ ap f (shift n p)

-- a position that passes f and reads c, with w after it
abbrev pub Goes : Exp → (ℕ → Bool) → ℕ → List ℕ → Type 0
Goes e f c w = (p : ℕ) × (p < size e) × (f p ≡ true) × (letter e p c ≡ true) × Rest e p w

cat-right : (a b : Exp) (f g : ℕ → Bool) (c : ℕ) (w : List ℕ)
    → ((q : ℕ) → q < size b → g q ≡ true → f (size a + q) ≡ true) → Goes b g c w → Goes (cat a b) f c w
unfolding size letter
cat-right a b f g c w h (p, l, t, r, k) = (
  size a + p,
  omega (arith, l),
  h p l t,
  over_at (size a) p (letter a (size a + p) c) (λ q. letter b q c) ∙ r,
  inr (omega arith, subst (λ q. Rest b q w) (sym (shift (size a) p)) k),
)

alt-right : (a b : Exp) (f g : ℕ → Bool) (c : ℕ) (w : List ℕ)
    → ((q : ℕ) → q < size b → g q ≡ true → f (size a + q) ≡ true) → Goes b g c w → Goes (alt a b) f c w
unfolding size letter
alt-right a b f g c w h (p, l, t, r, k) = (
  size a + p,
  omega (arith, l),
  h p l t,
  over_at (size a) p (letter a (size a + p) c) (λ q. letter b q c) ∙ r,
  inr (omega arith, subst (λ q. Rest b q w) (sym (shift (size a) p)) k),
)

cat-left : (a b : Exp) (f g : ℕ → Bool) (c : ℕ) (w : List ℕ)
    → ((q : ℕ) → q < size a → g q ≡ true → f q ≡ true) → Then (Goes a g c) (In b) w → Goes (cat a b) f c w
unfolding size letter
cat-left a b f g c w h (u, v, e, (p, l, t, r, k), i) =
    (p, omega (arith, l), h p l t, left_at (size a) p (letter a p c) (letter b (p - size a) c) l ∙ r, inl (l, (u, v, e, k, i)))

alt-left : (a b : Exp) (f g : ℕ → Bool) (c : ℕ) (w : List ℕ)
    → ((q : ℕ) → q < size a → g q ≡ true → f q ≡ true) → Goes a g c w → Goes (alt a b) f c w
unfolding size letter
alt-left a b f g c w h (p, l, t, r, k) =
    (p, omega (arith, l), h p l t, left_at (size a) p (letter a p c) (letter b (p - size a) c) l ∙ r, inl (l, k))

plus-in : (a : Exp) (f g : ℕ → Bool) (c : ℕ) (w : List ℕ)
    → ((q : ℕ) → q < size a → g q ≡ true → f q ≡ true) → Then (Goes a g c) (Many (In a)) w → Goes (plus a) f c w
unfolding size letter
plus-in a f g c w h (u, v, e, (p, l, t, r, k), i) = (p, l, h p l t, r, (u, v, e, k, i))

then_map : (P R Q : List ℕ → Type 0) (w : List ℕ) → ((u : List ℕ) → P u → R u) → Then P Q w → Then R Q w
then_map P R Q w f (u, v, e, p, q) = (u, v, e, f u p, q)

-- ---- a word that is not empty begins with a first position

pub in-cons : (e : Exp) (c : ℕ) (w : List ℕ) → In e (c ∷ w) → Goes e (first e) c w
unfolding size letter first
in-cons (one s) c w (d, e, h) =
    (0, omega arith, refl, subst (λ x. s x ≡ true) (sym (ap (head_of 0) e)) h, (refl, ap tail_of e))
in-cons eps c w i = absurd (cons-nil i)
in-cons (cat a b) c w i =
    ⊎_elim
    (λ x. cat-right a b (first (cat a b)) (first b) c w
    (λ q l h. over_at (size a) q (first a (size a + q)) (λ q. null a && first b q) ∙ and-true (null a) (first b q) (in-nil a x.0) h)
    (in-cons b c w x.1))
    (λ x. cat-left a b (first (cat a b)) (first a) c w
    (λ q l h. left_at (size a) q (first a q) (null a && first b (q - size a)) l ∙ h)
    (then_map (λ u. In a (c ∷ u)) (Goes a (first a) c) (In b) w (in-cons a c) x))
    (then-cons (In a) (In b) c w i)
in-cons (alt a b) c w (inl i) =
    alt-left a b (first (alt a b)) (first a) c w (λ q l h. left_at (size a) q (first a q) (first b (q - size a)) l ∙ h) (in-cons a c w i)
in-cons (alt a b) c w (inr i) =
    alt-right a b (first (alt a b)) (first b) c w (λ q l h. over_at (size a) q (first a (size a + q)) (first b) ∙ h) (in-cons b c w i)
in-cons (plus a) c w i =
    ⊎_elim
    (λ x. plus-in a (first a) (first a) c w (λ q l h. h)
    (then_map (λ u. In a (c ∷ u)) (Goes a (first a) c) (Many (In a)) w (in-cons a c) (many-cons (In a) x.1.0 c w x.1.1)))
    (λ x. plus-in a (first a) (first a) c w (λ q l h. h)
    (then_map (λ u. In a (c ∷ u)) (Goes a (first a) c) (Many (In a)) w (in-cons a c) x))
    (then-cons (In a) (Many (In a)) c w i)

-- ---- after a position: the end, or a following position

pub rest-nil : (e : Exp) (p : ℕ) → Rest e p [] → last e p ≡ true
unfolding last
rest-nil (one s) p i = eq-eqb p 0 i.0
rest-nil eps p i = absurd i
rest-nil (cat a b) p (inl (l, t)) =
    let r = then-nil (Rest a p) (In b) t in
    left_at (size a) p (last a p && null b) (last b (p - size a)) l ∙ and-true (last a p) (null b) (rest-nil a p r.0) (in-nil b r.1)
rest-nil (cat a b) p (inr (g, r)) = right_at (size a) p (last a p && null b) (last b (p - size a)) g ∙ rest-nil b (p - size a) r
rest-nil (alt a b) p (inl (l, r)) = left_at (size a) p (last a p) (last b (p - size a)) l ∙ rest-nil a p r
rest-nil (alt a b) p (inr (g, r)) = right_at (size a) p (last a p) (last b (p - size a)) g ∙ rest-nil b (p - size a) r
rest-nil (plus a) p t = rest-nil a p (then-nil (Rest a p) (Many (In a)) t).0

pub nil-rest : (e : Exp) (p : ℕ) → last e p ≡ true → Rest e p []
unfolding last
nil-rest (one s) p h = (eqb-true p 0 h, refl)
nil-rest eps p h = absurd (false≢true h)
nil-rest (cat a b) p h =
    elim (dec_lt p (size a)) [
      | yes l ↦
          let r = both (last a p) (null b) (sym (left_at (size a) p (last a p && null b) (last b (p - size a)) l) ∙ h) in
          inl (l, then-here (Rest a p) (In b) [] (nil-rest a p r.0) (nil-in b r.1))
      | no g ↦
          let k : size a ≤ p = omega arith in
          inr (k, nil-rest b (p - size a) (sym (right_at (size a) p (last a p && null b) (last b (p - size a)) k) ∙ h))
    ]
nil-rest (alt a b) p h =
    elim (dec_lt p (size a)) [
      | yes l ↦ inl (l, nil-rest a p (sym (left_at (size a) p (last a p) (last b (p - size a)) l) ∙ h))
      | no g ↦
          let k : size a ≤ p = omega arith in
          inr (k, nil-rest b (p - size a) (sym (right_at (size a) p (last a p) (last b (p - size a)) k) ∙ h))
    ]
nil-rest (plus a) p h = then-here (Rest a p) (Many (In a)) [] (nil-rest a p h) (many-nil (In a))

-- both positions in the left half, one in each, both in the right half
same_left : (n p q : ℕ) (x y z k : Bool) → p < n → q < n → cond (ltb p n) (cond (ltb q n) x y) (cond (ltb q n) z k) ≡ x
same_left n p q x y z k h l = rw (lt-ltb p n h, lt-ltb q n l)

across : (n p q : ℕ) (x y z k : Bool) → p < n → n ≤ q → cond (ltb p n) (cond (ltb q n) x y) (cond (ltb q n) z k) ≡ y
across n p q x y z k h l = rw (lt-ltb p n h, le-ltb q n l)

backward : (n p q : ℕ) (x y z k : Bool) → n ≤ p → q < n → cond (ltb p n) (cond (ltb q n) x y) (cond (ltb q n) z k) ≡ z
backward n p q x y z k h l = rw (le-ltb p n h, lt-ltb q n l)

same_right : (n p q : ℕ) (x y z k : Bool) → n ≤ p → n ≤ q → cond (ltb p n) (cond (ltb q n) x y) (cond (ltb q n) z k) ≡ k
same_right n p q x y z k h l = rw (le-ltb p n h, le-ltb q n l)

pub rest-cons : (e : Exp) (p c : ℕ) (w : List ℕ) → Rest e p (c ∷ w) → Goes e (follows e p) c w
unfolding size letter follows
rest-cons (one s) p c w i = absurd (cons-nil i.1)
rest-cons eps p c w i = absurd i
rest-cons (cat a b) p c w (inl (l, t)) =
    ⊎_elim
    (λ x. cat-right a b (follows (cat a b) p) (first b) c w
    (λ q m h.
    across (size a) p (size a + q) (follows a p (size a + q)) (last a p && first b (size a + q - size a)) false
    (follows b (p - size a) (size a + q - size a)) l (omega arith)
    ∙ and-true (last a p) (first b (size a + q - size a)) (rest-nil a p x.0) (ap (first b) (shift (size a) q) ∙ h))
    (in-cons b c w x.1))
    (λ x. cat-left a b (follows (cat a b) p) (follows a p) c w
    (λ q m h.
    same_left (size a) p q (follows a p q) (last a p && first b (q - size a)) false (follows b (p - size a) (q - size a)) l m ∙ h)
    (then_map (λ u. Rest a p (c ∷ u)) (Goes a (follows a p) c) (In b) w (rest-cons a p c) x))
    (then-cons (Rest a p) (In b) c w t)
rest-cons (cat a b) p c w (inr (g, r)) =
    cat-right a b (follows (cat a b) p) (follows b (p - size a)) c w
    (λ q m h.
    same_right (size a) p (size a + q) (follows a p (size a + q)) (last a p && first b (size a + q - size a)) false
    (follows b (p - size a) (size a + q - size a)) g (omega arith)
    ∙ ap (follows b (p - size a)) (shift (size a) q) ∙ h)
    (rest-cons b (p - size a) c w r)
rest-cons (alt a b) p c w (inl (l, r)) =
    alt-left a b (follows (alt a b) p) (follows a p) c w
    (λ q m h. same_left (size a) p q (follows a p q) false false (follows b (p - size a) (q - size a)) l m ∙ h)
    (rest-cons a p c w r)
rest-cons (alt a b) p c w (inr (g, r)) =
    alt-right a b (follows (alt a b) p) (follows b (p - size a)) c w
    (λ q m h.
    same_right (size a) p (size a + q) (follows a p (size a + q)) false false (follows b (p - size a) (size a + q - size a)) g (omega arith)
    ∙ ap (follows b (p - size a)) (shift (size a) q) ∙ h)
    (rest-cons b (p - size a) c w r)
rest-cons (plus a) p c w t =
    ⊎_elim
    (λ x. plus-in a (follows (plus a) p) (first a) c w
    (λ q m h. or_right (follows a p q) (last a p && first a q) (and-true (last a p) (first a q) (rest-nil a p x.0) h))
    (then_map (λ u. In a (c ∷ u)) (Goes a (first a) c) (Many (In a)) w (in-cons a c) (many-cons (In a) x.1.0 c w x.1.1)))
    (λ x. plus-in a (follows (plus a) p) (follows a p) c w (λ q m h. or_left (follows a p q) (last a p && first a q) h)
    (then_map (λ u. Rest a p (c ∷ u)) (Goes a (follows a p) c) (Many (In a)) w (rest-cons a p c) x))
    (then-cons (Rest a p) (Many (In a)) c w t)

-- ---- and back

pub cons-in : (e : Exp) (p c : ℕ) (w : List ℕ) → first e p ≡ true → letter e p c ≡ true → Rest e p w → In e (c ∷ w)
unfolding letter first
cons-in (one s) p c w f l r = (c, ap (λ x. c ∷ x) r.1, l)
cons-in eps p c w f l r = absurd r
cons-in (cat a b) p c w f l (inl (k, t)) =
    then-step (In a) (In b) c w
    (then_map (Rest a p) (λ u. In a (c ∷ u)) (In b) w
    (λ u r. cons-in a p c u
    (sym (left_at (size a) p (first a p) (null a && first b (p - size a)) k) ∙ f)
    (sym (left_at (size a) p (letter a p c) (letter b (p - size a) c) k) ∙ l)
    r)
    t)
cons-in (cat a b) p c w f l (inr (g, r)) =
    let h = both (null a) (first b (p - size a)) (sym (right_at (size a) p (first a p) (null a && first b (p - size a)) g) ∙ f) in
    then-here (In a) (In b) (c ∷ w) (nil-in a h.0)
    (cons-in b (p - size a) c w h.1 (sym (right_at (size a) p (letter a p c) (letter b (p - size a) c) g) ∙ l) r)
cons-in (alt a b) p c w f l (inl (k, r)) =
    inl (cons-in a p c w (sym (left_at (size a) p (first a p) (first b (p - size a)) k) ∙ f)
    (sym (left_at (size a) p (letter a p c) (letter b (p - size a) c) k) ∙ l) r)
cons-in (alt a b) p c w f l (inr (g, r)) =
    inr (cons-in b (p - size a) c w (sym (right_at (size a) p (first a p) (first b (p - size a)) g) ∙ f)
    (sym (right_at (size a) p (letter a p c) (letter b (p - size a) c) g) ∙ l) r)
cons-in (plus a) p c w f l t =
    then-step (In a) (Many (In a)) c w
    (then_map (Rest a p) (λ u. In a (c ∷ u)) (Many (In a)) w (λ u r. cons-in a p c u f l r) t)

pub cons-rest : (e : Exp) (p q c : ℕ) (w : List ℕ) → follows e p q ≡ true → letter e q c ≡ true → Rest e q w → Rest e p (c ∷ w)
unfolding letter follows
cons-rest (one s) p q c w f l r = absurd (false≢true f)
cons-rest eps p q c w f l r = absurd r
cons-rest (cat a b) p q c w f l (inl (k, t)) =
    elim (dec_lt p (size a)) [
      | yes m ↦
          inl (
            m,
            then-step (Rest a p) (In b) c w
                (then_map (Rest a q) (λ u. Rest a p (c ∷ u)) (In b) w
                (λ u r. cons-rest a p q c u
                (sym (same_left (size a) p q (follows a p q) (last a p && first b (q - size a)) false (follows b (p - size a) (q - size a)) m k) ∙ f)
                (sym (left_at (size a) q (letter a q c) (letter b (q - size a) c) k) ∙ l)
                r)
                t),
          )
      | no m ↦
          absurd (false≢true
          (sym (backward (size a) p q (follows a p q) (last a p && first b (q - size a)) false (follows b (p - size a) (q - size a)) (omega arith) k) ∙ f))
    ]
cons-rest (cat a b) p q c w f l (inr (g, r)) =
    elim (dec_lt p (size a)) [
      | yes m ↦
          let h = both (last a p) (first b (q - size a))
          (sym (across (size a) p q (follows a p q) (last a p && first b (q - size a)) false (follows b (p - size a) (q - size a)) m g) ∙ f) in
          inl (
            m,
            then-here (Rest a p) (In b) (c ∷ w) (nil-rest a p h.0)
                (cons-in b (q - size a) c w h.1 (sym (right_at (size a) q (letter a q c) (letter b (q - size a) c) g) ∙ l) r),
          )
      | no m ↦
          let k : size a ≤ p = omega arith in
          inr (
            k,
            cons-rest b (p - size a) (q - size a) c w
                (sym (same_right (size a) p q (follows a p q) (last a p && first b (q - size a)) false (follows b (p - size a) (q - size a)) k g) ∙ f)
                (sym (right_at (size a) q (letter a q c) (letter b (q - size a) c) g) ∙ l)
                r,
          )
    ]
cons-rest (alt a b) p q c w f l (inl (k, r)) =
    elim (dec_lt p (size a)) [
      | yes m ↦
          inl (
            m,
            cons-rest a p q c w
                (sym (same_left (size a) p q (follows a p q) false false (follows b (p - size a) (q - size a)) m k) ∙ f)
                (sym (left_at (size a) q (letter a q c) (letter b (q - size a) c) k) ∙ l)
                r,
          )
      | no m ↦
          absurd (false≢true
          (sym (backward (size a) p q (follows a p q) false false (follows b (p - size a) (q - size a)) (omega arith) k) ∙ f))
    ]
cons-rest (alt a b) p q c w f l (inr (g, r)) =
    elim (dec_lt p (size a)) [
      | yes m ↦
          absurd (false≢true
          (sym (across (size a) p q (follows a p q) false false (follows b (p - size a) (q - size a)) m g) ∙ f))
      | no m ↦
          let k : size a ≤ p = omega arith in
          inr (
            k,
            cons-rest b (p - size a) (q - size a) c w
                (sym (same_right (size a) p q (follows a p q) false false (follows b (p - size a) (q - size a)) k g) ∙ f)
                (sym (right_at (size a) q (letter a q c) (letter b (q - size a) c) g) ∙ l)
                r,
          )
    ]
cons-rest (plus a) p q c w f l t =
    ⊎_elim
    (λ h. then-step (Rest a p) (Many (In a)) c w
    (then_map (Rest a q) (λ u. Rest a p (c ∷ u)) (Many (In a)) w (λ u r. cons-rest a p q c u h l r) t))
    (λ h.
    let k = both (last a p) (first a q) h in
    then-here (Rest a p) (Many (In a)) (c ∷ w) (nil-rest a p k.0)
    (many_more (In a) (c ∷ w)
    (then-step (In a) (Many (In a)) c w
    (then_map (Rest a q) (λ u. In a (c ∷ u)) (Many (In a)) w (λ u r. cons-in a q c u k.1 l r) t))))
    (or-either (follows a p q) (last a p && first a q) f)
