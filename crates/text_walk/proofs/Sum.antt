-- What the code's combinations say of expressions.
use Prim.Native.Nat.{ℕ, suc, ◌+◌, ◌≤◌, ◌<◌}
use mathlib.Core.Path.{◌≡◌, refl, sym, ap, subst, ◌∙◌}
use mathlib.Core.Bool.{Bool, true, false, ◌&&◌, ◌||◌, cond}
use mathlib.Core.Logic.{◌⊎◌, inl, inr}
use native.Mathlib.Omega.{arith}
use lib.Dec.{ltb}
use borrow.Author.Tests.{lt-ltb, le-ltb, ltb-true, ltb-false, eq-eqb}
use Rattle.text.specs.Exp.{Exp, one, eps, cat, alt, plus, opt, size, null}
use mathlib.Core.List.{List}
use native.Mathlib.Decide.{dec_lt}
use native.Mathlib.Nat.{lt_of_not-le}
use Rattle.sets.specs.Set.{states, set_of, holds}
use Rattle.sets.proofs.Sets.{holds-empty, holds-join, holds-insert, or-false}
use Rattle.text_walk.specs.declared.Shape.{Shape}
use Rattle.text_walk.specs.inner.Rows.{first_at, last_at, follows_at, letter_at, cap, prior_at, bytes_of, Same, Keeps, Known, Sums, Leafed, Seamed, Nothing, Single, Both, Either, Alike}
use Rattle.text_walk.proofs.Absolute.{first_out, follows-to-out, letter-out}

-- ---- counts

pub cap-small : (n : ℕ) → n ≤ states → cap n ≡ n
unfolding cap
cap-small n h = rw (le-ltb states n h)

pub cap-over : (n : ℕ) → states ≤ n → cap n ≡ states
cap-over n h = go (ltb states n) refl
  where
    go : (b : Bool) → ltb states n ≡ b → cap n ≡ states
    go true e = unfold cap in rw e
    go false e = let k : n ≤ states = ltb-false states n e in cap-small n k ∙ omega arith

pub cap-least-of : (n r : ℕ) → (n ≤ states → r ≡ n) → (states ≤ n → r ≡ states) → r ≡ cap n
cap-least-of n r f g = go (ltb states n) refl
  where
    go : (b : Bool) → ltb states n ≡ b → r ≡ cap n
    go true e = let l : states ≤ n = omega (arith, ltb-true states n e) in g l ∙ sym (cap-over n l)
    go false e = let l : n ≤ states = ltb-false states n e in f l ∙ sym (cap-small n l)

pub cap-most : (n : ℕ) → cap n ≤ states
cap-most n = go (ltb states n) refl
  where
    go : (b : Bool) → ltb states n ≡ b → cap n ≤ states
    go true e = let k : states < n = ltb-true states n e in let z : cap n ≡ states = cap-over n (omega arith) in omega arith
    go false e = let k : n ≤ states = ltb-false states n e in let z : cap n ≡ n = cap-small n k in omega arith

pub cap-least : (k n : ℕ) → k ≤ states → k ≤ cap (k + n)
cap-least k n h = go (ltb states (k + n)) refl
  where
    go : (b : Bool) → ltb states (k + n) ≡ b → k ≤ cap (k + n)
    go true e = let l : states < k + n = ltb-true states (k + n) e in let z : cap (k + n) ≡ states = cap-over (k + n) (omega arith) in omega arith
    go false e = let l : k + n ≤ states = ltb-false states (k + n) e in let z : cap (k + n) ≡ k + n = cap-small (k + n) l in omega arith

-- either of two cases
capped_is : (n : ℕ) → ((n ≤ states) × (cap n ≡ n)) ⊎ ((states < n) × (cap n ≡ states))
capped_is n = go (ltb states n) refl
  where
    go : (b : Bool) → ltb states n ≡ b → ((n ≤ states) × (cap n ≡ n)) ⊎ ((states < n) × (cap n ≡ states))
    go true e = let k : states < n = ltb-true states n e in inr (k, cap-over n (omega arith))
    go false e = let k : n ≤ states = ltb-false states n e in inl (k, cap-small n k)

pub cap-add : (a b : ℕ) → cap (cap a + cap b) ≡ cap (a + b)
cap-add a b = go (capped_is a) (capped_is b)
  where
    go : ((a ≤ states) × (cap a ≡ a)) ⊎ ((states < a) × (cap a ≡ states)) → ((b ≤ states) × (cap b ≡ b)) ⊎ ((states < b) × (cap b ≡ states)) → cap (cap a + cap b) ≡ cap (a + b)
    go (inl (l, e)) (inl (m, f)) = rw (e, f)
    go (inl (l, e)) (inr (m, f)) = cap-over (cap a + cap b) (omega arith) ∙ sym (cap-over (a + b) (omega arith))
    go (inr (l, e)) m = cap-over (cap a + cap b) (omega arith) ∙ sym (cap-over (a + b) (omega arith))

cond-holds : (c : Bool) (n q : ℕ) → holds (cond c n 0) q ≡ (holds n q && c)
cond-holds true n q = sym (and-true (holds n q))
  where
    and-true : (a : Bool) → (a && true) ≡ a
    and-true true = refl
    and-true false = refl
cond-holds false n q = holds-empty q ∙ sym (and_none (holds n q))
  where
    and_none : (a : Bool) → (a && false) ≡ false
    and_none true = refl
    and_none false = refl

and_none : (a : Bool) → (a && false) ≡ false
and_none true = refl
and_none false = refl

-- ---- rows that stay

pub same_refl : (A : List ℕ) (t : ℕ) → Same A A t
same_refl A t = record { prior = refl; bytes = refl }

pub same_then : (A B C : List ℕ) (t : ℕ) → Same A B t → Same B C t → Same A C t
same_then A B C t a b = record { prior = b.prior ∙ a.prior; bytes = b.bytes ∙ a.bytes }

pub keeps-refl : (k : ℕ) (A : List ℕ) → Keeps k A A
keeps-refl k A = record { long = refl; below = λ t _. same_refl A t }

pub keeps_then : (k : ℕ) (A B C : List ℕ) → Keeps k A B → Keeps k B C → Keeps k A C
keeps_then k A B C a b = record { long = b.long ∙ a.long; below = λ t h. same_then A B C t (a.below t h) (b.below t h) }

pub keeps-less : (j k : ℕ) (A B : List ℕ) → j ≤ k → Keeps k A B → Keeps j A B
keeps-less j k A B h a = record { long = a.long; below = λ t l. a.below t (omega arith) }

pub seam-keeps : (F G low high : ℕ) (A B : List ℕ) → Seamed F G low high A B → Keeps low A B
seam-keeps F G low high A B s = record { long = s.long; below = λ t h. record { prior = s.outside t (inl h); bytes = s.bytes t } }

-- a part's own rows alone count
pub sums-stay : (A B : List ℕ) (k : ℕ) (e : Exp) (r : Shape) → ((t : ℕ) → k ≤ t → t < k + size e → Same A B t) → Sums A k e r → Sums B k e r
sums-stay A B k e r h s = record {
  sized = s.sized;
  nulls = s.nulls;
  known = λ o.
      let u = s.known o in
      record {
        firsts = u.firsts;
        lasts = u.lasts;
        priors = λ t l m q. ap (λ z. holds z q) (h t l m).prior ∙ u.priors t l m q;
        letters = λ t l m c b. ap (λ z. holds z c) (h t l m).bytes ∙ u.letters t l m c b;
      };
}

-- ---- one law for each combination

pub sum-eps : (R : List ℕ) (k : ℕ) (r : Shape) → Nothing r → Sums R k eps r
unfolding size null first_at last_at follows_at letter_at
sum-eps R k r (s, n, f, l) = record {
  sized = s ∙ sym (cap-small 0 (omega arith));
  nulls = n;
  known = λ h. record {
    firsts = λ q. ap (λ z. holds z q) f ∙ holds-empty q;
    lasts = λ q. ap (λ z. holds z q) l ∙ holds-empty q;
    priors = λ t u v q. absurd (omega arith);
    letters = λ t u v c o. absurd (omega arith);
  };
}

pub sum_one : (A B : List ℕ) (k : ℕ) (s : ℕ → Bool) (m : ℕ) (r : Shape) → ((c : ℕ) → c < 256 → holds m c ≡ s c) → Leafed k m A B → Single k r → Sums B k (one s) r
unfolding size null first_at last_at follows_at letter_at
sum_one A B k s m r g w (z, n, f, l) = record {
  sized = z ∙ sym (cap-small 1 (omega arith));
  nulls = n;
  known = λ h. record {
    firsts = λ q. ap (λ z. holds z q) f ∙ holds-insert states 0 k q ∙ rw (holds-empty q, lt-ltb k states (omega arith));
    lasts = λ q. ap (λ z. holds z q) l ∙ holds-insert states 0 k q ∙ rw (holds-empty q, lt-ltb k states (omega arith));
    priors = λ t u v q. let e : t ≡ k = omega arith in ap (λ z. holds (prior_at B z) q) e ∙ ap (λ z. holds z q) (w.prior (omega arith)) ∙ holds-empty q;
    letters = λ t u v c o. let e : t ≡ k = omega arith in ap (λ z. holds (bytes_of B z) c) e ∙ ap (λ z. holds z c) (w.bytes (omega arith)) ∙ g c o ∙ sym (ap (λ z. z && s c) (eq-eqb t k e));
  };
}

front-or : (x y : Bool) → y ≡ false → x ≡ (x || y)
front-or x y e = sym (ap (λ z. x || z) e ∙ or-false x)

-- a state of the first part, and one of the second
module _ (A B : List ℕ) (k : ℕ) (a b : Exp) (x y : Shape) (keep : Keeps (k + size a) A B) (u : Known A k a x) (v : Known B (k + size a) b y) where
  prior-first : (t : ℕ) → k ≤ t → t < k + size a → (q : ℕ) → holds (prior_at B t) q ≡ (follows_at k a q t || follows_at (k + size a) b q t)
  prior-first t l m q =
      ap (λ z. holds z q) (keep.below t m).prior ∙ u.priors t l m q
      ∙ front-or (follows_at k a q t) (follows_at (k + size a) b q t) (follows-to-out b (k + size a) q t (λ z. omega (arith, z.0)))

  prior-second : (t : ℕ) → k + size a ≤ t → t < k + size a + size b → (q : ℕ) → holds (prior_at B t) q ≡ (follows_at k a q t || follows_at (k + size a) b q t)
  prior-second t l m q = v.priors t l m q ∙ sym (ap (λ z. z || follows_at (k + size a) b q t) (follows-to-out a k q t (λ z. omega (arith, z.1))))

  letter-either : (t : ℕ) → k ≤ t → t < k + size a + size b → (c : ℕ) → c < 256 → holds (bytes_of B t) c ≡ (letter_at k a t c || letter_at (k + size a) b t c)
  letter-either t l m c o = elim (dec_lt t (k + size a)) [ yes h ↦ here h | no g ↦ there (lt_of_not-le (λ (l : suc t ≤ k + size a). g l)) ]
    where
      here : t < k + size a → holds (bytes_of B t) c ≡ (letter_at k a t c || letter_at (k + size a) b t c)
      here h =
          ap (λ z. holds z c) (keep.below t h).bytes ∙ u.letters t l h c o
          ∙ front-or (letter_at k a t c) (letter_at (k + size a) b t c) (letter-out b (k + size a) t c (λ z. omega (arith, z.0)))

      there : k + size a < suc t → holds (bytes_of B t) c ≡ (letter_at k a t c || letter_at (k + size a) b t c)
      there h = v.letters t (omega arith) m c o ∙ sym (ap (λ z. z || letter_at (k + size a) b t c) (letter-out a k t c (λ z. omega (arith, z.1))))

  prior-either : (t : ℕ) → k ≤ t → t < k + size a + size b → (q : ℕ) → holds (prior_at B t) q ≡ (follows_at k a q t || follows_at (k + size a) b q t)
  prior-either t l m q = elim (dec_lt t (k + size a)) [ yes h ↦ prior-first t l h q | no g ↦ prior-second t (omega (arith, lt_of_not-le (λ (l : suc t ≤ k + size a). g l))) m q ]

pub sum-cat : (A B C : List ℕ) (k j : ℕ) (a b : Exp) (x y r : Shape) → Sums A k a x → Keeps j A B → Sums B j b y → (k + size a ≤ states → j ≡ k + size a)
    → Seamed (set_of x.last) (set_of y.first) j (cap (j + y.size)) B C → Both x y r → Sums C k (cat a b) r
unfolding size null first_at last_at follows_at letter_at
sum-cat A B C k j a b x y r s keep t g w (z, n, f, l) = record {
  sized = z ∙ rw (s.sized, t.sized) (cap-add (size a) (size b));
  nulls = n ∙ rw (s.nulls, t.nulls);
  known = λ h.
      let e : j ≡ k + size a = g (omega arith) in
      let u : Known A k a x = s.known (omega arith) in
      let v : Known B (k + size a) b y = subst (λ i. Known B i b y) e (t.known (omega arith)) in
      let kp : Keeps (k + size a) A B = subst (λ i. Keeps i A B) e keep in
      let hi : cap (j + y.size) ≡ k + size a + size b = ap (λ z. cap (j + z)) (t.sized ∙ cap-small (size b) (omega arith)) ∙ cap-small (j + size b) (omega arith) ∙ ap (λ z. z + size b) e in
      let w2 : Seamed (set_of x.last) (set_of y.first) (k + size a) (k + size a + size b) B C = subst (λ i. Seamed (set_of x.last) (set_of y.first) i (k + size a + size b) B C) e (subst (λ i. Seamed (set_of x.last) (set_of y.first) j i B C) hi w) in
      record {
        firsts = λ q. ap (λ z. holds z q) f ∙ holds-join (set_of x.first) (cond x.null (set_of y.first) 0) q ∙ rw (cond-holds x.null (set_of y.first) q, u.firsts q, v.firsts q, s.nulls) (ap (λ z. first_at k a q || z) (and-turn (first_at (k + size a) b q) (null a)));
        lasts = λ q. ap (λ z. holds z q) l ∙ holds-join (cond y.null (set_of x.last) 0) (set_of y.last) q ∙ rw (cond-holds y.null (set_of x.last) q, u.lasts q, v.lasts q, t.nulls);
        priors = λ m o p q.
            elim (dec_lt m (k + size a)) [
              | yes c ↦
                  ap (λ z. holds z q) (w2.outside m (inl c)) ∙ prior-first A B k a b x y kp u v m o c q
                  ∙ front-or (follows_at k a q m || follows_at (k + size a) b q m) (last_at k a q && first_at (k + size a) b m) (ap (λ z. last_at k a q && z) (first_out b (k + size a) m (λ z. omega (arith, z.0))) ∙ and_none (last_at k a q))
              | no d ↦
                  let c : k + size a ≤ m = omega (arith, lt_of_not-le (λ (l : suc m ≤ k + size a). d l)) in
                  w2.inside m c (omega arith) q ∙ rw (prior-second A B k a b x y kp u v m c (omega arith) q, u.lasts q, v.firsts m)
            ];
        letters = λ m o p c i. ap (λ z. holds z c) (w2.bytes m) ∙ letter-either A B k a b x y kp u v m o (omega arith) c i;
      };
}
  where
    and-turn : (a b : Bool) → (a && b) ≡ (b && a)
    and-turn true true = refl
    and-turn true false = refl
    and-turn false true = refl
    and-turn false false = refl

pub sum-alt : (A B : List ℕ) (k j : ℕ) (a b : Exp) (x y r : Shape) → Sums A k a x → Keeps j A B → Sums B j b y → (k + size a ≤ states → j ≡ k + size a) → Either x y r → Sums B k (alt a b) r
unfolding size null first_at last_at follows_at letter_at
sum-alt A B k j a b x y r s keep t g (z, n, f, l) = record {
  sized = z ∙ rw (s.sized, t.sized) (cap-add (size a) (size b));
  nulls = n ∙ rw (s.nulls, t.nulls);
  known = λ h.
      let e : j ≡ k + size a = g (omega arith) in
      let u : Known A k a x = s.known (omega arith) in
      let v : Known B (k + size a) b y = subst (λ i. Known B i b y) e (t.known (omega arith)) in
      let kp : Keeps (k + size a) A B = subst (λ i. Keeps i A B) e keep in
      record {
        firsts = λ q. ap (λ z. holds z q) f ∙ holds-join (set_of x.first) (set_of y.first) q ∙ rw (u.firsts q, v.firsts q);
        lasts = λ q. ap (λ z. holds z q) l ∙ holds-join (set_of x.last) (set_of y.last) q ∙ rw (u.lasts q, v.lasts q);
        priors = λ m o p q. prior-either A B k a b x y kp u v m o (omega arith) q;
        letters = λ m o p c i. letter-either A B k a b x y kp u v m o (omega arith) c i;
      };
}

pub sum-plus : (A B : List ℕ) (k : ℕ) (a : Exp) (x : Shape) → Sums A k a x → Seamed (set_of x.last) (set_of x.first) k (cap (k + x.size)) A B → Sums B k (plus a) x
unfolding size null first_at last_at follows_at letter_at
sum-plus A B k a x s w = record {
  sized = s.sized;
  nulls = s.nulls;
  known = λ h.
      let u : Known A k a x = s.known h in
      let hi : cap (k + x.size) ≡ k + size a = ap (λ z. cap (k + z)) (s.sized ∙ cap-small (size a) (omega arith)) ∙ cap-small (k + size a) h in
      let w2 : Seamed (set_of x.last) (set_of x.first) k (k + size a) A B = subst (λ i. Seamed (set_of x.last) (set_of x.first) k i A B) hi w in
      record {
        firsts = u.firsts;
        lasts = u.lasts;
        priors = λ t l m q. w2.inside t l m q ∙ rw (u.priors t l m q, u.lasts q, u.firsts t);
        letters = λ t l m c o. ap (λ z. holds z c) (w2.bytes t) ∙ u.letters t l m c o;
      };
}

or-true : (a : Bool) → (a || true) ≡ true
or-true true = refl
or-true false = refl

pub sum-opt : (R : List ℕ) (k : ℕ) (a : Exp) (x r : Shape) → Sums R k a x → Alike true x r → Sums R k (opt a) r
unfolding size null first_at last_at follows_at letter_at
sum-opt R k a x r s (z, n, f, l) = record {
  sized = z ∙ s.sized ∙ ap cap (the_same (size a));
  nulls = n ∙ sym (or-true (null a));
  known = λ h.
      let u : Known R k a x = s.known (omega arith) in
      record {
        firsts = λ q. ap (λ z. holds z q) f ∙ u.firsts q ∙ sym (or-false (first_at k a q));
        lasts = λ q. ap (λ z. holds z q) l ∙ u.lasts q ∙ sym (or-false (last_at k a q));
        priors = λ t o m q. u.priors t o (omega arith) q ∙ sym (or-false (follows_at k a q t));
        letters = λ t o m c i. u.letters t o (omega arith) c i ∙ sym (or-false (letter_at k a t c));
      };
}
  where
    the_same : (n : ℕ) → n ≡ n + 0
    the_same n = omega arith
