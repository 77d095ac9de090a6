-- Words in two parts, and in many.
use Prim.Native.Nat.{ℕ, zero, suc}
use mathlib.Core.Path.{◌≡◌, refl, sym, ap, subst}
use mathlib.Core.List.{List, [], ◌∷◌, ◌++◌}
use mathlib.Core.Logic.{◌⊎◌, inl, inr}
use Rattle.text.specs.Exp.{Then, Times, Many}
use Rattle.text.specs.inner.Heads.{head_of}

abbrev pub tail_of : List ℕ → List ℕ
tail_of [] = []
tail_of (c ∷ w) = w

abbrev pub Empty : List ℕ → Type 0
Empty [] = Unit {0}
Empty (c ∷ w) = ⊥

pub nil-cons : {c : ℕ} {w : List ℕ} → [] ≡ c ∷ w → ⊥
nil-cons e = subst Empty e tt

pub cons-nil : {c : ℕ} {w : List ℕ} → c ∷ w ≡ [] → ⊥
cons-nil e = nil-cons (sym e)

pub then-nil : (P Q : List ℕ → Type 0) → Then P Q [] → P [] × Q []
then-nil P Q t = go t.0 t.1 t.2 t.3 t.4
  where
    go : (u v : List ℕ) → [] ≡ u ++ v → P u → Q v → P [] × Q []
    go [] v e p q = (p, subst Q (sym e) q)
    go (d ∷ u) v e p q = absurd (nil-cons e)

pub then-cons : (P Q : List ℕ → Type 0) (c : ℕ) (w : List ℕ) → Then P Q (c ∷ w) → (P [] × Q (c ∷ w)) ⊎ Then (λ u. P (c ∷ u)) Q w
then-cons P Q c w t = go t.0 t.1 t.2 t.3 t.4
  where
    go : (u v : List ℕ) → c ∷ w ≡ u ++ v → P u → Q v → (P [] × Q (c ∷ w)) ⊎ Then (λ u. P (c ∷ u)) Q w
    go [] v e p q = inl (p, subst Q (sym e) q)
    go (d ∷ u) v e p q = inr (u, v, ap tail_of e, subst (λ x. P (x ∷ u)) (sym (ap (head_of 0) e)) p, q)

pub then-here : (P Q : List ℕ → Type 0) (w : List ℕ) → P [] → Q w → Then P Q w
then-here P Q w p q = ([], w, refl, p, q)

pub then-step : (P Q : List ℕ → Type 0) (c : ℕ) (w : List ℕ) → Then (λ u. P (c ∷ u)) Q w → Then P Q (c ∷ w)
then-step P Q c w t = (c ∷ t.0, t.1, ap (λ x. c ∷ x) t.2, t.3, t.4)

-- the first of many that is not empty
pub many-cons : (P : List ℕ → Type 0) (n : ℕ) (c : ℕ) (w : List ℕ) → Times P n (c ∷ w) → Then (λ u. P (c ∷ u)) (Many P) w
many-cons P zero c w t = absurd (cons-nil t)
many-cons P (suc n) c w t = go (then-cons P (Times P n) c w t) (many-cons P n c w)
  where
    go : (P [] × Times P n (c ∷ w)) ⊎ Then (λ u. P (c ∷ u)) (Times P n) w
        → (Times P n (c ∷ w) → Then (λ u. P (c ∷ u)) (Many P) w) → Then (λ u. P (c ∷ u)) (Many P) w
    go (inl x) ih = ih x.1
    go (inr x) ih = (x.0, x.1, x.2, x.3, (n, x.4))

pub many-nil : (P : List ℕ → Type 0) → Many P []
many-nil P = (0, refl)

pub many_more : (P : List ℕ → Type 0) (w : List ℕ) → Then P (Many P) w → Many P w
many_more P w t = (suc t.4.0, (t.0, t.1, t.2, t.3, t.4.1))
