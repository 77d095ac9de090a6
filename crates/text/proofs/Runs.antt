-- The automaton's runs are the language; {m,n} written out is m to n times.
use Prim.Native.Nat.{ℕ, zero, suc, ◌≤◌}
use mathlib.Core.Path.{refl, sym, ap, subst}
use mathlib.Core.Bool.{Bool, true, false, false≢true}
use mathlib.Core.List.{List, [], ◌∷◌, ◌++◌}
use mathlib.Core.Logic.{inl, inr}
use native.Mathlib.Omega.{arith}
use Rattle.text.specs.Exp.{Exp, In, Times, times, first, letter, follows, edge, accepts, Leads, Due}
use Rattle.text.proofs.Places.{Rest, both, and-true, in-nil, nil-in, in-cons, cons-in, rest-nil, nil-rest, rest-cons, cons-rest}

pub rest-leads : (free : Bool) (e : Exp) (w : List ℕ) (p : ℕ) → Rest e p w → Leads free e w (suc p)
unfolding edge accepts
rest-leads free e [] p r = rest-nil e p r
rest-leads free e (c ∷ w) p r =
    let (q, m, f, l, k) = rest-cons e p c w r in
    (suc q, and-true (follows e p q) (letter e q c) f l, rest-leads free e w q k)

pub leads-rest : (free : Bool) (e : Exp) (w : List ℕ) (p : ℕ) → Leads free e w (suc p) → Rest e p w
unfolding edge accepts
leads-rest free e [] p h = nil-rest e p h
leads-rest free e (c ∷ w) p (zero, h, k) = absurd (false≢true h)
leads-rest free e (c ∷ w) p (suc q, h, k) =
    let r = both (follows e p q) (letter e q c) h in
    cons-rest e p q c w r.0 r.1 (leads-rest free e w q k)

pub in-leads : (free : Bool) (e : Exp) (w : List ℕ) → In e w → Leads free e w 0
unfolding edge accepts
in-leads free e [] i = in-nil e i
in-leads free e (c ∷ w) i =
    let (q, m, f, l, k) = in-cons e c w i in
    (suc q, and-true (first e q) (letter e q c) f l, rest-leads free e w q k)

pub leads-due : (free : Bool) (e : Exp) (w : List ℕ) → Leads free e w 0 → Due free e w
unfolding edge accepts
leads-due false e [] h = nil-in e h
leads-due true e [] h = ([], [], refl, tt, nil-in e h)
leads-due false e (c ∷ w) (zero, h, k) = absurd (false≢true h)
leads-due true e (c ∷ w) (zero, h, k) =
    let (u, v, p, x, i) = leads-due true e w k in (c ∷ u, v, ap (λ z. c ∷ z) p, tt, i)
leads-due false e (c ∷ w) (suc q, h, k) =
    let r = both (first e q) (letter e q c) h in cons-in e q c w r.0 r.1 (leads-rest false e w q k)
leads-due true e (c ∷ w) (suc q, h, k) =
    let r = both (first e q) (letter e q c) h in
    ([], c ∷ w, refl, tt, cons-in e q c w r.0 r.1 (leads-rest true e w q k))

skip : (e : Exp) (u v : List ℕ) → In e v → Leads true e (u ++ v) 0
unfolding edge accepts
skip e [] v i = in-leads true e v i
skip e (c ∷ u) v i = (zero, refl, skip e u v i)

pub due-leads : (free : Bool) (e : Exp) (w : List ℕ) → Due free e w → Leads free e w 0
due-leads false e w i = in-leads false e w i
due-leads true e w (u, v, p, x, i) = subst (λ z. Leads true e z 0) (sym p) (skip e u v i)

-- ---- {m,n}

abbrev pub Between : (List ℕ → Type 0) → ℕ → ℕ → List ℕ → Type 0
Between P m n w = (k : ℕ) × (m ≤ k) × (k ≤ n) × Times P k w

pub times-in : (e : Exp) (m n k : ℕ) (w : List ℕ) → m ≤ k → k ≤ n → Times (In e) k w → In (times e m n) w
unfolding times
times-in e m zero zero w g l t = t
times-in e m zero (suc k) w g l t = absurd (omega arith)
times-in e zero (suc n) zero w g l t = inr t
times-in e zero (suc n) (suc k) w g l (u, v, p, i, t) = inl (u, v, p, i, times-in e zero n k v (omega arith) (omega arith) t)
times-in e (suc m) (suc n) zero w g l t = absurd (omega arith)
times-in e (suc m) (suc n) (suc k) w g l (u, v, p, i, t) = (u, v, p, i, times-in e m n k v (omega arith) (omega arith) t)

pub in-times : (e : Exp) (m n : ℕ) (w : List ℕ) → m ≤ n → In (times e m n) w → Between (In e) m n w
unfolding times
in-times e m zero w l i = (0, l, omega arith, i)
in-times e zero (suc n) w l (inl (u, v, p, i, t)) =
    let (k, a, b, r) = in-times e zero n v (omega arith) t in (suc k, omega arith, omega arith, (u, v, p, i, r))
in-times e zero (suc n) w l (inr i) = (0, omega arith, omega arith, i)
in-times e (suc m) (suc n) w l (u, v, p, i, t) =
    let (k, a, b, r) = in-times e m n v (omega arith) t in (suc k, omega arith, omega arith, (u, v, p, i, r))
