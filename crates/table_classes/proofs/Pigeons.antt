-- Different numbers below a limit are no more than the limit. Assumes nothing.
use Prim.Native.Nat.{ℕ, zero, suc, ◌-◌, ◌≤◌, ◌<◌}
use mathlib.Core.Path.{◌≡◌}
use native.Mathlib.Omega.{arith}
use native.Mathlib.Decide.{dec_lt, ℕ_discrete}

-- the numbers that are not v, closed up
abbrev skip : (v x : ℕ) → Dec (v < x) → ℕ
skip v x (yes l) = x - 1
skip v x (no g) = x

skip-lt : (v x n : ℕ) (d : Dec (v < x)) → v < suc n → x < suc n → (x ≡ v → ⊥) → skip v x d < n
skip-lt v x n (yes l) hv hx ne = omega arith
skip-lt v x n (no g) hv hx ne = elim (ℕ_discrete x v) [ yes e ↦ absurd (ne e) | no k ↦ omega arith ]

skip-inj : (v x y : ℕ) (d : Dec (v < x)) (e : Dec (v < y)) → (x ≡ v → ⊥) → (y ≡ v → ⊥) → skip v x d ≡ skip v y e → x ≡ y
skip-inj v x y (yes l) (yes k) nx ny q = omega arith
skip-inj v x y (no l) (no k) nx ny q = q
skip-inj v x y (yes l) (no k) nx ny q = elim (ℕ_discrete y v) [ yes e ↦ absurd (ny e) | no z ↦ absurd (omega arith) ]
skip-inj v x y (no l) (yes k) nx ny q = elim (ℕ_discrete x v) [ yes e ↦ absurd (nx e) | no z ↦ absurd (omega arith) ]

-- m different numbers below n: m is at most n
pub pigeons : (n m : ℕ) (f : ℕ → ℕ) → ((i : ℕ) → i < m → f i < n) → ((i j : ℕ) → i < m → j < m → f i ≡ f j → i ≡ j) → m ≤ n
pigeons n zero f b q = omega arith
pigeons zero (suc m) f b q = absurd (omega (arith, b zero (omega arith)))
pigeons (suc n) (suc m) f b q =
    let ne : (i : ℕ) → i < m → f i ≡ f m → ⊥ = (λ i l e. let k : i ≡ m = q i m (omega arith) (omega arith) e in absurd (omega arith)) in
    let r : m ≤ n =
    pigeons n m (λ i. skip (f m) (f i) (dec_lt (f m) (f i)))
    (λ i l. skip-lt (f m) (f i) n (dec_lt (f m) (f i)) (b m (omega arith)) (b i (omega arith)) (ne i l))
    (λ i j l k e. q i j (omega arith) (omega arith) (skip-inj (f m) (f i) (f j) (dec_lt (f m) (f i)) (dec_lt (f m) (f j)) (ne i l) (ne j k) e)) in
    omega arith
