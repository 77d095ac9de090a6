-- One byte of the acceptor, and the look-ahead of numbers.
use Prim.Native.Nat.{ℕ, zero, suc, ◌+◌, ◌-◌, ◌*◌, ◌≤◌, ◌<◌}
use mathlib.Core.Path.{◌≡◌, refl, sym, ◌∙◌}
use mathlib.Core.Bool.{Bool, true, false, ◌&&◌, ◌||◌}
use mathlib.Core.Logic.{◌⊎◌, inl, inr}
use native.Mathlib.Omega.{arith}
use lib.Dec.{leb, eqb}
use borrow.Author.Tests.{leb-true, le-leb, lt-leb, eqb-false, ne_eqb}
use Rattle.rules.specs.Scan.{some}
use Rattle.rules.proofs.Scanning.{some-elim}
use Rattle.text.specs.Acceptor.{can}
use Rattle.text.proofs.Places.{both, or-either}

pub can-more : (low r v : ℕ) → (r ≡ 0 → ⊥) → ((leb low v && leb v 300) || some 10 (λ k. can low (r - 1) (10 * v + k))) ≡ can low r v
unfolding can
can-more low zero v e = absurd (e refl)
can-more low (suc r) v e = let k : suc r - 1 ≡ r = omega arith in rw k

-- what can still become a number is none above 300
pub can-small : (low r v : ℕ) → can low r v ≡ true → v ≤ 300
unfolding can
can-small low zero v h = leb-true v 300 (both (leb low v) (leb v 300) h).1
can-small low (suc r) v h = go (λ i e. can-small low r (10 * v + i) e) (or-either (leb low v && leb v 300) (some 10 (λ d. can low r (10 * v + d))) h)
  where
    go : ((i : ℕ) → can low r (10 * v + i) ≡ true → 10 * v + i ≤ 300) → ((leb low v && leb v 300) ≡ true) ⊎ (some 10 (λ d. can low r (10 * v + d)) ≡ true) → v ≤ 300
    go f (inl e) = leb-true v 300 (both (leb low v) (leb v 300) e).1
    go f (inr e) = let (i, l, k) = some-elim 10 (λ d. can low r (10 * v + d)) e in let j : 10 * v + i ≤ 300 = f i k in omega arith

pub can-over : (low r v : ℕ) → 300 < v → false ≡ can low r v
can-over low r v h = go (can low r v) refl
  where
    go : (b : Bool) → can low r v ≡ b → false ≡ b
    go false e = refl
    go true e = let k : v ≤ 300 = can-small low r v e in absurd (omega arith)

-- a number that is large enough ends here
pub can-now : (low r v : ℕ) → low ≤ v → v ≤ 300 → can low r v ≡ true
unfolding can
can-now low zero v a b = rw (le-leb low v a, le-leb v 300 b)
can-now low (suc r) v a b = rw (le-leb low v a, le-leb v 300 b)

-- one that is not large enough needs digits
pub can-not : (low v : ℕ) → v < low → can low 0 v ≡ false
unfolding can
can-not low v a = rw (lt-leb low v a)

pub can-next : (low r v : ℕ) → v < low → (r ≡ 0 → ⊥) → can low r v ≡ some 10 (λ k. can low (r - 1) (10 * v + k))
can-next low r v a b = sym (can-more low r v b) ∙ rw (lt-leb low v a)

-- ---- one of three bytes

pub one-of-three : (x a b c : ℕ) → ((x ≡ a → ⊥) → (x ≡ b → ⊥) → (x ≡ c → ⊥) → ⊥) → (eqb x a || eqb x b || eqb x c) ≡ true
one-of-three x a b c h = go (eqb x a) (eqb x b) (eqb x c) refl refl refl
  where
    go : (p q r : Bool) → eqb x a ≡ p → eqb x b ≡ q → eqb x c ≡ r → (p || q || r) ≡ true
    go true q r e f g = refl
    go false true r e f g = refl
    go false false true e f g = refl
    go false false false e f g = absurd (h (eqb-false x a e) (eqb-false x b f) (eqb-false x c g))

pub none-of-three : (x a b c : ℕ) → (x ≡ a → ⊥) → (x ≡ b → ⊥) → (x ≡ c → ⊥) → (eqb x a || eqb x b || eqb x c) ≡ false
none-of-three x a b c e f g = rw (ne_eqb x a e, ne_eqb x b f, ne_eqb x c g)
