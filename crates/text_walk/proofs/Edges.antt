-- The rows in the words of the position automaton: state 1 + p is position p.
use Prim.Native.Nat.{ℕ, suc, ◌+◌, ◌≤◌, ◌<◌}
use mathlib.Core.Path.{◌≡◌, ◌∙◌}
use mathlib.Core.Bool.{false}
use mathlib.Core.List.{List}
use native.Mathlib.Omega.{arith}
use Rattle.text.specs.Exp.{Exp, size, letter, first, last, follows}
use Rattle.sets.specs.Set.{states, set_of, holds}
use Rattle.text_walk.specs.declared.Shape.{Shape}
use Rattle.text_walk.specs.inner.Rows.{cap, prior_at, bytes_of, Known, Sums}
use Rattle.text_walk.proofs.Absolute.{first-in, last-in, follows-in, letter-in, last_out, follows-from-out}
use Rattle.text_walk.proofs.Copying.{cap-exact}

-- below the limit the size is exact, and all is known
pub walk-size : (R : List ℕ) (e : Exp) (r : Shape) → Sums R 1 e r → r.size < states → r.size ≡ size e
walk-size R e r s h = let c : r.size ≡ cap (size e) = s.sized in let d : size e ≡ cap (size e) = cap-exact (size e) (omega arith) in omega arith

module _ (R : List ℕ) (e : Exp) (r : Shape) (s : Sums R 1 e r) (h : size e < states) where
  known : Known R 1 e r
  known = s.known (omega arith)

  pub walk_first : (q : ℕ) → q < size e → holds (set_of r.first) (1 + q) ≡ first e q
  walk_first q l = known.firsts (1 + q) ∙ first-in e 1 q l

  pub walk-last : (q : ℕ) → q < size e → holds (set_of r.last) (1 + q) ≡ last e q
  walk-last q l = known.lasts (1 + q) ∙ last-in e 1 q l

  pub walk-last-none : holds (set_of r.last) 0 ≡ false
  walk-last-none = known.lasts 0 ∙ last_out e 1 0 (λ z. omega (arith, z.0))

  pub walk-prior : (p q : ℕ) → p < size e → q < size e → holds (prior_at R (1 + q)) (1 + p) ≡ follows e p q
  walk-prior p q l m = known.priors (1 + q) (omega arith) (omega arith) (1 + p) ∙ follows-in e 1 p q l m

  pub walk-prior-none : (q : ℕ) → q < size e → holds (prior_at R (1 + q)) 0 ≡ false
  walk-prior-none q l = known.priors (1 + q) (omega arith) (omega arith) 0 ∙ follows-from-out e 1 0 (1 + q) (λ z. omega (arith, z.0))

  -- past the last state none may end it, and none comes before another
  pub walk-last-past : (q : ℕ) → suc (size e) ≤ q → holds (set_of r.last) q ≡ false
  walk-last-past q l = known.lasts q ∙ last_out e 1 q (λ z. omega (arith, z.1))

  pub walk-prior-past : (q p : ℕ) → q < size e → suc (size e) ≤ p → holds (prior_at R (1 + q)) p ≡ false
  walk-prior-past q p l m = known.priors (1 + q) (omega arith) (omega arith) p ∙ follows-from-out e 1 p (1 + q) (λ z. omega (arith, z.1))

  pub walk-letter : (q c : ℕ) → q < size e → c < 256 → holds (bytes_of R (1 + q)) c ≡ letter e q c
  walk-letter q c l m = known.letters (1 + q) (omega arith) (omega arith) c m ∙ letter-in e 1 q c l
