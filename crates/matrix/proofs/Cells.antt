-- The bytes of a matrix as its sets: how many, each read again, one written anew, all empty. Assumes nothing.
use Prim.Native.Nat.{ℕ, zero, suc, ◌+◌, ◌*◌, ◌/◌, ◌%◌, ◌^◌, ◌<◌}
use mathlib.Core.Path.{◌≡◌, refl, sym, ap, ap₂, ◌∙◌}
use mathlib.Core.Bool.{◌&&◌, cond}
use mathlib.Core.List.{List, ◌∷◌, ◌++◌}
use native.Mathlib.Omega.{arith}
use native.Mathlib.Nat.{mul-suc, mul-zero, zero-add}
use native.Mathlib.Decide.{ℕ_discrete}
use lib.ListN.{length, replicate}
use lib.Dec.{eqb}
use borrow.Author.Tests.{eq-eqb, ne_eqb}
use Rattle.numbers.specs.Number.{num, digits, placed}
use Rattle.sets.specs.Set.{states, set_size, set_bytes, set_at, read_at}
use Rattle.numbers.proofs.Laws.{length_digits, num-digits}
use Rattle.rules.specs.Scan.{stack}
use Rattle.rules.proofs.Stacks.{stack_same, stack-length, stack-entry, stack-put}
use Rattle.matrix.specs.Matrix.{byte_values, cell_at, cells}

-- no bits at all
digits-none : (m : ℕ) → digits 8 m 0 ≡ replicate m 0
unfolding digits
digits-none zero = refl
digits-none (suc m) = ap {B = List ℕ} (λ (xs : List ℕ). 0 ∷ xs) (digits-none m)

pub replicate_more : (a b : ℕ) → replicate (a + b) 0 ≡ replicate a 0 ++ replicate {A = ℕ} b 0
replicate_more zero b = ap (λ (k : ℕ). replicate k 0) (zero-add b)
replicate_more (suc a) b =
    let e : suc a + b ≡ suc (a + b) = omega arith in
    ap (λ (k : ℕ). replicate k 0) e ∙ ap {B = List ℕ} (λ (xs : List ℕ). 0 ∷ xs) (replicate_more a b)

stack-none : (w n : ℕ) → replicate (w * n) 0 ≡ stack (λ k. digits 8 w 0) n
unfolding stack
stack-none w zero = ap (λ (k : ℕ). replicate k 0) (mul-zero w)
stack-none w (suc n) =
    ap (λ (k : ℕ). replicate k 0) (mul-suc w n) ∙ replicate_more (w * n) w ∙ ap₂ (λ (xs ys : List ℕ). xs ++ ys) (stack-none w n) (sym (digits-none w))

set_bytes-long : (v : ℕ) → length (set_bytes v) ≡ set_size
set_bytes-long v = length_digits 8 set_size v

module _ (n : ℕ) where
  pub cells-length : (f : ℕ → ℕ → ℕ) → length (cells f n) ≡ set_size * (byte_values * n)
  cells-length f = stack-length (λ k. set_bytes (f (k / byte_values) (k % byte_values))) set_size (λ k. set_bytes-long (f (k / byte_values) (k % byte_values))) (byte_values * n)

  pub cells_same : (f g : ℕ → ℕ → ℕ) → ((s c : ℕ) → s < n → c < byte_values → f s c ≡ g s c) → cells f n ≡ cells g n
  cells_same f g h =
      stack_same (λ k. set_bytes (f (k / byte_values) (k % byte_values))) (λ k. set_bytes (g (k / byte_values) (k % byte_values))) (byte_values * n)
      (λ k l. ap set_bytes' (h (k / byte_values) (k % byte_values) (omega arith) (omega arith)))
    where
      set_bytes' : ℕ → List ℕ
      set_bytes' v = set_bytes v

  module _ (f : ℕ → ℕ → ℕ) (s c : ℕ) (hs : s < n) (hc : c < byte_values) where
    -- the set of state s and byte c
    pub cells_at : f s c < 2 ^ states → set_at (cells f n) (cell_at s c) ≡ f s c
    unfolding read_at
    cells_at l =
        let e : (byte_values * s + c) / byte_values ≡ s = omega arith in
        let r : (byte_values * s + c) % byte_values ≡ c = omega arith in
        ap (num 8) (stack-entry (λ k. set_bytes (f (k / byte_values) (k % byte_values))) set_size (λ k. set_bytes-long (f (k / byte_values) (k % byte_values))) (byte_values * n) (byte_values * s + c) (omega arith)
        ∙ rw (e, r))
        ∙ num-digits 8 set_size (f s c) l

    -- that set written anew
    pub cells-put : (v : ℕ) → placed (cells f n) (cell_at s c) (set_bytes v) ≡ cells (λ a b. cond (eqb a s && eqb b c) v (f a b)) n
    cells-put v =
        stack-put (λ k. set_bytes (f (k / byte_values) (k % byte_values))) set_size (λ k. set_bytes-long (f (k / byte_values) (k % byte_values))) (byte_values * s + c) (set_bytes v) (set_bytes-long v) (byte_values * n) (omega arith)
        ∙ stack_same (λ j. cond (eqb j (byte_values * s + c)) (set_bytes v) (set_bytes (f (j / byte_values) (j % byte_values))))
        (λ k. set_bytes (cond (eqb (k / byte_values) s && eqb (k % byte_values) c) v (f (k / byte_values) (k % byte_values)))) (byte_values * n) (λ k l. at k (ℕ_discrete k (byte_values * s + c)))
      where
        at : (k : ℕ) → Dec (k ≡ byte_values * s + c)
            → cond (eqb k (byte_values * s + c)) (set_bytes v) (set_bytes (f (k / byte_values) (k % byte_values))) ≡ set_bytes (cond (eqb (k / byte_values) s && eqb (k % byte_values) c) v (f (k / byte_values) (k % byte_values)))
        at k (yes e) = rw (eq-eqb k (byte_values * s + c) e, eq-eqb (k / byte_values) s (omega arith), eq-eqb (k % byte_values) c (omega arith))
        at k (no d) = rw (ne_eqb k (byte_values * s + c) d) (other (ℕ_discrete (k / byte_values) s) (ℕ_discrete (k % byte_values) c))
          where
            other : Dec (k / byte_values ≡ s) → Dec (k % byte_values ≡ c)
                → set_bytes (f (k / byte_values) (k % byte_values)) ≡ set_bytes (cond (eqb (k / byte_values) s && eqb (k % byte_values) c) v (f (k / byte_values) (k % byte_values)))
            other (yes p) (yes q) = absurd (d (omega arith))
            other (yes p) (no q) = rw (eq-eqb (k / byte_values) s p, ne_eqb (k % byte_values) c q)
            other (no p) x = rw (ne_eqb (k / byte_values) s p)

  -- all of them empty
  pub cells-empty : replicate (set_size * (byte_values * n)) 0 ≡ cells (λ s c. 0) n
  cells-empty = stack-none set_size (byte_values * n)
