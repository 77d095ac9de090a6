-- Entries of one length that are picked: each stands behind those picked before it, and nothing else stands there; counting rises. Assumes nothing.
use Prim.Native.Nat.{ℕ, zero, suc, ◌+◌, ◌-◌, ◌*◌, ◌≤◌, ◌<◌}
use mathlib.Core.Path.{◌≡◌, refl, sym, ◌∙◌}
use mathlib.Core.Bool.{Bool, true, false}
use mathlib.Core.List.{List, ◌++◌, append-nil}
use native.Mathlib.Omega.{arith}
use native.Mathlib.Nat.{mul-suc, mul-le-mul_left}
use native.Mathlib.Decide.{dec_lt}
use lib.ListN.{length, get_or, length-append, get_or-append}
use lib.Seq.{get_or-append-add}
use Rattle.rules.specs.Scan.{stack}
use Rattle.rules.proofs.Scanning.{below_suc, choose}
use Rattle.list_fold.specs.Fold.{counted, picked}

module _ (p : ℕ → Bool) where
  pub counted-in : (i : ℕ) → p i ≡ true → counted p (suc i) ≡ suc (counted p i)
  unfolding counted
  counted-in i e = rw e

  pub counted-out : (i : ℕ) → p i ≡ false → counted p (suc i) ≡ counted p i
  unfolding counted
  counted-out i e = rw e

  pub counted-most : (n : ℕ) → counted p n ≤ n
  unfolding counted
  counted-most zero = omega arith
  counted-most (suc n) = go (p n) refl (counted-most n)
    where
      go : (b : Bool) → p n ≡ b → counted p n ≤ n → counted p (suc n) ≤ suc n
      go true e ih = rw (counted-in n e) (omega arith)
      go false e ih = rw (counted-out n e) (omega arith)

  counted_step : (i : ℕ) → counted p i ≤ counted p (suc i)
  counted_step i = go (p i) refl
    where
      go : (b : Bool) → p i ≡ b → counted p i ≤ counted p (suc i)
      go true e = rw (counted-in i e) (omega arith)
      go false e = rw (counted-out i e) (omega arith)

  counted-far : (d i : ℕ) → counted p i ≤ counted p (d + i)
  counted-far zero i = let e : zero + i ≡ i = omega arith in rw e (omega arith)
  counted-far (suc d) i = let e : suc d + i ≡ suc (d + i) = omega arith in rw e (omega (arith, counted-far d i, counted_step (d + i)))

  pub counted-mono : (i n : ℕ) → i ≤ n → counted p i ≤ counted p n
  counted-mono i n h = let e : (n - i) + i ≡ n = omega arith in rw e at (counted-far (n - i) i)

  -- no two numbers of which p holds are counted alike
  counted-less : (i j : ℕ) → p i ≡ true → i < j → counted p i < counted p j
  counted-less i j e l = omega (arith, counted-in i e, counted-mono (suc i) j l)

  pub counted-one : (i j : ℕ) → p i ≡ true → p j ≡ true → counted p i ≡ counted p j → i ≡ j
  counted-one i j e f q =
      elim (dec_lt i j) [
        | yes l ↦ absurd (omega (arith, counted-less i j e l))
        | no g ↦ elim (dec_lt j i) [ yes l ↦ absurd (omega (arith, counted-less j i f l)) | no h ↦ omega arith ]
      ]

module _ (p : ℕ → Bool) (f : ℕ → List ℕ) where
  pub picked-in : (i : ℕ) → p i ≡ true → picked p f (suc i) ≡ picked p f i ++ f i
  unfolding stack
  picked-in i e = rw e

  pub picked-out : (i : ℕ) → p i ≡ false → picked p f (suc i) ≡ picked p f i
  unfolding stack
  picked-out i e = rw e (append-nil (picked p f i))

module _ (p : ℕ → Bool) (f : ℕ → List ℕ) (w : ℕ) (l : (i : ℕ) → length (f i) ≡ w) where
  pub picked-length : (n : ℕ) → length (picked p f n) ≡ w * counted p n
  unfolding stack counted
  picked-length zero = omega arith
  picked-length (suc n) = go (p n) refl (picked-length n)
    where
      go : (b : Bool) → p n ≡ b → length (picked p f n) ≡ w * counted p n → length (picked p f (suc n)) ≡ w * counted p (suc n)
      go true e ih = rw (picked-in p f n e, counted-in p n e, length-append) (omega (arith, ih, l n, mul-suc w (counted p n)))
      go false e ih = rw (picked-out p f n e, counted-out p n e) ih

  -- entry i stands behind those picked before it
  abbrev At : ℕ → ℕ → Type 0
  At n i = (counted p i < counted p n) × ((k : ℕ) → k < w → get_or (picked p f n) (w * counted p i + k) 0 ≡ get_or (f i) k 0)

  pub picked-at : (n i : ℕ) → i < n → p i ≡ true → At n i
  picked-at zero i h e = absurd (omega arith)
  picked-at (suc n) i h e = choose (below_suc i n h) (λ q. go (p n) refl (picked-at n i q e)) (λ q. last i q e)
    where
      go : (b : Bool) → p n ≡ b → At n i → At (suc n) i
      go false q ih = rw (picked-out p f n q, counted-out p n q) ih
      go true q ih =
          rw (picked-in p f n q, counted-in p n q) (
            omega (arith, ih.0),
            λ k m.
                get_or-append (picked p f n) (f n) 0 (w * counted p i + k) (omega (arith, picked-length n, ih.0, m, mul-suc w (counted p i), mul-le-mul_left {m = suc (counted p i)} {n = counted p n} w (omega (arith, ih.0)))) ∙ ih.1 k m,
          )

      last : (j : ℕ) → j ≡ n → p j ≡ true → At (suc n) j
      last j q g =
          rw q (rw (picked-in p f n (rw q at g), counted-in p n (rw q at g)) (
            omega arith,
            λ k m. rw (← picked-length n) (get_or-append-add (picked p f n) (f n) k 0),
          ))

  -- and at each place one of them stands
  pub picked-from : (n j : ℕ) → j < counted p n → (i : ℕ) × (i < n) × (p i ≡ true) × (counted p i ≡ j)
  unfolding counted
  picked-from zero j h = absurd (omega arith)
  picked-from (suc n) j h = go (p n) refl (picked-from n j)
    where
      Found : Type 0
      Found = (i : ℕ) × (i < suc n) × (p i ≡ true) × (counted p i ≡ j)

      more : (i : ℕ) × (i < n) × (p i ≡ true) × (counted p i ≡ j) → Found
      more v = (v.0, omega (arith, v.1), v.2, v.3)

      go : (b : Bool) → p n ≡ b → (j < counted p n → (i : ℕ) × (i < n) × (p i ≡ true) × (counted p i ≡ j)) → Found
      go false q ih = more (ih (rw (counted-out p n q) at h))
      go true q ih =
          choose (below_suc j (counted p n) (rw (counted-in p n q) at h))
          (λ d. more (ih d))
          (λ e. (n, omega arith, q, sym e))
