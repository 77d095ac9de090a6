-- Entries of one length, one after the other: how many elements, one entry read again, and one written anew. Assumes nothing.
use Prim.Native.Nat.{ℕ, zero, suc, ◌+◌, ◌*◌, ◌≤◌, ◌<◌}
use mathlib.Core.Path.{◌≡◌, refl, sym, ap, ap₂, ◌∙◌}
use mathlib.Core.Bool.{cond}
use mathlib.Core.List.{List, [], ◌++◌, append_assoc, append-nil}
use native.Mathlib.Omega.{arith}
use native.Mathlib.Nat.{mul-suc, mul-le-mul_left}
use lib.ListN.{length, get_or, take, drop, length-append, length-drop, get_or-append}
use lib.Seq.{drop-append-le, take-append-le, take_at, drop_at, drop-drop, drop-length, get_or-drop}
use lib.Dec.{eqb}
use borrow.Author.Tests.{eq-eqb, ne_eqb}
use Rattle.numbers.specs.Number.{placed}
use Rattle.numbers.proofs.Placing.{placed-fits}
use Rattle.rules.specs.Scan.{stack}
use Rattle.rules.proofs.Scanning.{below_suc, choose}

pub stack_same : (f g : ℕ → List ℕ) (n : ℕ) → ((i : ℕ) → i < n → f i ≡ g i) → stack f n ≡ stack g n
unfolding stack
stack_same f g zero h = refl
stack_same f g (suc n) h = ap₂ (λ (xs ys : List ℕ). xs ++ ys) (stack_same f g n (λ i l. h i (omega arith))) (h n (omega arith))

module _ (f : ℕ → List ℕ) (w : ℕ) (l : (i : ℕ) → length (f i) ≡ w) where
  pub stack-length : (n : ℕ) → length (stack f n) ≡ w * n
  unfolding stack
  stack-length zero = omega arith
  stack-length (suc n) = omega (arith, length-append (stack f n) (f n), stack-length n, l n, mul-suc w n)

  -- the list from entry i on begins with that entry
  rest_of : (n i : ℕ) → i < n → (rest : List ℕ) × (drop (w * i) (stack f n) ≡ f i ++ rest)
  unfolding stack
  rest_of zero i h = absurd (omega arith)
  rest_of (suc n) i h =
      choose (below_suc i n h)
      (λ k. earlier (rest_of n i k) (omega (arith, stack-length n, mul-le-mul_left {m = i} {n = n} w (omega arith))))
      (λ e. ([], rw e (drop_at (stack f n) (f n) (w * n) (stack-length n) ∙ sym (append-nil (f n)))))
    where
      earlier : (rest : List ℕ) × (drop (w * i) (stack f n) ≡ f i ++ rest) → w * i ≤ length (stack f n) → (rest : List ℕ) × (drop (w * i) (stack f n ++ f n) ≡ f i ++ rest)
      earlier r k = (r.0 ++ f n, drop-append-le (w * i) (stack f n) (f n) k ∙ ap (λ (xs : List ℕ). xs ++ f n) r.1 ∙ append_assoc (f i) r.0 (f n))

  module _ (n i : ℕ) (h : i < n) where
    -- entry i
    pub stack-entry : take w (drop (w * i) (stack f n)) ≡ f i
    stack-entry = let r = rest_of n i h in ap (take w) r.1 ∙ take_at (f i) r.0 w (l i)

    -- element j of entry i
    pub stack_at : (j : ℕ) → j < w → get_or (stack f n) (w * i + j) 0 ≡ get_or (f i) j 0
    stack_at j k =
        let r = rest_of n i h in
        sym (get_or-drop (w * i) (stack f n) j 0) ∙ ap (λ (xs : List ℕ). get_or xs j 0) r.1 ∙ get_or-append (f i) r.0 0 j (omega (arith, l i))

    -- m elements of entry i, from j on
    pub stack-part : (j m : ℕ) → j + m ≤ w → take m (drop (w * i + j) (stack f n)) ≡ take m (drop j (f i))
    stack-part j m k =
        let r = rest_of n i h in
        ap (take m) (sym (drop-drop j (w * i) (stack f n)) ∙ ap (drop j) r.1 ∙ drop-append-le j (f i) r.0 (omega (arith, l i)))
        ∙ take-append-le m (drop j (f i)) r.0 (rw length-drop (omega (arith, l i)))

  -- entry i written anew
  pub stack-put : (i : ℕ) (ys : List ℕ) → length ys ≡ w → (n : ℕ) → i < n → placed (stack f n) (w * i) ys ≡ stack (λ j. cond (eqb j i) ys (f j)) n
  unfolding stack
  stack-put i ys q zero h = absurd (omega arith)
  stack-put i ys q (suc n) h = choose (below_suc i n h) (λ k. early k (stack-put i ys q n k)) last
    where
      early : i < n → placed (stack f n) (w * i) ys ≡ stack (λ j. cond (eqb j i) ys (f j)) n
          → placed (stack f n ++ f n) (w * i) ys ≡ stack (λ j. cond (eqb j i) ys (f j)) n ++ cond (eqb n i) ys (f n)
      early k ih =
          let m = mul-le-mul_left {m = suc i} {n = n} w (omega arith) in
          let b : w * i + length ys ≤ length (stack f n) = omega (arith, stack-length n, mul-suc w i, m) in
          let c : w * i + length ys ≤ length (stack f n ++ f n) = rw length-append (omega arith) in
          placed-fits (stack f n ++ f n) (w * i) ys c
          ∙ rw (take-append-le (w * i) (stack f n) (f n) (omega arith), drop-append-le (w * i + length ys) (stack f n) (f n) b, ne_eqb n i (λ e. omega arith))
          (sym (append_assoc (take (w * i) (stack f n) ++ ys) (drop (w * i + length ys) (stack f n)) (f n)) ∙ ap (λ (xs : List ℕ). xs ++ f n) (sym (placed-fits (stack f n) (w * i) ys b) ∙ ih))

      last : i ≡ n → placed (stack f n ++ f n) (w * i) ys ≡ stack (λ j. cond (eqb j i) ys (f j)) n ++ cond (eqb n i) ys (f n)
      last e =
          let a : w * i ≡ length (stack f n) = rw e (sym (stack-length n)) in
          let t : w * i + length ys ≡ length (stack f n ++ f n) = rw length-append (omega (arith, l n)) in
          placed-fits (stack f n ++ f n) (w * i) ys (omega arith)
          ∙ rw (t, drop-length (stack f n ++ f n), append-nil (take (w * i) (stack f n ++ f n) ++ ys), take_at (stack f n) (f n) (w * i) (sym a), eq-eqb n i (sym e))
          (ap (λ (xs : List ℕ). xs ++ ys) (stack_same f (λ j. cond (eqb j i) ys (f j)) n (λ j k. rw (ne_eqb j i (λ d. omega arith)))))
