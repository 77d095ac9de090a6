-- The words that a feed tells, read as pairs: which pairs stand there, in what order, and each once. For every engine. Assumes nothing.
use Prim.Native.Nat.{ℕ, zero, suc, ◌+◌, ◌*◌, ◌-◌, ◌≤◌, ◌<◌}
use mathlib.Core.Path.{◌≡◌, refl, sym, ap, ◌∙◌}
use mathlib.Core.Bool.{true}
use mathlib.Core.List.{List, [], ◌∷◌, ◌++◌}
use mathlib.Core.Logic.{◌⊎◌, inl, inr, ◌↔◌}
use native.Mathlib.Omega.{arith}
use native.Mathlib.Nat.{lt_of_not-le}
use native.Mathlib.Decide.{dec_lt}
use lib.ListN.{length, get_or, take, length-append, get_or-append}
use lib.Seq.{get_or-append-add}
use Rattle.sets.specs.Set.{signatures, holds}
use Rattle.feed.specs.Pairs.{Pair, Before}
use Rattle.feed.specs.Engine.{Engine, due, run, pairs_at, told}
use Rattle.feed.proofs.Runs.{pairs_at-length, due-rises, due-exactly}

-- a number is below another, or not
side : (i m : ℕ) → (i < m) ⊎ (m ≤ i)
side i m = elim (dec_lt i m) [ yes l ↦ inl l | no g ↦ inr (omega (arith, lt_of_not-le (λ (l : suc i ≤ m). g l))) ]

-- ---- the words of the pairs at one offset

-- the signature of the i-th pair, and its offset
pub pairs_at-signature : (k : ℕ) (gs : List ℕ) (i : ℕ) → i < length gs → get_or (pairs_at k gs) (2 * i) 0 ≡ get_or gs i 0
unfolding pairs_at
pairs_at-signature k [] i h = absurd (omega arith)
pairs_at-signature k (g ∷ gs) zero h = refl
pairs_at-signature k (g ∷ gs) (suc i) h =
    let e : 2 * suc i ≡ suc (suc (2 * i)) = omega arith in
    rw e (pairs_at-signature k gs i (omega arith))

pub pairs_at-offset : (k : ℕ) (gs : List ℕ) (i : ℕ) → i < length gs → get_or (pairs_at k gs) (2 * i + 1) 0 ≡ k
unfolding pairs_at
pairs_at-offset k [] i h = absurd (omega arith)
pairs_at-offset k (g ∷ gs) zero h = refl
pairs_at-offset k (g ∷ gs) (suc i) h =
    let e : 2 * suc i + 1 ≡ suc (suc (2 * i + 1)) = omega arith in
    rw e (pairs_at-offset k gs i (omega arith))

-- a pair stands there exactly when it has that offset, and its signature is of the list
pub pairs_at-exactly : (k : ℕ) (gs : List ℕ) (g o : ℕ)
    → Pair (pairs_at k gs) g o ↔ ((o ≡ k) × ((i : ℕ) × (i < length gs) × (get_or gs i 0 ≡ g)))
pairs_at-exactly k gs g o = (there, here)
  where
    there : Pair (pairs_at k gs) g o → (o ≡ k) × ((i : ℕ) × (i < length gs) × (get_or gs i 0 ≡ g))
    there p =
        let l : p.0 < length gs = omega (arith, pairs_at-length k gs) in
        (sym p.3 ∙ pairs_at-offset k gs p.0 l, (p.0, l, sym (pairs_at-signature k gs p.0 l) ∙ p.2))

    here : (o ≡ k) × ((i : ℕ) × (i < length gs) × (get_or gs i 0 ≡ g)) → Pair (pairs_at k gs) g o
    here q =
        let i = q.1.0 in
        let l = q.1.1 in
        (i, omega (arith, pairs_at-length k gs), pairs_at-signature k gs i l ∙ q.1.2, pairs_at-offset k gs i l ∙ sym q.0)

-- in order, where the signatures rise
pub pairs_at-ordered : (k : ℕ) (gs : List ℕ) → ((i j : ℕ) → i < j → j < length gs → get_or gs i 0 < get_or gs j 0)
    → (i j : ℕ) → i < j → 2 * j + 1 < length (pairs_at k gs) → Before (pairs_at k gs) i j
pairs_at-ordered k gs rise i j l h =
    let b : j < length gs = omega (arith, pairs_at-length k gs) in
    let a : i < length gs = omega arith in
    inr (
      pairs_at-offset k gs i a ∙ sym (pairs_at-offset k gs j b),
      rw (pairs_at-signature k gs i a, pairs_at-signature k gs j b) (rise i j l b),
    )

-- ---- one list of words after another, the first of m pairs

module _ (xs ys : List ℕ) (m : ℕ) (even : length xs ≡ 2 * m) where
  -- the pairs of the first stand where they stood, and those of the second m places on
  first_signature : (i : ℕ) → i < m → get_or (xs ++ ys) (2 * i) 0 ≡ get_or xs (2 * i) 0
  first_signature i h = get_or-append xs ys 0 (2 * i) (omega arith)

  first-offset : (i : ℕ) → i < m → get_or (xs ++ ys) (2 * i + 1) 0 ≡ get_or xs (2 * i + 1) 0
  first-offset i h = get_or-append xs ys 0 (2 * i + 1) (omega arith)

  later-signature : (i : ℕ) → get_or (xs ++ ys) (2 * (m + i)) 0 ≡ get_or ys (2 * i) 0
  later-signature i = let e : 2 * (m + i) ≡ length xs + 2 * i = omega arith in rw e (get_or-append-add xs ys (2 * i) 0)

  later-offset : (i : ℕ) → get_or (xs ++ ys) (2 * (m + i) + 1) 0 ≡ get_or ys (2 * i + 1) 0
  later-offset i = let e : 2 * (m + i) + 1 ≡ length xs + (2 * i + 1) = omega arith in rw e (get_or-append-add xs ys (2 * i + 1) 0)

  -- a pair stands in both together exactly when it stands in one of them
  pub pair-append : (g o : ℕ) → Pair (xs ++ ys) g o ↔ (Pair xs g o ⊎ Pair ys g o)
  pair-append g o = (λ p. apart p (side p.0 m), together)
    where
      apart : (p : Pair (xs ++ ys) g o) → (p.0 < m) ⊎ (m ≤ p.0) → Pair xs g o ⊎ Pair ys g o
      apart p (inl l) = inl (p.0, omega arith, sym (first_signature p.0 l) ∙ p.2, sym (first-offset p.0 l) ∙ p.3)
      apart p (inr l) =
          let e : p.0 ≡ m + (p.0 - m) = omega arith in
          let s : get_or (xs ++ ys) (2 * (m + (p.0 - m))) 0 ≡ g = ap (λ (i : ℕ). get_or (xs ++ ys) (2 * i) 0) (sym e) ∙ p.2 in
          let t : get_or (xs ++ ys) (2 * (m + (p.0 - m)) + 1) 0 ≡ o = ap (λ (i : ℕ). get_or (xs ++ ys) (2 * i + 1) 0) (sym e) ∙ p.3 in
          inr (p.0 - m, omega (arith, length-append xs ys), sym (later-signature (p.0 - m)) ∙ s, sym (later-offset (p.0 - m)) ∙ t)

      together : Pair xs g o ⊎ Pair ys g o → Pair (xs ++ ys) g o
      together (inl p) =
          let l : p.0 < m = omega arith in
          (p.0, omega (arith, length-append xs ys), first_signature p.0 l ∙ p.2, first-offset p.0 l ∙ p.3)
      together (inr p) = (m + p.0, omega (arith, length-append xs ys), later-signature p.0 ∙ p.2, later-offset p.0 ∙ p.3)

  -- where the pairs of each are in order, and each offset of the first is below each of the second, the pairs of both are in order
  pub before-append : ((i j : ℕ) → i < j → 2 * j + 1 < length xs → Before xs i j) → ((i j : ℕ) → i < j → 2 * j + 1 < length ys → Before ys i j)
      → ((i j : ℕ) → 2 * i + 1 < length xs → 2 * j + 1 < length ys → get_or xs (2 * i + 1) 0 < get_or ys (2 * j + 1) 0)
      → (i j : ℕ) → i < j → 2 * j + 1 < length (xs ++ ys) → Before (xs ++ ys) i j
  before-append f g s i j l h = go (side i m) (side j m)
    where
      moved : i < m → m ≤ j → (n : ℕ) → m + n ≡ j → Before (xs ++ ys) i j
      moved a b n e =
          rw (← e) (inl (rw (first-offset i a, later-offset n) (s i n (omega arith) (omega (arith, length-append xs ys)))))

      after : (p n : ℕ) → m + p ≡ i → m + n ≡ j → Before (xs ++ ys) i j
      after p n d e =
          rw (← d, ← e, later-offset p, later-offset n, later-signature p, later-signature n) (g p n (omega arith) (omega (arith, length-append xs ys)))

      go : (i < m) ⊎ (m ≤ i) → (j < m) ⊎ (m ≤ j) → Before (xs ++ ys) i j
      go (inl a) (inl b) = rw (first-offset i a, first-offset j b, first_signature i a, first_signature j b) (f i j l (omega arith))
      go (inl a) (inr b) = moved a b (j - m) (omega arith)
      go (inr a) (inl b) = absurd (omega arith)
      go (inr a) (inr b) = after (i - m) (j - m) (omega arith) (omega arith)

module _ {C : Type 0} (E : Engine C) where
  -- byte n moves the engine with signature g among its alerts, and o is the offset after it
  abbrev Alert : C → ℕ → List ℕ → ℕ → ℕ → Type 0
  Alert x k cs g o =
      (n : ℕ) × (n < length cs) × (o ≡ k + suc n) × (g < signatures) × (holds (E.alerts (run E x (take n cs)) (get_or cs n 0)) g ≡ true)

  -- a pair is told exactly when its offset is that after one of the bytes, and its signature is among the alerts of that byte's move
  pub told-exactly : (x : C) (k : ℕ) (cs : List ℕ) (g o : ℕ)
      → Pair (told E x k cs) g o
      ↔ ((n : ℕ) × (n < length cs) × (o ≡ k + suc n) × (g < signatures) × (holds (E.alerts (run E x (take n cs)) (get_or cs n 0)) g ≡ true))
  unfolding told run
  told-exactly x k [] g o = (λ p. absurd (omega arith), λ q. absurd (omega arith))
  told-exactly x k (c ∷ cs) g o =
      let ih = told-exactly (E.next x c) (k + 1) cs g o in
      (λ p. out ih.0 (both.0 p), λ q. both.1 (back ih.1 q.0 q.1 q.2 q.3 q.4))
    where
      gs : List ℕ
      gs = due E x c

      x' : C
      x' = E.next x c

      both : Pair (pairs_at (k + 1) gs ++ told E x' (k + 1) cs) g o ↔ (Pair (pairs_at (k + 1) gs) g o ⊎ Pair (told E x' (k + 1) cs) g o)
      both = pair-append (pairs_at (k + 1) gs) (told E x' (k + 1) cs) (length gs) (pairs_at-length (k + 1) gs) g o

      out : (Pair (told E x' (k + 1) cs) g o → Alert x' (k + 1) cs g o)
          → Pair (pairs_at (k + 1) gs) g o ⊎ Pair (told E x' (k + 1) cs) g o → Alert x k (c ∷ cs) g o
      out ih (inl p) =
          let q = (pairs_at-exactly (k + 1) gs g o).0 p in
          let d = (due-exactly E x c g).0 q.1 in
          (0, omega arith, omega arith, d.0, d.1)
      out ih (inr p) = let q = ih p in (suc q.0, omega arith, omega arith, q.3, q.4)

      back : (Alert x' (k + 1) cs g o → Pair (told E x' (k + 1) cs) g o) → (n : ℕ) → n < suc (length cs) → o ≡ k + suc n → g < signatures
          → holds (E.alerts (run E x (take n (c ∷ cs))) (get_or (c ∷ cs) n 0)) g ≡ true
          → Pair (pairs_at (k + 1) gs) g o ⊎ Pair (told E x' (k + 1) cs) g o
      back ih zero l e m h = inl ((pairs_at-exactly (k + 1) gs g o).1 (omega arith, (due-exactly E x c g).1 (m, h)))
      back ih (suc n) l e m h = inr (ih (n, omega arith, omega arith, m, h))

  -- each offset told is beyond the one at which the first byte is fed
  pub told-beyond : (x : C) (k : ℕ) (cs : List ℕ) (i : ℕ) → 2 * i + 1 < length (told E x k cs) → k < get_or (told E x k cs) (2 * i + 1) 0
  told-beyond x k cs i h =
      let q = (told-exactly x k cs (get_or (told E x k cs) (2 * i) 0) (get_or (told E x k cs) (2 * i + 1) 0)).0 (i, h, refl, refl) in
      omega (arith, q.2)

  -- the pairs are told by offset and then by signature, both rising
  pub told-ordered : (x : C) (k : ℕ) (cs : List ℕ) (i j : ℕ) → i < j → 2 * j + 1 < length (told E x k cs)
      → (get_or (told E x k cs) (2 * i + 1) 0 < get_or (told E x k cs) (2 * j + 1) 0)
      ⊎ ((get_or (told E x k cs) (2 * i + 1) 0 ≡ get_or (told E x k cs) (2 * j + 1) 0)
      × (get_or (told E x k cs) (2 * i) 0 < get_or (told E x k cs) (2 * j) 0))
  unfolding told
  told-ordered x k [] i j l h = absurd (omega arith)
  told-ordered x k (c ∷ cs) i j l h =
      before-append (pairs_at (k + 1) (due E x c)) (told E (E.next x c) (k + 1) cs) (length (due E x c)) (pairs_at-length (k + 1) (due E x c))
      (pairs_at-ordered (k + 1) (due E x c) (due-rises E x c)) (told-ordered (E.next x c) (k + 1) cs) seam i j l h
    where
      gs : List ℕ
      gs = due E x c

      seam : (i j : ℕ) → 2 * i + 1 < length (pairs_at (k + 1) gs) → 2 * j + 1 < length (told E (E.next x c) (k + 1) cs)
          → get_or (pairs_at (k + 1) gs) (2 * i + 1) 0 < get_or (told E (E.next x c) (k + 1) cs) (2 * j + 1) 0
      seam i j a b =
          let e = pairs_at-offset (k + 1) gs i (omega (arith, pairs_at-length (k + 1) gs)) in
          omega (arith, told-beyond (E.next x c) (k + 1) cs j b)

  -- no pair is told twice: two places with one signature and one offset are one place
  pub told-once : (x : C) (k : ℕ) (cs : List ℕ) (i j : ℕ) → 2 * i + 1 < length (told E x k cs) → 2 * j + 1 < length (told E x k cs)
      → get_or (told E x k cs) (2 * i) 0 ≡ get_or (told E x k cs) (2 * j) 0
      → get_or (told E x k cs) (2 * i + 1) 0 ≡ get_or (told E x k cs) (2 * j + 1) 0
      → i ≡ j
  told-once x k cs i j a b s o = go (side i j) (side j i)
    where
      never : Before (told E x k cs) i j ⊎ Before (told E x k cs) j i → ⊥
      never (inl (inl l)) = omega arith
      never (inl (inr l)) = omega arith
      never (inr (inl l)) = omega arith
      never (inr (inr l)) = omega arith

      go : (i < j) ⊎ (j ≤ i) → (j < i) ⊎ (i ≤ j) → i ≡ j
      go (inl l) t = absurd (never (inl (told-ordered x k cs i j l b)))
      go (inr l) (inl m) = absurd (never (inr (told-ordered x k cs j i m a)))
      go (inr l) (inr m) = omega arith
