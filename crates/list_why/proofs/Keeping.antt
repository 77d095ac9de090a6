-- The frontiers as they are written to the work place, and read from it again. Assumes nothing.
use Prim.Native.Nat.{ℕ, suc, ◌+◌, ◌*◌, ◌≤◌, ◌<◌, ◌^◌}
use mathlib.Core.Path.{◌≡◌, ap, ◌∙◌}
use mathlib.Core.List.{List, ◌++◌}
use native.Mathlib.Omega.{arith}
use native.Mathlib.Nat.{mul-suc, mul-le-mul_left}
use lib.ListN.{length, drop, length-drop}
use lib.Seq.{drop-append-le, take-append-le}
use Rattle.numbers.specs.Number.{placed}
use Rattle.sets.specs.Set.{states, set_size, set_bytes, set_at, read_at}
use Rattle.numbers.proofs.Laws.{length_digits, num-digits}
use Rattle.numbers.proofs.Placing.{placed-after, placed-fits}
use Rattle.rules.specs.Scan.{stack}
use Rattle.rules.proofs.Stacks.{stack-length, stack-entry}
use Rattle.list_why.specs.Reason.{front, fronts}
use Rattle.list_why.proofs.Traces.{front-none, front-lt}

-- sets one after the other are as many bytes as they have
pub sets-length : (f : ℕ → ℕ) (n : ℕ) → length (stack (λ i. set_bytes (f i)) n) ≡ set_size * n
sets-length f n = stack-length (λ i. set_bytes (f i)) set_size (λ i. length_digits 8 set_size (f i)) n

-- none are written
pub kept-none : (f : ℕ → ℕ) (W : List ℕ) → W ≡ placed W 0 (stack (λ i. set_bytes (f i)) 0)
unfolding stack
kept-none f W = Rattle.numbers.proofs.Placing.placed-none W 0 (omega arith)

-- one more is written behind those that are
pub kept_more : (f : ℕ → ℕ) (W : List ℕ) (n x : ℕ) → x ≡ f n → set_size * suc n ≤ length W
    → placed (placed W 0 (stack (λ i. set_bytes (f i)) n)) (set_size * n) (set_bytes x) ≡ placed W 0 (stack (λ i. set_bytes (f i)) (suc n))
unfolding stack
kept_more f W n x e l =
    rw e (placed-after W 0 (stack (λ i. set_bytes (f i)) n) (set_bytes (f n)) (set_size * n)
    (omega (arith, sets-length f n)) (omega (arith, length_digits 8 set_size (f n), mul-suc set_size n)))

-- so a loop writes them
pub kept_on : (f : ℕ → ℕ) (W X Y : List ℕ) (n x : ℕ) → X ≡ placed W 0 (stack (λ i. set_bytes (f i)) n) → Y ≡ placed X (set_size * n) (set_bytes x) → x ≡ f n
    → set_size * suc n ≤ length W → Y ≡ placed W 0 (stack (λ i. set_bytes (f i)) (suc n))
kept_on f W X Y n x v w e l = w ∙ ap (λ (Z : List ℕ). placed Z (set_size * n) (set_bytes x)) v ∙ kept_more f W n x e l

-- all of them stand at the front, and what is behind stays
pub kept-all : (f : ℕ → ℕ) (W : List ℕ) (n : ℕ) → set_size * n ≤ length W
    → placed W 0 (stack (λ i. set_bytes (f i)) n) ≡ stack (λ i. set_bytes (f i)) n ++ drop (set_size * n) W
kept-all f W n l =
    let e = sets-length f n in
    let k : 0 + length (stack (λ i. set_bytes (f i)) n) ≡ set_size * n = omega arith in
    placed-fits W 0 (stack (λ i. set_bytes (f i)) n) (omega arith) ∙ ap (λ (m : ℕ). stack (λ i. set_bytes (f i)) n ++ drop m W) k

-- and each is read again
pub kept_at : (f : ℕ → ℕ) (W : List ℕ) (n i : ℕ) → set_size * n ≤ length W → i < n → f i < 2 ^ states
    → set_at (placed W 0 (stack (λ i. set_bytes (f i)) n)) (set_size * i) ≡ f i
unfolding read_at
kept_at f W n i l h s =
    let e = sets-length f n in
    let m = mul-le-mul_left {m = suc i} {n = n} set_size h in
    rw (
      kept-all f W n l,
      drop-append-le (set_size * i) (stack (λ i. set_bytes (f i)) n) (drop (set_size * n) W) (omega (arith, mul-suc set_size i)),
      take-append-le set_size (drop (set_size * i) (stack (λ i. set_bytes (f i)) n)) (drop (set_size * n) W) (rw length-drop (omega (arith, mul-suc set_size i))),
      stack-entry (λ i. set_bytes (f i)) set_size (λ i. length_digits 8 set_size (f i)) n i h,
    )
    (num-digits 8 set_size (f i) s)

-- so they are the frontiers of the set that stands first
pub kept-fronts : (L : List ℕ) (F : ℕ) (bs W X : List ℕ) (n : ℕ) → n ≤ length bs → F < 2 ^ states → set_size * suc n ≤ length W → X ≡ placed W 0 (fronts L F bs n)
    → (set_at X 0 ≡ F) × ((i : ℕ) → i ≤ n → set_at X (set_size * i) ≡ front L (set_at X 0) bs i)
kept-fronts L F bs W X n k small l e = (zeroth, λ i h. rw (zeroth) (at i h))
  where
    at : (i : ℕ) → i ≤ n → set_at X (set_size * i) ≡ front L F bs i
    at i h = rw e (kept_at (front L F bs) W (suc n) i l (omega arith) (front-lt L F bs small i (omega arith)))

    zeroth : set_at X 0 ≡ F
    zeroth = at 0 (omega arith) ∙ front-none L F bs
