-- Blocks written one behind the other, and a list that begins with them. Assumes nothing.
use Prim.Native.Nat.{ℕ, zero, suc, ◌+◌, ◌*◌, ◌≤◌, ◌<◌}
use mathlib.Core.Path.{◌≡◌, ◌∙◌}
use mathlib.Core.List.{List}
use native.Mathlib.Omega.{arith}
use native.Mathlib.Nat.{mul-le-mul_left, mul-suc}
use lib.ListN.{length, take, drop}
use lib.Seq.{take-add}
use Rattle.numbers.specs.Number.{placed}
use Rattle.rules.specs.Scan.{stack}
use Rattle.rules.proofs.Scanning.{below_suc, choose}
use Rattle.table_classes.proofs.Fronts.{placed-here, placed-before}
use Rattle.table_build.specs.inner.Loops.{Laid}

-- an entry written behind others
pub stack-behind : (b : List ℕ) (k n : ℕ) (xs : List ℕ) → length xs ≡ k → k * n + k ≤ length b
    → (i : ℕ) → i < n → take k (drop (k * i) (placed b (k * n) xs)) ≡ take k (drop (k * i) b)
stack-behind b k n xs e h i l =
    let u : k * suc i ≤ k * n = mul-le-mul_left k l in
    let s : k * suc i ≡ k * i + k = mul-suc k i in
    placed-before b (k * n) xs k e h k (k * i) (omega arith)

pub laid_none : (f : ℕ → List ℕ) (k : ℕ) (b : List ℕ) → Laid f k 0 b
laid_none f k b i h = absurd (omega arith)

pub laid_more : (f : ℕ → List ℕ) (k n : ℕ) (b xs : List ℕ) → length xs ≡ k → k * n + k ≤ length b → xs ≡ f n → Laid f k n b → Laid f k (n + 1) (placed b (k * n) xs)
laid_more f k n b xs e h q g i l =
    choose (below_suc i n (omega arith))
    (λ a. stack-behind b k n xs e h i a ∙ g i a)
    (λ a. rw a (placed-here b (k * n) xs k e h ∙ q))

-- a list whose places hold the entries begins with them
pub stack-front : (f : ℕ → List ℕ) (k m : ℕ) (b : List ℕ) → Laid f k m b → take (k * m) b ≡ stack f m
unfolding stack
stack-front f k zero b h = let e : k * 0 ≡ 0 = omega arith in rw e
stack-front f k (suc m) b h =
    rw (mul-suc k m, take-add (k * m) k b, stack-front f k m b (λ i l. h i (omega arith)), h m (omega arith))
