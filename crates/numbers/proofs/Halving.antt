-- A search by halving among strings that rise: what its loop keeps, how a comparison leads on, and that none is the one sought where none is
-- left. It is one law over the strings g 0, g 1, .., their number and the string K that is sought. Assumes nothing.
use Prim.Native.Nat.{ℕ, suc, ◌+◌, ◌≤◌, ◌<◌}
use mathlib.Core.Path.{◌≡◌, sym, ap, ◌∙◌}
use mathlib.Core.Bool.{true, true≢false}
use mathlib.Core.List.{List}
use native.Mathlib.Omega.{arith}
use native.Mathlib.Nat.{lt_of_not-le}
use native.Mathlib.Decide.{dec_lt, ℕ_discrete}
use lib.ListN.{length}
use Rattle.std.specs.declared.cmp.Ordering.TheVariants.{Less, Equal}
use Rattle.numbers.specs.Number.{before, compare}
use Rattle.numbers.proofs.Order.{before-irrefl, before-trans, compare-exactly, compare-rest}

-- the first n of them rise
abbrev pub Rising : (ℕ → List ℕ) → ℕ → Type 0
Rising g n = (i j : ℕ) → i < j → j < n → before (g i) (g j) ≡ true

-- every one below lo comes before K, and K before every one from hi on
pub record Between (g : ℕ → List ℕ) (n : ℕ) (K : List ℕ) (lo hi : ℕ) : Type 0 where
  pub order : lo ≤ hi
  pub most : hi ≤ n
  pub below : (i : ℕ) → i < lo → before (g i) K ≡ true
  pub above : (i : ℕ) → hi ≤ i → i < n → before K (g i) ≡ true

pub between_start : (g : ℕ → List ℕ) (n : ℕ) (K : List ℕ) (k : ℕ) → k ≡ n → Between g n K 0 k
between_start g n K k e =
    record { order = omega arith; most = omega arith; below = λ i h. absurd (omega arith); above = λ i h l. absurd (omega arith) }

module _ (g : ℕ → List ℕ) (n : ℕ) (r : Rising g n) (K : List ℕ) (lo hi m : ℕ) (b : Between g n K lo hi) (l : lo ≤ m) (h : m < hi) where
  between-right : before (g m) K ≡ true → Between g n K (m + 1) hi
  between-right q =
      record {
        order = omega arith;
        most = b.most;
        below = λ i k. elim (ℕ_discrete i m) [
          | yes e ↦ rw e q
          | no ne ↦ before-trans (g i) (g m) K (r i m (omega (arith, ne)) (omega (arith, b.most))) q
        ];
        above = b.above;
      }

  between_left : before K (g m) ≡ true → Between g n K lo m
  between_left q =
      record {
        order = l;
        most = omega (arith, b.most);
        below = b.below;
        above = λ i k t. elim (ℕ_discrete i m) [
          | yes e ↦ rw e q
          | no ne ↦ before-trans K (g m) (g i) q (r m i (omega (arith, ne)) t)
        ];
      }

  -- the comparison with the one in the middle leads on, where it is not K
  module _ (long : length (g m) ≡ length K) where
    pub compared-right : compare (g m) K ≡ Less → Between g n K (m + 1) hi
    compared-right e = between-right ((compare-exactly (g m) K long).1.0 e)

    pub compared-left : (compare (g m) K ≡ Equal → ⊥) → (compare (g m) K ≡ Less → ⊥) → Between g n K lo m
    compared-left z o = between_left (compare-rest (g m) K long z o)

-- a string that comes before another is another
pub before-other : (a b : List ℕ) → before a b ≡ true → a ≡ b → ⊥
before-other a b e q = true≢false (sym e ∙ ap (λ (x : List ℕ). before x b) q ∙ before-irrefl b)

-- where none is left between them, none is K
pub between-other : (g : ℕ → List ℕ) (n : ℕ) (K : List ℕ) (lo hi : ℕ) → Between g n K lo hi → hi ≤ lo → (i : ℕ) → i < n → g i ≡ K → ⊥
between-other g n K lo hi b e i h q =
    elim (dec_lt i lo) [
      | yes l ↦ before-other (g i) K (b.below i l) q
      | no ne ↦ before-other K (g i) (b.above i (omega (arith, lt_of_not-le (λ (l : suc i ≤ lo). ne l))) h) (sym q)
    ]
