-- The step word by word: the union over the words so far, and the ones in them. Assumes nothing.
use Prim.Native.Nat.{ℕ, ◌+◌, ◌*◌, ◌^◌, ◌≤◌, ◌<◌}
use mathlib.Core.Path.{◌≡◌, sym, ap, ◌∙◌}
use mathlib.Core.List.{List}
use native.Mathlib.Omega.{arith}
use native.Mathlib.Nat.{mod-eq_of_lt, lt_of_lt_of_le}
use native.Mathlib.Numerals.{add-one}
use lib.ListN.{get_or, take, replicate}
use lib.Bits.{or_shifted_r}
use lib.Pow.{pow_mono}
use lib.Count.{ones}
use Rattle.numbers.specs.Number.{num}
use Rattle.sets.specs.Set.{set_words, set_size, states, join, size, set_at, read_at}
use Rattle.numbers.proofs.Laws.{Small, num-take, num-take-lt, num-low, num-zeros, ones-in}
use Rattle.sets.proofs.Words.{count_none, count-more}
use Rattle.matrix.specs.Matrix.{union_over}
use Rattle.matrix.proofs.Unions.{union-join, union-none}

-- what the loop has at word i: the union over the words before it, and the ones in them
pub record Walks (f : ℕ → ℕ) (n : ℕ) (ws : List ℕ) (i all rows : ℕ) : Type 0 where
  pub joins : all ≡ union_over f (num 64 (take i ws)) n
  pub counts : rows ≡ size (64 * i) (num 64 (take i ws))

pub walks-none : (f : ℕ → ℕ) (n : ℕ) (ws : List ℕ) (all : ℕ) → all ≡ 0 → Walks f n ws 0 all 0
unfolding num
walks-none f n ws all e = record { joins = e ∙ sym (union-none f n); counts = count_none ws }

module _ {f : ℕ → ℕ} {n : ℕ} {ws : List ℕ} {i all rows : ℕ} (h : Walks f n ws i all rows) (small : Small 64 ws) where
  -- one word more is joined to the words before it
  word-joined : num 64 (take (i + 1) ws) ≡ join (num 64 (take i ws)) (get_or ws i 0 * 2 ^ (64 * i))
  unfolding join
  word-joined =
      rw (add-one i) (num-take 64 ws i ∙ sym (or_shifted_r (get_or ws i 0) (64 * i) (num 64 (take i ws)) (num-take-lt 64 ws small i)))

  pub walks_more : (all' rows' : ℕ) → all' ≡ join all (union_over f (get_or ws i 0 * 2 ^ (64 * i)) n) → rows' ≡ rows + ones (get_or ws i 0) → Walks f n ws (i + 1) all' rows'
  walks_more all' rows' a r =
      record {
        joins = a ∙ ap (λ (x : ℕ). join x (union_over f (get_or ws i 0 * 2 ^ (64 * i)) n)) h.joins ∙ sym (rw word-joined (union-join f (num 64 (take i ws)) (get_or ws i 0 * 2 ^ (64 * i)) n));
        counts = r ∙ ap (λ (x : ℕ). x + ones (get_or ws i 0)) h.counts ∙ count-more ws i small;
      }

  -- where no state stands past these words, that is all
  pub walks-all : num 64 ws < 2 ^ (64 * i) → i ≤ set_words → (all ≡ union_over f (num 64 ws) n) × (rows ≡ size states (num 64 ws))
  unfolding size
  walks-all l w =
      let e : num 64 (take i ws) ≡ num 64 ws = sym (num-low 64 i ws small) ∙ mod-eq_of_lt l in
      let up : num 64 ws < 2 ^ states = lt_of_lt_of_le l (pow_mono {i = 64 * i} {j = states} (omega arith)) in
      (h.joins ∙ ap (λ (F : ℕ). union_over f F n) e, h.counts ∙ ap (λ (F : ℕ). size (64 * i) F) e ∙ ones-in (64 * i) (num 64 ws) l ∙ sym (ones-in states (num 64 ws) up))

-- the set of no bytes but zeros is empty
pub zero-set : set_at (replicate set_size 0) 0 ≡ 0
unfolding read_at
zero-set = num-zeros 8 set_size
