-- The bit matrix: a stored set for each state up to the highest that the list names, and each byte; how it moves a frontier, what the filler writes, and the rules.
use Rattle.std.specs.Prelude.{ℕ, zero, suc, ◌+◌, ◌*◌, ◌/◌, ◌%◌, ◌^◌, Bool, false, not, cond, List, [], ◌∷◌, ◌++◌, ◌≡◌, length, eqb}
pub use Rattle.numbers.specs.Number.{byte_values}
use Rattle.sets.specs.Set.{states, set_size, holds, join, size, set_bytes, set_at}
use Rattle.rules.specs.Scan.{stack}
use Rattle.rules.specs.Rules.{Rule, verdict}
use Rattle.list.specs.List.{list_rules}
use Rattle.list.specs.Automaton.{step, accepted, highest}
use Rattle.feed.specs.Engine.{Engine, Outcome, feed}
use Rattle.list_flow.specs.Flow.{flow_layout, feed_rules}

-- ---- its size

-- a set for each state up to the highest, and each byte
abbrev pub matrix_length : List ℕ → ℕ
matrix_length L = set_size * (byte_values * suc (highest L))

-- ---- what it stores, and how that moves a frontier

-- the place of the set of state s and byte c: its index is s × 256 + c
abbrev pub cell_at : ℕ → ℕ → ℕ
cell_at s c = set_size * (byte_values * s + c)

-- the set
unfoldable pub cell : List ℕ → ℕ → ℕ → ℕ
cell X s c = set_at X (cell_at s c)

-- the union of the sets f s, for each s below n that F holds
unfoldable pub union_over : (ℕ → ℕ) → ℕ → ℕ → ℕ
union_over f F zero = 0
union_over f F (suc n) = cond (holds F n) (join (union_over f F n) (f n)) (union_over f F n)

-- the next frontier: the stored sets of the states of F on byte c, joined; a state past the highest adds nothing
abbrev pub matrix_step : List ℕ → List ℕ → ℕ → ℕ → ℕ
matrix_step L X F c = union_over (λ s. cell X s c) F (suc (highest L))

-- pairs follow from the list's accept records; a byte costs as many rows as the frontier before it has states, and nothing halts
abbrev pub matrixed : List ℕ → List ℕ → Engine ℕ
matrixed L X =
    record {
      next = matrix_step L X;
      alerts = λ F c. accepted L (matrix_step L X F c);
      cost = size states;
      halts = λ F. false;
    }

-- ---- what the filler writes

-- the bytes of the sets f s c, for each state s below n and each byte c, in the order of their indexes
abbrev pub cells : (ℕ → ℕ → ℕ) → ℕ → List ℕ
cells f n = stack (λ k. set_bytes (f (k / byte_values) (k % byte_values))) (byte_values * n)

-- for each state up to the highest and each byte, the states that the list leads to from that state alone
abbrev pub filled : List ℕ → List ℕ
filled L = cells (λ s c. step L (2 ^ s) c) (suc (highest L))

-- ---- the rules

-- 8: not the size of the list's matrix
abbrev pub wrong_matrix : List ℕ → List ℕ → Bool
wrong_matrix L X = not (eqb (length X) (matrix_length L))

-- the filler: 1 to 3, then 8
abbrev pub fill_rules : List ℕ → List ℕ → List Rule
fill_rules L X = list_rules L ++ ((8, wrong_matrix L X) ∷ [])

-- the code answers `refusal` and leaves the bytes `left`: a refusal leaves X, else they are the list's matrix
pub record Fills (L X : List ℕ) (refusal : ℕ) (left : List ℕ) : Type 0 where
  pub refuses : refusal ≡ verdict (fill_rules L X)
  pub wrote : left ≡ cond (eqb (verdict (fill_rules L X)) 0) (filled L) X

-- the matrix feed: 1 to 6, then 8, then the longest front of the piece
abbrev pub matrix_rules : List ℕ → List ℕ → List ℕ → ℕ → List ℕ → List Rule
matrix_rules L X R at piece = feed_rules L R at piece ++ ((8, wrong_matrix L X) ∷ [])

abbrev pub matrix_feed : List ℕ → List ℕ → List ℕ → ℕ → List ℕ → List ℕ → Outcome
matrix_feed L X R at piece out = feed (matrix_rules L X R at piece) (matrixed L X) flow_layout R piece out
