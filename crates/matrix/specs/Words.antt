-- The matrix in words: what the filler writes, byte by byte; and what a byte does, whatever bytes stand in the matrix's place.
use Rattle.std.specs.Prelude.{ℕ, suc, ◌+◌, ◌*◌, ◌≤◌, ◌<◌, ◌≡◌, true, false, List, ◌↔◌, length}
use Rattle.sets.specs.Set.{states, signatures, holds, members, set_at}
use Rattle.list.specs.List.{records, is_accept, from, target}
use Rattle.list.specs.Automaton.{edge, highest}
use Rattle.matrix.specs.Matrix.{cell, matrixed, filled}

-- a set of 128 bytes for each state up to the highest and each byte, at index s × 256 + c: t is in it exactly when an edge record that c takes leads from s to t
pub record IsFilled (L : List ℕ) : Type 0 where
  pub long : length (filled L) ≡ 128 * (256 * suc (highest L))
  pub stored : (s c t : ℕ) → s ≤ highest L → c < 256 → holds (set_at (filled L) (128 * (256 * s + c))) t ≡ true
      ↔ ((t < states) × ((i : ℕ) × (i < records L) × (edge L c i ≡ true) × (from L i ≡ s) × (target L i ≡ t)))

abbrev pub MatrixFilled : Type 0
MatrixFilled = (L : List ℕ) → IsFilled L

pub record ByMatrix (L X : List ℕ) (F c : ℕ) : Type 0 where
  -- it leads to a state exactly when a state of the frontier, none past the highest, has it in its stored set
  pub leads : (t : ℕ) → holds ((matrixed L X).next F c) t ≡ true ↔ ((s : ℕ) × (s ≤ highest L) × (holds F s ≡ true) × (holds (cell X s c) t ≡ true))
  -- it tells a signature exactly when an accept record gives it at a state that it leads to
  pub tells : (g : ℕ) → holds ((matrixed L X).alerts F c) g ≡ true
      ↔ ((g < signatures) × ((i : ℕ) × (i < records L) × (is_accept L i ≡ true) × (holds ((matrixed L X).next F c) (from L i) ≡ true) × (target L i ≡ g)))
  -- it costs a row for each state of the frontier before it, past the highest too, and nothing halts
  pub costs : (matrixed L X).cost F ≡ length (members states F)
  pub goes_on : (matrixed L X).halts F ≡ false

abbrev pub MatrixMoves : Type 0
MatrixMoves = (L X : List ℕ) (F c : ℕ) → ByMatrix L X F c
