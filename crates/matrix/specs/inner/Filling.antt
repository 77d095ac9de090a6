-- The filler's loops: record after record, byte after byte, a target is put into the set that an edge selects.
use Rattle.std.specs.Prelude.{ℕ, zero, suc, cond, List}
use Rattle.numbers.specs.Number.{placed}
use Rattle.sets.specs.Set.{states, insert, set_bytes, set_at}
use Rattle.list.specs.List.{from, target}
use Rattle.list.specs.Automaton.{edge}
use Rattle.matrix.specs.Matrix.{byte_values, cell_at}

-- t becomes a member of the set that stands at a place
abbrev pub joined_at : List ℕ → ℕ → ℕ → List ℕ
joined_at X at t = placed X at (set_bytes (insert states (set_at X at) t))

-- byte c: where it takes record i, the target is put into the set of the state that the record leaves
abbrev pub marked : List ℕ → ℕ → List ℕ → ℕ → List ℕ
marked L i X c = cond (edge L c i) (joined_at X (cell_at (from L i) c) (target L i)) X

-- the first c bytes
unfoldable pub marked_bytes : List ℕ → ℕ → List ℕ → ℕ → List ℕ
marked_bytes L i X zero = X
marked_bytes L i X (suc c) = marked L i (marked_bytes L i X c) c

-- all bytes of the first i records
unfoldable pub marked_records : List ℕ → List ℕ → ℕ → List ℕ
marked_records L X zero = X
marked_records L X (suc i) = marked_bytes L i (marked_records L X i) byte_values
