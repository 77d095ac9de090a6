-- A matrix as a means to feed flows of a list.
use Rattle.std.specs.Prelude.{ℕ, List, ◌≡◌}
use Rattle.sets.specs.Set.{states, size}
use Rattle.feed.specs.Lawful.{Means, own_means}
use Rattle.matrix.specs.Matrix.{matrixed, filled, matrix_rules}

-- the filler writes it; a byte counts the states of the frontier
abbrev pub matrix_means : List ℕ → Means (List ℕ) ℕ
matrix_means X = own_means (λ L. matrix_rules L X) (λ L. matrixed L X) (size states) states (λ L. X ≡ filled L)
