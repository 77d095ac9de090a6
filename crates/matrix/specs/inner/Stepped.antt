-- What the code's step leaves: the bytes of the next frontier, and the rows that the byte costs.
use Rattle.std.specs.Prelude.{ℕ, List, ◌≡◌}
use Rattle.sets.specs.Set.{states, size, set_at}
use Rattle.matrix.specs.Matrix.{cell, union_over}
use Rattle.matrix.specs.declared.Stepped.{Stepped}

-- of frontier F on byte c by the stored sets of the states below n
pub record Steps (X : List ℕ) (n F c : ℕ) (t : Stepped) : Type 0 where
  pub next : set_at t.next 0 ≡ union_over (λ s. cell X s c) F n
  pub rows : t.rows ≡ size states F
