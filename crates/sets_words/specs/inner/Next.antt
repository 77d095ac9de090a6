-- The next member of a set, from a place on.
use Rattle.std.specs.Prelude.{ℕ, ◌≤◌, ◌<◌, ◌≡◌, true, false}
use Rattle.sets.specs.Set.{holds}

-- r is the first member of n from s on; where none stands below m, it is m
pub record Next (n s m r : ℕ) : Type 0 where
  pub most : r ≤ m
  pub least : s ≤ m → s ≤ r
  pub skipped : (q : ℕ) → s ≤ q → q < r → holds n q ≡ false
  pub there : r < m → holds n r ≡ true
