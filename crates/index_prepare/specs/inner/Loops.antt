-- What the functions of the preparation promise each other: lower bytes on which every set steps alike, and what the search leaves.
use Rattle.std.specs.Prelude.{ℕ, suc, ◌≤◌, ◌<◌, ◌≡◌, Bool, true, false, List, length}
use Rattle.list.specs.Automaton.{step}
use Rattle.table.specs.Table.{byte_values, most_splits}
use Rattle.table_build.specs.Build.{Many, Reached}
use Rattle.table_build.specs.inner.Loops.{sets_of}
use Rattle.index_fill.specs.inner.Lows.{Led}

-- where D has for a byte a lower one, every set steps alike on both
abbrev pub Leads : List ℕ → List ℕ → Type 0
Leads L D = (F c : ℕ) → c < byte_values → Led (step L F) D c

-- the search leaves S' and X' of the lent lists S and X: X' begins with the n sets that can be reached, or they are too many
pub record Seeks (L S X D' S' X' : List ℕ) (n : ℕ) (full : Bool) : Type 0 where
  pub splits : length S' ≡ length S
  pub index : length X' ≡ length X
  pub leads : Leads L D'
  pub many : full ≡ true → Many L (suc most_splits)
  pub few : full ≡ false → n ≤ most_splits
  pub reached : full ≡ false → Reached L (sets_of X' n)
