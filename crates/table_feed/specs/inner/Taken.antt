-- What the code of a split step owes: whether it halts, and where it does not, how many slots are taken and the union of their rows.
use Rattle.std.specs.Prelude.{ℕ, ◌≡◌, not, List, length, is_none, IfSome}
use Rattle.std.specs.declared.option.Option.{Option}
use Rattle.sets.specs.Set.{set_of}
use Rattle.table.specs.Table.{Table, all_below, joined}
use Rattle.table_feed.specs.Split.{taken, stuck, split_step}
use Rattle.table_feed.specs.declared.Taken.{Taken}

-- t takes the slots `ss`: of n parts, where f gives the row of each
pub record TakesSlots (n : ℕ) (f : ℕ → ℕ) (ss : List ℕ) (t : Option Taken) : Type 0 where
  pub halts : is_none t ≡ not (all_below n ss)
  pub takes : IfSome t (λ s. (s.rows ≡ length ss) × (set_of s.next ≡ joined f ss))

-- t is the split step at frontier F on byte c
pub record TakesStep (b : ℕ) (T : Table) (F c : ℕ) (t : Option Taken) : Type 0 where
  pub halts : is_none t ≡ stuck b T F
  pub takes : IfSome t (λ s. (s.rows ≡ length (taken T F)) × (set_of s.next ≡ split_step T F c))
