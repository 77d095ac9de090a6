-- A byte by an index in words of its bytes, whatever they are. An entry has 1,088 bytes: for each byte a word of four, low byte first; at 1,024 a set of signatures; at 1,056 what a byte costs.
-- A word below 2^31 is the place that the byte leads to; from there on it is 2^31 more than that, and tells.
use Rattle.std.specs.Prelude.{ℕ, ◌+◌, ◌-◌, ◌/◌, ◌≤◌, ◌<◌, ◌≡◌, true, List, ◌↔◌, length, get_or}
use Rattle.sets.specs.Set.{holds, sigs_at}
use Rattle.table.specs.Table.{split_count, split_set}
use Rattle.index_blocks.specs.Block.{word_at}
use Rattle.index.specs.Stand.{Stand, indexed}

pub record ByIndex (S X : List ℕ) (x : Stand) (c : ℕ) : Type 0 where
  -- where it leads
  pub quiet : word_at X x.place c < 2147483648 → ((indexed S X).next x c).place ≡ word_at X x.place c
  pub loud : 2147483648 ≤ word_at X x.place c → ((indexed S X).next x c).place + 2147483648 ≡ word_at X x.place c
  -- the frontier is then the set of the split in whose entry the place lies, where a whole entry follows it; else what stands behind the last split
  pub stands : let p = ((indexed S X).next x c).place in p + 1088 ≤ length X → ((indexed S X).next x c).frontier ≡ split_set S ((p - 128) / 1088)
  pub lost : length X < ((indexed S X).next x c).place + 1088 → ((indexed S X).next x c).frontier ≡ split_set S (split_count S)
  -- it tells a signature exactly when the word says that it tells, a whole entry follows the place, and the set there has the signature
  pub tells : (g : ℕ) → let p = ((indexed S X).next x c).place in holds ((indexed S X).alerts x c) g ≡ true
      ↔ ((2147483648 ≤ word_at X x.place c) × (p + 1088 ≤ length X) × (holds (sigs_at X (p + 1024)) g ≡ true))
  -- it costs what the entry says that it leaves, and halts exactly where no whole entry follows the place before it
  pub costs : (indexed S X).cost x ≡ get_or X (x.place + 1056) 0
  pub halts : (indexed S X).halts x ≡ true ↔ (length X < x.place + 1088)

abbrev pub IndexMoves : Type 0
IndexMoves = (S X : List ℕ) (x : Stand) (c : ℕ) → ByIndex S X x c
