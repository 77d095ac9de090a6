-- The list of engines: by what a call on a flow of a list goes. What each is, and what it owes, stands in its own room; a new one is a line here and its law in proofs/Engines.
use Rattle.std.specs.Prelude.{ℕ, List, [], ◌∷◌, ◌++◌, length}
use Rattle.feed.specs.Lawful.{Means}
use Rattle.list_feed.specs.Means.{list_means}
use Rattle.table.specs.Table.{Table}
use Rattle.table_feed.specs.Split.{taken}
use Rattle.table_feed.specs.Means.{table_means}
use Rattle.matrix.specs.Means.{matrix_means}
use Rattle.index.specs.Means.{stand_means}
use Rattle.rules.specs.Words.{Row}
use Rattle.laws.specs.Words.{feed_words, flow_words, size_words, length_words, Unordered, Unnamed, Misfit}

-- what a byte counts by an index: the slots that a table takes at the frontier before it, or one row
pub data Counting : Type 0 where
  by_slots : Table → Counting
  by_one : Counting

abbrev pub count_by : Counting → ℕ → ℕ
count_by (by_slots T) F = length (taken T F)
count_by by_one F = 1

-- the plain feed, the split feed with a bound and a table, the matrix feed with a matrix, or the prepared feed with splits, an index and a hint: at most so many rows a byte, and what it counts
pub data Via : Type 0 where
  by_list : Via
  by_table : ℕ → Table → Via
  by_matrix : List ℕ → Via
  by_index : ℕ → Counting → List ℕ → List ℕ → ℕ → Via

abbrev pub means_of : Via → Means (List ℕ) ℕ
means_of by_list = list_means
means_of (by_table b T) = table_means b T
means_of (by_matrix X) = matrix_means X
means_of (by_index b n S X h) = stand_means b (count_by n) S X h

-- the rules of each in words: the plain feed 1 to 6; the split feed 1 to 9, 9 for the sets alone; the matrix feed 1 to 6 and 8; the prepared feed 4 to 6 and 8
abbrev pub words_by : Via → List ℕ → List ℕ → ℕ → List ℕ → List Row
words_by by_list L R k piece = feed_words L R k piece
words_by (by_table b T) L R k piece = feed_words L R k piece ++ (size_words b T ++ ((9, Unordered T.splits) ∷ []))
words_by (by_matrix X) L R k piece = feed_words L R k piece ++ length_words L X
words_by (by_index b n S X h) L R k piece = flow_words (Unnamed S X h R) R k piece ++ ((8, Misfit S X) ∷ [])
