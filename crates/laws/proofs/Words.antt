-- The rows of each entry point by a name, and two words of the table: what the proofs call them. The statements say them in full.
use Prim.Native.Nat.{ℕ, suc, ◌*◌, ◌<◌}
use mathlib.Core.Path.{◌≡◌}
use mathlib.Core.List.{List, [], ◌∷◌, ◌++◌}
use mathlib.Core.Logic.{◌⊎◌}
use lib.ListN.{length, get_or}
use Rattle.sets.specs.Set.{signatures, set_size, members}
use Rattle.rules.specs.Words.{Row}
use Rattle.list.specs.Automaton.{start, accepted}
use Rattle.list_flow.specs.Flow.{flow_size}
use Rattle.table.specs.Table.{Table, byte_values, most_class, most_parts, most_bound, split_size, split_count}
use Rattle.table_build.specs.Build.{most_rows}
use Rattle.laws.specs.Words.{list_words, feed_words, flow_words, length_words, size_words, entry_words, Rises, Mislisted, Unordered, Misindexed, Misfit, Unnamed}

abbrev pub opening_rows : List ℕ → List ℕ → List ℕ → List Row
opening_rows L R out =
    (4, length R ≡ flow_size → ⊥)
    ∷ (15, length out < 2 * length (members signatures (accepted L (start L))))
    ∷ []

abbrev pub open_words : List ℕ → List ℕ → List ℕ → List Row
open_words L R out = list_words L ++ opening_rows L R out

abbrev pub fill_words : List ℕ → List ℕ → List Row
fill_words L X = list_words L ++ length_words L X

abbrev pub matrix_words : List ℕ → List ℕ → List ℕ → ℕ → List ℕ → List Row
matrix_words L X R k piece = feed_words L R k piece ++ length_words L X

-- the sets of the splits rise
abbrev pub AllRise : List ℕ → Type 0
AllRise S = (i : ℕ) → suc i < split_count S → Rises S i

-- not a class for each byte, or one over the largest
abbrev pub Misclassed : List ℕ → Type 0
Misclassed C = (length C ≡ byte_values → ⊥) ⊎ ((i : ℕ) × (i < length C) × (most_class < get_or C i 0))

abbrev pub table_words : List ℕ → ℕ → Table → List Row
table_words L b T = list_words L ++ (size_words b T ++ entry_words L b T)

abbrev pub split_words : List ℕ → ℕ → Table → List ℕ → ℕ → List ℕ → List Row
split_words L b T R k piece = feed_words L R k piece ++ (size_words b T ++ ((9, Unordered T.splits) ∷ []))

abbrev pub index_words : List ℕ → ℕ → Table → List ℕ → List Row
index_words L b T X = list_words L ++ ((7, (b ≡ 0) ⊎ (most_bound < b)) ∷ (8, Mislisted T ⊎ Misindexed T.splits X) ∷ entry_words L b T)

abbrev pub prepared_words : List ℕ → List ℕ → ℕ → List ℕ → ℕ → List ℕ → List Row
prepared_words S X h R k piece = flow_words (Unnamed S X h R) R k piece ++ ((8, Misfit S X) ∷ [])

abbrev pub lent_words : Table → List Row
lent_words T = (
  17,
  (((length T.classes < byte_values) ⊎ (length T.parts < set_size * most_parts)) ⊎ (length T.rows < set_size * most_rows))
      ⊎ (length T.splits < split_size * most_parts),
)
    ∷ []
