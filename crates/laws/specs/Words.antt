-- The table of refusals in words: for each entry point its numbers in their order, and what each is given for, said of bytes, places and sets.
use Rattle.std.specs.Prelude.{ℕ, suc, ◌+◌, ◌*◌, ◌%◌, ◌≤◌, ◌<◌, ◌≡◌, true, List, [], ◌∷◌, ◌++◌, ◌⊎◌, length, get_or}
use Rattle.sets.specs.Set.{states, set_size, holds, set_at}
use Rattle.rules.specs.Words.{Row}
use Rattle.list.specs.List.{record_size, most_records, records}
use Rattle.list.specs.Automaton.{start, step}
use Rattle.list.specs.Words.{Edge-bytes, Start-bytes, Accept-bytes, Names-bytes}
use Rattle.numbers.specs.Order.{Smaller}
use Rattle.feed.specs.Piece.{piece_words}
use Rattle.list_flow.specs.Flow.{flow_size, frontier_of, offset_of, reserved_of, rows_of}
use Rattle.table.specs.Table.{Table, byte_values, most_class, most_parts, most_splits, most_bound, split_size, class_count, part_count, split_count}
use Rattle.table.specs.Table.{part, row, split_set, slots, used_slots, taken_slots, joined}
use Rattle.table_classes.specs.Classes.{most_classes}
use Rattle.table_classes.specs.Words.{Needs}
use Rattle.table_build.specs.Build.{most_rows, Many}

-- ---- list: 1 to 3

abbrev pub list_words : List ℕ → List Row
list_words L =
    (1, ((length L ≡ 0) ⊎ (record_size * most_records < length L)) ⊎ (length L % record_size ≡ 0 → ⊥))
    ∷ (2, (i : ℕ) × (i < records L) × ((Edge-bytes L i ⊎ Start-bytes L i) ⊎ Accept-bytes L i → ⊥))
    ∷ (3, (i : ℕ) → i < records L → get_or L (8 * i) 0 ≡ 2 → ⊥)
    ∷ []

-- ---- the feeds: 1 to 6

-- some state of the frontier is one that no record of L names
abbrev pub Foreign : List ℕ → List ℕ → Type 0
Foreign L R = (s : ℕ) × (holds (frontier_of R) s ≡ true) × ((s < states) × ((i : ℕ) × (i < records L) × Names-bytes L i s) → ⊥)

-- 4 to 6, where 4 is given as well for a foreign state
abbrev pub flow_words : Type 0 → List ℕ → ℕ → List ℕ → List Row
flow_words foreign R k piece =
    (4, (((length R ≡ flow_size → ⊥) ⊎ (reserved_of R ≡ 0 → ⊥)) ⊎ (states * offset_of R < rows_of R)) ⊎ foreign)
    ∷ piece_words (offset_of R) k piece

abbrev pub feed_words : List ℕ → List ℕ → ℕ → List ℕ → List Row
feed_words L R k piece = list_words L ++ flow_words (Foreign L R) R k piece

-- ---- the matrix: 8

-- no record names a state above n, and one names n; of records that name none, n is 0
pub record Highest (L : List ℕ) (n : ℕ) : Type 0 where
  pub most : (i s : ℕ) → i < records L → Names-bytes L i s → s ≤ n
  pub named : (n ≡ 0) ⊎ ((i : ℕ) × (i < records L) × Names-bytes L i n)

-- not a set for each state up to the highest and each byte
abbrev pub length_words : List ℕ → List ℕ → List Row
length_words L X = (8, (n : ℕ) → Highest L n → length X ≡ set_size * (byte_values * suc n) → ⊥) ∷ []

-- ---- the table: 7 to 13

-- a list of entries is empty, has more than the most, or a broken one
abbrev pub Miscounted : ℕ → ℕ → List ℕ → Type 0
Miscounted entry most xs = ((length xs ≡ 0) ⊎ (entry * most < length xs)) ⊎ (length xs % entry ≡ 0 → ⊥)

-- the slots of a split: those in use name parts, stand before the unused ones, rise strictly, and are at most b
pub record SlotsGood (n b : ℕ) (ss : List ℕ) : Type 0 where
  pub named : (i : ℕ) → i < length (used_slots ss) → get_or (used_slots ss) i 0 < n
  pub taken : used_slots ss ≡ taken_slots ss
  pub rise : (i : ℕ) → suc i < length (used_slots ss) → get_or (used_slots ss) i 0 < get_or (used_slots ss) (suc i) 0
  pub few : length (used_slots ss) ≤ b

-- the set of split i comes before the next as a byte string: it has the smaller byte at the first place where the two differ
abbrev pub Rises : List ℕ → ℕ → Type 0
Rises S i = Smaller set_size (λ j. get_or S (split_size * i + j) 0) (λ j. get_or S (split_size * suc i + j) 0)

-- F is the set of no split
abbrev pub NoSplit : List ℕ → ℕ → Type 0
NoSplit S F = (j : ℕ) → j < split_count S → split_set S j ≡ F → ⊥

-- a list of the table has the wrong length, or a class is over the largest
abbrev pub Mislisted : Table → Type 0
Mislisted T =
    ((((length T.classes ≡ byte_values → ⊥) ⊎ ((i : ℕ) × (i < length T.classes) × (most_class < get_or T.classes i 0)))
    ⊎ Miscounted set_size most_parts T.parts) ⊎ Miscounted split_size most_splits T.splits)
    ⊎ (length T.rows ≡ set_size * (part_count T.parts * class_count T.classes) → ⊥)

abbrev pub size_words : ℕ → Table → List Row
size_words b T = (7, (b ≡ 0) ⊎ (most_bound < b)) ∷ (8, Mislisted T) ∷ []

-- the sets of the splits do not rise
abbrev pub Unordered : List ℕ → Type 0
Unordered S = (i : ℕ) × (suc i < split_count S) × (Rises S i → ⊥)

abbrev pub entry_words : List ℕ → ℕ → Table → List Row
entry_words L b T = (
  9,
  ((i : ℕ) × (i < split_count T.splits) × (SlotsGood (part_count T.parts) b (slots T.splits i) → ⊥))
      ⊎ Unordered T.splits,
)
    ∷ (10, (p : ℕ) × (p < part_count T.parts) × ((c : ℕ) × (c < byte_values) × (row T.classes T.rows p c ≡ step L (part T.parts p) c → ⊥)))
    ∷ (11, (i : ℕ) × (i < split_count T.splits) × (split_set T.splits i ≡ joined (part T.parts) (used_slots (slots T.splits i)) → ⊥))
    ∷ (12, NoSplit T.splits (start L))
    ∷ (13, (i : ℕ) × (i < split_count T.splits) × ((c : ℕ) × (c < byte_values) × NoSplit T.splits (step L (split_set T.splits i) c)))
    ∷ []

-- ---- the index of a table: 8, and 4 of a feed by it

-- not a set of states, and 1,088 bytes for each split
abbrev pub Misindexed : List ℕ → List ℕ → Type 0
Misindexed S X = length X ≡ set_size + 1088 * split_count S → ⊥

-- splits or an index of a wrong length
abbrev pub Misfit : List ℕ → List ℕ → Type 0
Misfit S X = Miscounted split_size most_splits S ⊎ Misindexed S X

-- the flow stands at split h: the lists fit, and its frontier is the set of that split
abbrev pub Hinted : List ℕ → List ℕ → ℕ → List ℕ → Type 0
Hinted S X h R = (Misfit S X → ⊥) × (h < split_count S) × (split_set S h ≡ frontier_of R)

-- some state of the frontier is not in the set that the index begins with, where it is long enough to hold one
abbrev pub Outside : List ℕ → List ℕ → Type 0
Outside X R = (set_size ≤ length X) × ((s : ℕ) × (holds (frontier_of R) s ≡ true) × (holds (set_at X 0) s ≡ true → ⊥))

-- the states count as not all named: by byte 1,057 of the entry where the flow stands at the split that is handed in, else by that set
abbrev pub Unnamed : List ℕ → List ℕ → ℕ → List ℕ → Type 0
Unnamed S X h R = (Hinted S X h R × (get_or X (set_size + 1088 * h + 1057) 0 ≡ 0)) ⊎ ((Hinted S X h R → ⊥) × Outside X R)

-- ---- the builder: 1 to 3, then 17, then 16

-- 17: a lent list is shorter than so many classes, parts, rows or splits; 16: one set more can be reached than a table may have parts, or one class more is needed than it may have
abbrev pub build_words : List ℕ → Table → List Row
build_words L T =
    (list_words L
    ++ ((17, (((length T.classes < byte_values) ⊎ (length T.parts < set_size * most_parts)) ⊎ (length T.rows < set_size * most_rows)) ⊎ (length T.splits < split_size * most_parts)) ∷ []))
    ++ ((16, Many L (suc most_parts) ⊎ Needs L (suc most_classes)) ∷ [])

-- ---- splits and an index straight from a list: 1 to 3, then 17, then 16

-- 17: a lent list has not the bytes for 4,096 splits
abbrev pub both_words : List ℕ → List ℕ → List Row
both_words S X = (17, (length S < 557056) ⊎ (length X < 4456576)) ∷ []

-- 16: more sets can be reached than there may be splits
abbrev pub prepare_words : List ℕ → List ℕ → List ℕ → List Row
prepare_words L S X = (list_words L ++ both_words S X) ++ ((16, Many L (suc most_splits)) ∷ [])
