-- The table that the builder makes at bound 1: the sets that can be reached, and what the four lent lists hold at the end.
use Rattle.std.specs.Prelude.{ℕ, suc, ◌+◌, ◌-◌, ◌*◌, ◌/◌, ◌%◌, ◌≤◌, ◌<◌, ◌≡◌, Bool, true, ◌||◌, List, [], ◌∷◌, ◌++◌, ◌⊎◌, length, get_or, replicate, ltb}
use Rattle.numbers.specs.Number.{digits, before}
use Rattle.sets.specs.Set.{set_size, set_bytes}
use Rattle.rules.specs.Scan.{stack}
use Rattle.rules.specs.Rules.{Rule, verdict}
use Rattle.list.specs.List.{list_rules}
use Rattle.list.specs.Automaton.{start, step}
use Rattle.feed.specs.Engine.{run}
use Rattle.feed.specs.Calls.{Bytes}
use Rattle.list_feed.specs.Plain.{plain}
use Rattle.table.specs.Table.{Table, byte_values, most_parts, split_size}
use Rattle.table_classes.specs.Classes.{most_classes, classes_of, class_total, lowest_of}

-- the most rows
abbrev pub most_rows : ℕ
most_rows = most_parts * most_classes

-- ---- what can be reached

-- S is the frontier of a flow after some bytes
abbrev pub Reach : List ℕ → ℕ → Type 0
Reach L S = (w : List ℕ) × Bytes w × (run (plain L) (start L) w ≡ S)

-- at least n sets can be reached: n of them, numbered, no two the same
abbrev pub Many : List ℕ → ℕ → Type 0
Many L n = (f : ℕ → ℕ) × ((i : ℕ) → i < n → Reach L (f i)) × ((i j : ℕ) → i < n → j < n → f i ≡ f j → i ≡ j)

-- S stands in the list xs
abbrev pub In : ℕ → List ℕ → Type 0
In S xs = (i : ℕ) × (i < length xs) × (get_or xs i 0 ≡ S)

-- a comes before b, as strings of bytes
abbrev pub lower : ℕ → ℕ → Bool
lower a b = before (set_bytes a) (set_bytes b)

-- xs holds the sets that can be reached, all of them and no other, in rising order
pub record Reached (L xs : List ℕ) : Type 0 where
  pub rises : (i j : ℕ) → i < j → j < length xs → lower (get_or xs i 0) (get_or xs j 0) ≡ true
  pub sound : (S : ℕ) → In S xs → Reach L S
  pub all : (S : ℕ) → Reach L S → In S xs

-- ---- the lists

unfoldable pub parts_of : List ℕ → List ℕ
parts_of xs = stack (λ p. set_bytes (get_or xs p 0)) (length xs)

-- row j is that of part j / K and class j % K
abbrev pub row_of : List ℕ → List ℕ → ℕ → ℕ
row_of L xs j = step L (get_or xs (j / class_total L) 0) (lowest_of L (j % class_total L))

unfoldable pub rows_of : List ℕ → List ℕ → List ℕ
rows_of L xs = stack (λ j. set_bytes (row_of L xs j)) (length xs * class_total L)

-- a split of one slot: the set, the number of its part, and three unused slots
abbrev pub slot_bytes : ℕ → List ℕ
slot_bytes i = digits 8 2 i ++ replicate 6 255

unfoldable pub splits_of : List ℕ → List ℕ
splits_of xs = stack (λ i. set_bytes (get_or xs i 0) ++ slot_bytes i) (length xs)

-- the table of a list whose reachable sets are xs
abbrev pub table_of : List ℕ → List ℕ → Table
table_of L xs = record { classes = classes_of L; parts = parts_of xs; rows = rows_of L xs; splits = splits_of xs }

-- ---- the outcome: refusal, the four lengths used, and the four lists at exit

pub record Building : Type 0 where
  pub refusal : ℕ
  pub classes : ℕ
  pub parts : ℕ
  pub rows : ℕ
  pub splits : ℕ
  pub lists : Table

-- 17: a lent list is too short
unfoldable pub too_short : Table → Bool
too_short T =
    ltb (length T.classes) byte_values
    || ltb (length T.parts) (set_size * most_parts)
    || ltb (length T.rows) (set_size * most_rows)
    || ltb (length T.splits) (split_size * most_parts)

abbrev pub early_rules : List ℕ → Table → List Rule
early_rules L T = list_rules L ++ ((17, too_short T) ∷ [])

-- a front, and zeros to the end of the list lent
abbrev pub over : List ℕ → List ℕ → List ℕ
over front lent = front ++ replicate (length lent - length front) 0

-- each list of a table so, over the one lent for it
abbrev pub over_each : Table → Table → Table
over_each T lent =
    record { classes = over T.classes lent.classes; parts = over T.parts lent.parts; rows = over T.rows lent.rows; splits = over T.splits lent.splits }

-- a table laid into the lists lent, under a refusal's number
abbrev pub laid : ℕ → Table → Table → Building
laid n T lent =
    record { refusal = n; classes = length T.classes; parts = length T.parts; rows = length T.rows; splits = length T.splits; lists = over_each T lent }

abbrev pub nothing : Table
nothing = record { classes = []; parts = []; rows = []; splits = [] }

-- what the builder does with the list L and the lent lists T
pub data Builds (L : List ℕ) (T : Table) (o : Building) : Type 0 where
  refuses : (verdict (early_rules L T) ≡ 0 → ⊥)
      → o ≡ record { refusal = verdict (early_rules L T); classes = 0; parts = 0; rows = 0; splits = 0; lists = T } → Builds L T o
  passes_limits : verdict (early_rules L T) ≡ 0 → Many L (suc most_parts) ⊎ (most_classes < class_total L) → o ≡ laid 16 nothing T → Builds L T o
  builds : verdict (early_rules L T) ≡ 0 → class_total L ≤ most_classes → (xs : List ℕ) → length xs ≤ most_parts → Reached L xs → o ≡ laid 0 (table_of L xs) T
      → Builds L T o
