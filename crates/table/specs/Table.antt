-- The split table: four lists of bytes. What their entries are, and the rules 7 to 13.
use Rattle.std.specs.Prelude.{ℕ, zero, suc, ◌+◌, ◌*◌, ◌/◌, ◌%◌, ◌<◌, ◌≡◌, max, Bool, true, ◌&&◌, ◌||◌, not, cond, List, [], ◌∷◌, ◌++◌, length, get_or, leb, ltb, eqb}
use Rattle.numbers.specs.Number.{before}
pub use Rattle.numbers.specs.Number.{byte_values}
use Rattle.sets.specs.Set.{set_size, bytes_at, set_at, set_bytes, join}
use Rattle.rules.specs.Scan.{some, every, first, rising}
use Rattle.rules.specs.Rules.{Rule, verdict}
use Rattle.list.specs.List.{word, list_rules}
use Rattle.list.specs.Automaton.{start, step}

pub record Table : Type 0 where
  pub classes : List ℕ
  pub parts : List ℕ
  pub rows : List ℕ
  pub splits : List ℕ

-- the table of these lists
abbrev pub table : List ℕ → List ℕ → List ℕ → List ℕ → Table
table C P W S = record { classes = C; parts = P; rows = W; splits = S }

-- ---- what the lists hold

-- the largest class; the most parts and splits; the largest bound
abbrev pub most_class : ℕ
most_class = 63

abbrev pub most_parts : ℕ
most_parts = 1024

abbrev pub most_splits : ℕ
most_splits = 4096

abbrev pub most_bound : ℕ
most_bound = 4

-- a split: a set, then four part numbers of 2 bytes
abbrev pub split_size : ℕ
split_size = set_size + 8

-- K: the largest class, plus 1
unfoldable pub largest : List ℕ → ℕ
largest [] = 0
largest (x ∷ xs) = max x (largest xs)

abbrev pub class_count : List ℕ → ℕ
class_count C = suc (largest C)

abbrev pub part_count : List ℕ → ℕ
part_count P = length P / set_size

abbrev pub split_count : List ℕ → ℕ
split_count S = length S / split_size

-- part p
unfoldable pub part : List ℕ → ℕ → ℕ
part P p = set_at P (set_size * p)

-- the row of part p and class q where there are k classes: at p × k + q
abbrev pub row_at : List ℕ → ℕ → ℕ → ℕ → ℕ
row_at W k p q = set_at W (set_size * (p * k + q))

-- the row of part p that byte c selects by its class
unfoldable pub row : List ℕ → List ℕ → ℕ → ℕ → ℕ
row C W p c = row_at W (class_count C) p (get_or C c 0)

-- the set of split i, and its four slots
unfoldable pub split_set : List ℕ → ℕ → ℕ
split_set S i = set_at S (split_size * i)

abbrev pub slot : List ℕ → ℕ → ℕ → ℕ
slot S i j = word S (split_size * i + set_size + 2 * j)

unfoldable pub slots : List ℕ → ℕ → List ℕ
slots S i = slot S i 0 ∷ slot S i 1 ∷ slot S i 2 ∷ slot S i 3 ∷ []

abbrev pub unused_slot : ℕ → Bool
unused_slot x = eqb x 65535

-- of a split's slots: those in use, wherever they stand
unfoldable pub used_slots : List ℕ → List ℕ
used_slots [] = []
used_slots (x ∷ xs) = cond (unused_slot x) (used_slots xs) (x ∷ used_slots xs)

-- those up to the first unused one
unfoldable pub taken_slots : List ℕ → List ℕ
taken_slots [] = []
taken_slots (x ∷ xs) = cond (unused_slot x) [] (x ∷ taken_slots xs)

-- every number of the list is below n
unfoldable pub all_below : ℕ → List ℕ → Bool
all_below n [] = true
all_below n (x ∷ xs) = ltb x n && all_below n xs

-- the union of the sets that f gives for the numbers of the list
unfoldable pub joined : (ℕ → ℕ) → List ℕ → ℕ
joined f [] = 0
joined f (x ∷ xs) = join (f x) (joined f xs)

-- F is the set of some split
abbrev pub is_split : List ℕ → ℕ → Bool
is_split S F = some (split_count S) (λ i. eqb (split_set S i) F)

-- the first n sets of the list rise, as strings of bytes, each at the front of an entry of `size` bytes
abbrev pub SetsRise : List ℕ → ℕ → ℕ → Type 0
SetsRise b size n = (i j : ℕ) → i < j → j < n → before (set_bytes (set_at b (size * i))) (set_bytes (set_at b (size * j))) ≡ true

-- the first split whose set equals F; the number of splits where there is none
unfoldable pub split_of : List ℕ → ℕ → ℕ
split_of S F = first (split_count S) (λ i. eqb (split_set S i) F)

-- ---- what each rule refuses

-- 7: the bound is not 1 to 4
abbrev pub bad_bound : ℕ → Bool
bad_bound b = eqb b 0 || ltb most_bound b

-- 8: a table list has the wrong length, or a class is over 63
unfoldable pub bad_classes : List ℕ → Bool
bad_classes C = not (eqb (length C) byte_values) || ltb most_class (largest C)

unfoldable pub bad_count : ℕ → ℕ → List ℕ → Bool
bad_count entry most xs = eqb (length xs) 0 || ltb (entry * most) (length xs) || not (eqb (length xs % entry) 0)

unfoldable pub bad_rows_length : Table → Bool
bad_rows_length T = not (eqb (length T.rows) (set_size * (part_count T.parts * class_count T.classes)))

unfoldable pub bad_lengths : Table → Bool
bad_lengths T =
    bad_classes T.classes || bad_count set_size most_parts T.parts || bad_count split_size most_splits T.splits || bad_rows_length T

-- 9, of slots: one in use that names no part, one in use after an unused one, not strictly rising, or more than b in use
unfoldable pub good_slots : ℕ → ℕ → List ℕ → Bool
good_slots n b ss =
    all_below n (used_slots ss)
    && eqb (length (used_slots ss)) (length (taken_slots ss))
    && rising 0 (used_slots ss)
    && leb (length (used_slots ss)) b

-- 9, of sets: not greater, as byte strings, than the one before
unfoldable pub in_order : List ℕ → ℕ → Bool
in_order S zero = true
in_order S (suc i) = before (bytes_at S (split_size * i)) (bytes_at S (split_size * suc i))

-- 9 in a split feed: some set is not greater than the one before; slots are not looked at
unfoldable pub unordered : List ℕ → Bool
unordered S = not (every (split_count S) (in_order S))

unfoldable pub bad_splits : ℕ → Table → Bool
bad_splits b T = not (every (split_count T.splits) (λ i. good_slots (part_count T.parts) b (slots T.splits i) && in_order T.splits i))

-- 10: a row that some byte selects differs from the step of its part on that byte
unfoldable pub bad_rows : List ℕ → Table → Bool
bad_rows L T =
    not (every (part_count T.parts) (λ p. every byte_values (λ c. eqb (row T.classes T.rows p c) (step L (part T.parts p) c))))

-- 11: a split's set is not the union of its parts
unfoldable pub bad_union : Table → Bool
bad_union T = not (every (split_count T.splits) (λ i. eqb (split_set T.splits i) (joined (part T.parts) (used_slots (slots T.splits i)))))

-- 12: the start set is no split
unfoldable pub no_start_split : List ℕ → Table → Bool
no_start_split L T = not (is_split T.splits (start L))

-- 13: for some split and byte, the step of its set is no split
unfoldable pub not_closed : List ℕ → Table → Bool
not_closed L T = not (every (split_count T.splits) (λ i. every byte_values (λ c. is_split T.splits (step L (split_set T.splits i) c))))

-- ---- the table check: 1 to 3 and 7 to 13, each over the whole table before the next

abbrev pub size_rules : ℕ → Table → List Rule
size_rules b T = (7, bad_bound b) ∷ (8, bad_lengths T) ∷ []

-- what a split feed asks of its table: 7 and 8, then 9 for the sets alone
abbrev pub rising_rules : ℕ → Table → List Rule
rising_rules b T = size_rules b T ++ ((9, unordered T.splits) ∷ [])

abbrev pub table_rules : List ℕ → ℕ → Table → List Rule
table_rules L b T =
    list_rules L
    ++ (size_rules b T
    ++ ((9, bad_splits b T) ∷ (10, bad_rows L T) ∷ (11, bad_union T) ∷ (12, no_start_split L T) ∷ (13, not_closed L T) ∷ []))

unfoldable pub table_refusal : List ℕ → ℕ → Table → ℕ
table_refusal L b T = verdict (table_rules L b T)
