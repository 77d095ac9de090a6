-- What is written into an index by places for a list and splits in order: for each split where each byte leads by the list's step, what is told there, what a byte at it costs, and whether its states are all named.
use Rattle.std.specs.Prelude.{ℕ, ◌+◌, ◌*◌, ◌≡◌, Bool, cond, ◌||◌, List, [], ◌∷◌, ◌++◌, length, eqb}
use Rattle.numbers.specs.Number.{digits}
use Rattle.sets.specs.Set.{within, set_bytes, sig_bytes}
use Rattle.rules.specs.Scan.{stack}
use Rattle.rules.specs.Rules.{Rule, verdict}
use Rattle.list.specs.List.{list_rules}
use Rattle.list.specs.Automaton.{step, accepted, named}
use Rattle.table.specs.Table.{Table, byte_values, split_count, split_set, slots, taken_slots, split_of}
use Rattle.table.specs.Table.{bad_bound, bad_lengths, bad_splits, bad_rows, bad_union, no_start_split, not_closed}
use Rattle.index.specs.Entry.{wrong_index}
use Rattle.index.specs.Right.{word_to}

-- the word of a byte that leads to T: it names the split with that set
unfoldable pub word_of : List ℕ → List ℕ → ℕ → ℕ
word_of L S T = word_to (split_of S T) (accepted L T)

-- the first n words, where byte c leads to t c
unfoldable pub words_of : List ℕ → List ℕ → (ℕ → ℕ) → ℕ → List ℕ
words_of L S t n = stack (λ c. digits 8 4 (word_of L S (t c))) n

-- the slots that split i takes, and m rows more: what a byte at it costs
unfoldable pub cost_of : ℕ → List ℕ → ℕ → ℕ
cost_of m S i = m + length (taken_slots (slots S i))

-- the note as a number: its lowest byte is the cost, the next is 1 where all states are named
abbrev pub note_of : ℕ → Bool → ℕ
note_of n known = n + 256 * cond known 1 0

unfoldable pub entry_of : List ℕ → ℕ → List ℕ → ℕ → List ℕ
entry_of L m S i =
    words_of L S (step L (split_set S i)) byte_values
    ++ (sig_bytes (accepted L (split_set S i)) ++ sig_bytes (note_of (cost_of m S i) (within (split_set S i) (named L))))

-- the states that the list names, and the first n entries
unfoldable pub index_of : List ℕ → ℕ → List ℕ → ℕ → List ℕ
index_of L m S n = set_bytes (named L) ++ stack (entry_of L m S) n

-- ---- the filler of a table's index

-- the index of an accepted table: a byte costs the slots taken
abbrev pub filled_index : List ℕ → Table → List ℕ
filled_index L T = index_of L 0 T.splits (split_count T.splits)

-- the rules of the table check, in which 8 covers the index too
abbrev pub index_rules : List ℕ → ℕ → Table → List ℕ → List Rule
index_rules L b T X =
    list_rules L
    ++ ((7, bad_bound b)
    ∷ (8, bad_lengths T || wrong_index T.splits X)
    ∷ (9, bad_splits b T) ∷ (10, bad_rows L T) ∷ (11, bad_union T) ∷ (12, no_start_split L T) ∷ (13, not_closed L T) ∷ [])

abbrev pub index_refusal : List ℕ → ℕ → Table → List ℕ → ℕ
index_refusal L b T X = verdict (index_rules L b T X)

-- the filler answers `refusal` and leaves `left` of the index X: filled where nothing refuses, else as it was
pub record FillsIndex (L : List ℕ) (b : ℕ) (T : Table) (X : List ℕ) (refusal : ℕ) (left : List ℕ) : Type 0 where
  pub refused : refusal ≡ index_refusal L b T X
  pub wrote : left ≡ cond (eqb (index_refusal L b T X) 0) (filled_index L T) X
