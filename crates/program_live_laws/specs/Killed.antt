-- A live line of bytes that is killed at any time and started again: what a start keeps of the lines are those of one run, up to the place where it goes on.
use Rattle.std.specs.Prelude.{ℕ, ◌/◌, ◌≤◌, ◌<◌, true, false, cond, List, [], ◌∷◌, ◌++◌, ◌≡◌, length, take, drop, replicate}
use Rattle.feed.specs.Calls.{Bytes}
use Rattle.list_flow.specs.Opening.{open_flow}
use Rattle.list_feed.specs.Plain.{pairs_of}
use Rattle.program_text.specs.Text.{last_line}
use Rattle.program_turn.specs.State.{state_size, whole_numbers, long_at, flow_offset, place_at, lines_at, bytes_kind, fresh_state}
use Rattle.program_turn.specs.Turn.{Turn, most_unit, no_words, no_record, lines_from, turn_of, open_turn}

-- what stands on the disk: the file of lines, and the saved state
pub record Disk : Type 0 where
  pub lines : List ℕ
  pub state : List ℕ

-- where a start goes on in the line, and the lines that it keeps
abbrev pub place : Disk → ℕ
place D = long_at D.state place_at

abbrev pub kept : Disk → List ℕ
kept D = take (long_at D.state lines_at) D.lines

-- what happens, from a start on: a turn on what is read, whose lines and state are handed over whole; or the run is cut before a state is handed over, and some
-- bytes stand behind the lines
pub data Event (A : Type 0) : Type 0 where
  turned : A → Event A
  cut : List ℕ → Event A

-- what stands there then, by the turns of a line: one whose text is the last leaves the state as it is
unfoldable pub after : {A : Type 0} → (Disk → A → Turn) → Disk → Event A → Disk
after turns D (turned a) = cond (turns D a).last D (record { lines = kept D ++ (turns D a).text; state = (turns D a).saved })
after turns D (cut x) = record { lines = kept D ++ x; state = D.state }

unfoldable pub after_all : {A : Type 0} → (Disk → A → Turn) → Disk → List (Event A) → Disk
after_all turns D [] = D
after_all turns D (e ∷ es) = after_all turns (after turns D e) es

-- behind the opening of a line of that kind
abbrev pub opening : List ℕ → ℕ → Turn
opening L kind = open_turn true L (fresh_state L kind (replicate state_size 0))

abbrev pub begun : List ℕ → ℕ → Disk
begun L kind = record { lines = (opening L kind).text; state = (opening L kind).saved }

-- ---- a line of bytes

-- the turn on the next n bytes of the line B, or on as many as there are
abbrev pub turn_at : List ℕ → List ℕ → Disk → ℕ → Turn
turn_at L B D n = turn_of true false L D.state true 0 (take n (drop (place D) B))

-- the lines of all pairs due in the first k bytes, from offset 0 on
abbrev pub lines_to : List ℕ → List ℕ → ℕ → List ℕ
lines_to L B k = lines_from 0 (pairs_of L (take k B)) (length (pairs_of L (take k B)) / 2)

-- what is kept is the lines of the bytes before the place, which is the flow's offset: none is lost, none is there twice
pub record Whole (L B : List ℕ) (D : Disk) : Type 0 where
  pub within : place D ≤ length B
  pub offset : flow_offset D.state ≡ place D
  pub lines : kept D ≡ lines_to L B (place D)
  -- where bytes are left, a turn on at least one of them is not the last, and the place moves
  pub goes : place D < length B → (n : ℕ) → 0 < n → n ≤ most_unit → ((turn_at L B D n).last ≡ false) × (place D < place (after (turn_at L B) D (turned n)))
  -- and where the place is the line's end, the turn that finds no byte adds the last line
  pub ended : place D ≡ length B → (n : ℕ) → kept D ++ (turn_at L B D n).text ≡ lines_to L B (length B) ++ last_line 0 (length B)

-- whatever happens behind an opening that is not refused, on a line whose bytes and whose lines 64 bits count
abbrev pub Killed : Type 0
Killed =
    (L B : List ℕ) → (open_flow L no_record no_words).refusal ≡ 0 → Bytes B → length B < whole_numbers → length (lines_to L B (length B)) < whole_numbers
    → (es : List (Event ℕ)) → Whole L B (after_all (turn_at L B) (begun L bytes_kind) es)
