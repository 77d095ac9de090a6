-- A run: what is read, the texts of an undisturbed run from a state on, and from the opening on.
use Rattle.std.specs.Prelude.{◌≡◌, ℕ, zero, suc, ⊤, Some, None, ◌+◌, ◌-◌, ◌%◌, ◌≤◌, Bool, true, false, cond, List, [], ◌∷◌, length, take, drop, replicate, ◌==◌, nat_le, nat_lt}
use Rattle.numbers.specs.Number.{num}
use Rattle.program_turn.specs.State.{state_size, short_at, fresh_state}
use Rattle.program_turn.specs.Turn.{most_unit, head_size, turn_of, open_turn, comes, number_in}
use Rattle.program_live.specs.declared.Unit as code
use Rattle.program_live.specs.declared.Ends.{Ends}
use Rattle.program_live.specs.declared.Ends.TheVariants.{Files, Arrays}

-- ---- what is read

-- what is left of what one read gave, or of a segment: whether it is there, the number of its first byte, and the bytes; and where the next one stands in a recording
pub record Unit : Type 0 where
  pub more : Bool
  pub start : ℕ
  pub bytes : List ℕ
  pub at : ℕ

-- before the first one nothing is left
abbrev pub no_unit_yet : Unit
no_unit_yet = record { more = true; start = 0; bytes = []; at = 0 }

-- the unit at a place of the recording B: a number of 4 bytes, a length of 2, and its bytes; none where B ends before it does.
-- What one read gives of a line of bytes is recorded so too, and its number has no say
abbrev pub size_at : List ℕ → ℕ → ℕ
size_at B at = num 8 (take 2 (drop (at + 4) B)) % 65536

unfoldable pub unit_at : List ℕ → ℕ → Unit
unit_at B at =
    cond (nat_le (at + head_size + size_at B at) (length B))
    (record { more = true; start = short_at B at; bytes = take (size_at B at) (drop (at + head_size) B); at = at + head_size + size_at B at })
    (record { more = false; start = 0; bytes = []; at = at })

-- the unit of a turn: what is left of the last one, also where the state comes next; else the next one
unfoldable pub next_of : List ℕ → Bool → Unit → Unit
next_of B saving u = cond saving u (cond (length u.bytes == 0) (unit_at B u.at) u)

-- a unit of which n bytes more are done with
abbrev pub less_by : ℕ → Unit → Unit
less_by n u = record { more = u.more; start = u.start; bytes = drop n u.bytes; at = u.at }

-- ---- an undisturbed run on the recording B

-- the texts of at most n turns, from the state S on, which comes next or not
unfoldable pub texts_from : ℕ → Bool → List ℕ → List ℕ → Bool → List ℕ → Unit → List (List ℕ)
texts_from zero keeping L B saving S u = []
texts_from (suc n) keeping L B saving S u =
    let v = next_of B saving u in
    let t = turn_of keeping saving L S v.more v.start v.bytes in
    t.text ∷ cond t.last [] (texts_from n keeping L B t.saving t.saved (less_by t.done v))

abbrev pub most_turns : ℕ
most_turns = 4611686018427387904

-- from a state that was handed over
abbrev pub texts_on : Bool → List ℕ → List ℕ → List ℕ → List (List ℕ)
texts_on keeping L B S = texts_from most_turns keeping L B false S no_unit_yet

-- from the opening on
unfoldable pub texts : Bool → ℕ → List ℕ → List ℕ → List (List ℕ)
texts keeping kind L B =
    let t = open_turn keeping L (fresh_state L kind (replicate state_size 0)) in
    t.text ∷ cond t.last [] (texts_from most_turns keeping L B t.saving t.saved no_unit_yet)

-- ---- what the code does

-- no unit; nothing left; n bytes more are done with, or all that are left
abbrev pub none_at : ℕ → code.Unit
none_at at = record { start = None; from = 0; to = 0; at = at }

abbrev pub none_left : code.Unit
none_left = record { start = Some 0; from = 0; to = 0; at = 0 }

abbrev pub less_of : code.Unit → ℕ → code.Unit
less_of u n = record { start = u.start; from = cond (nat_lt (u.to - u.from) n) u.to (u.from + n); to = u.to; at = u.at }

-- the code's unit is u, whose bytes stand in the array
pub record Stands (u : Unit) (r : code.Unit) (array : List ℕ) : Type 0 where
  pub more : comes r.start ≡ u.more
  pub start : number_in r.start ≡ u.start
  pub at : r.at ≡ u.at
  pub full : length array ≡ most_unit
  pub inside : r.from ≤ r.to
  pub short : r.to ≤ most_unit
  pub bytes : take (r.to - r.from) (drop r.from array) ≡ u.bytes

-- what holds of a run on arrays, by its recording and the answers of the writes; of one on files nothing is said
abbrev pub OnArrays : Ends → (List ℕ → List ℕ → Type 0) → Type 0
OnArrays (Files r) P = ⊤
OnArrays (Arrays input answers) P = P input.now answers.now
