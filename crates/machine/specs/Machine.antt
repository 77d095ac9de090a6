-- The two lists that write the automaton down, moves and programs; rule 24; and the automaton itself.
use Rattle.std.specs.Prelude.{ℕ, ◌+◌, ◌*◌, ◌/◌, ◌%◌, Bool, false, ◌&&◌, ◌||◌, not, List, [], ◌∷◌, length, get_or, take, drop, ltb, eqb}
use Rattle.numbers.specs.Number.{num}
pub use Rattle.numbers.specs.Number.{byte_values}
use Rattle.rules.specs.Scan.{every}
use Rattle.rules.specs.Rules.{Rule, verdict}
use Rattle.feed.specs.Engine.{Engine}
use Rattle.machine.specs.declared.Config.{Config}
use Rattle.machine.specs.Program.{program_length, record_size, word, kind_of, which_of, number_of, blank, moved, programmed, alerts_of}

-- ---- sizes

abbrev pub most_states : ℕ
most_states = 1024

-- bytes of a state's targets, and of its program
abbrev pub move_size : ℕ
move_size = 2 * byte_values

abbrev pub program_size : ℕ
program_size = record_size * program_length

abbrev pub state_count : List ℕ → ℕ
state_count M = length M / move_size

-- the state that byte c leads to from state q
abbrev pub move : List ℕ → ℕ → ℕ → ℕ
move M q c = word M (2 * (byte_values * q + c))

-- ---- 24

-- the lengths: 1 to the most states, and as many programs
unfoldable pub bad_lengths : List ℕ → List ℕ → Bool
bad_lengths M P = (eqb (length M) 0 || ltb (move_size * most_states) (length M) || not (eqb (length M % move_size) 0)) || not (eqb (length P) (program_size * state_count M))

-- target i of all of them is a state
abbrev pub good_target : List ℕ → ℕ → Bool
good_target M i = ltb (word M (2 * i)) (state_count M)

-- the bit or counter of a record is below the one number, and its number or signature below the other, by kinds 0 to 8; 1 stands where the
-- field is not used and has to be 0, and behind the last kind 0, so that nothing is below
abbrev pub which_limits : List ℕ
which_limits = 1 ∷ 64 ∷ 64 ∷ 16 ∷ 16 ∷ 16 ∷ 1 ∷ 64 ∷ 16 ∷ []

abbrev pub number_limits : List ℕ
number_limits = 1 ∷ 1 ∷ 1 ∷ 65536 ∷ 1 ∷ 1 ∷ 256 ∷ 256 ∷ 256 ∷ []

unfoldable pub good_instruction : ℕ → ℕ → ℕ → Bool
good_instruction k w n = ltb w (get_or which_limits k 0) && ltb n (get_or number_limits k 0)

abbrev pub good_record : List ℕ → ℕ → Bool
good_record P i = good_instruction (kind_of P i) (which_of P i) (number_of P i)

-- 24: a wrong length, a target that is no state, or a record that is not good, reached or not
unfoldable pub bad_machine : List ℕ → List ℕ → Bool
bad_machine M P = bad_lengths M P || not (every (byte_values * state_count M) (good_target M)) || not (every (program_length * state_count M) (good_record P))

-- the check: 24
abbrev pub machine_rules : List ℕ → List ℕ → List Rule
machine_rules M P = (24, bad_machine M P) ∷ []

abbrev pub machine_refusal : List ℕ → List ℕ → ℕ
machine_refusal M P = verdict (machine_rules M P)

-- a program that does nothing: its bytes are all zero, eight at a time
abbrev pub idle : List ℕ → ℕ → Bool
idle P q = every 4 (λ k. eqb (num 8 (take 8 (drop (program_size * q + 8 * k) P))) 0)

-- ---- the automaton

-- a byte moves the state, whatever the bits and counters, and the new state's program runs; no rows are read, and nothing halts
abbrev pub machine : List ℕ → List ℕ → Engine Config
machine M P =
    record {
      next = λ x c. let q = move M x.state c in programmed P q (moved q x);
      alerts = λ x c. let q = move M x.state c in alerts_of P q (moved q x);
      cost = λ x. 0;
      halts = λ x. false;
    }

-- before any byte state 0's program runs
abbrev pub first : List ℕ → Config
first P = programmed P 0 blank

abbrev pub first_alerts : List ℕ → ℕ
first_alerts P = alerts_of P 0 blank
