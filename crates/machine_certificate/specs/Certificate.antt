-- A certificate that an automaton with bits and counters is a list's: records of a configuration and a set of list states; rule 22.
use Rattle.std.specs.Prelude.{ℕ, ◌+◌, ◌*◌, ◌/◌, ◌%◌, Bool, ◌&&◌, ◌||◌, not, List, [], ◌∷◌, ◌++◌, length, drop, ltb, eqb}
use Rattle.std.specs.Ordering.{is_eq}
use Rattle.numbers.specs.Number.{compare}
use Rattle.sets.specs.Set.{set_size, set_at}
use Rattle.rules.specs.Scan.{some, every}
use Rattle.rules.specs.Rules.{Rule, verdict}
use Rattle.list.specs.List.{list_rules}
use Rattle.list.specs.Automaton.{start, step, accepted}
use Rattle.machine.specs.declared.Config.{Config}
use Rattle.machine.specs.Program.{counter_count}
use Rattle.machine.specs.Machine.{byte_values, state_count, machine_rules, machine, first, first_alerts}
use Rattle.machine.specs.Record.{reserved_of, config_at, good_counters}

-- ---- sizes

-- bytes of a configuration: a flow record without its offset, so state (2 bytes), zero (2), bits (8), then the counters (4 bytes each)
abbrev pub config_size : ℕ
config_size = 12 + 4 * counter_count

-- bytes of a record: a configuration, then a set of list states
abbrev pub note_size : ℕ
note_size = config_size + set_size

abbrev pub most_notes : ℕ
most_notes = 4096

-- how many records a certificate has
abbrev pub notes : List ℕ → ℕ
notes Z = length Z / note_size

-- ---- record i

abbrev pub note_bytes : List ℕ → ℕ → List ℕ
note_bytes Z i = drop (note_size * i) Z

unfoldable pub note_config : List ℕ → ℕ → Config
note_config Z i = config_at 4 (note_bytes Z i)

unfoldable pub note_set : List ℕ → ℕ → ℕ
note_set Z i = set_at Z (note_size * i + config_size)

-- its fields are good as those of a flow record: a state of the n, reserved bytes that are zero, no counter over off
unfoldable pub good_note : ℕ → List ℕ → ℕ → Bool
good_note n Z i = ltb (note_config Z i).state n && eqb (reserved_of (note_bytes Z i)) 0 && good_counters (note_config Z i).counters

-- ---- the same configuration

-- its numbers, one after the other
abbrev pub numbers_of : Config → List ℕ
numbers_of x = x.state ∷ (x.bits ∷ x.counters)

-- no number differs
unfoldable pub same_config : Config → Config → Bool
same_config x y = is_eq (compare (numbers_of x) (numbers_of y))

-- x is recorded with the set F
unfoldable pub noted : List ℕ → Config → ℕ → Bool
noted Z x F = some (notes Z) (λ i. same_config (note_config Z i) x && eqb (note_set Z i) F)

-- ---- what a certificate has to show

-- no configuration is there twice
unfoldable pub all_once : List ℕ → Bool
all_once Z = every (notes Z) (λ i. every i (λ j. not (same_config (note_config Z j) (note_config Z i))))

-- the start configuration after its program is recorded with the start set, and its program alerts exactly what the start set accepts
unfoldable pub good_opening : List ℕ → List ℕ → List ℕ → Bool
good_opening L P Z = noted Z (first P) (start L) && eqb (first_alerts P) (accepted L (start L))

-- byte c leads record i to a recorded configuration with the list's step of its set, and the program run there alerts exactly what that set accepts
unfoldable pub good_step : List ℕ → List ℕ → List ℕ → List ℕ → ℕ → ℕ → Bool
good_step L M P Z i c =
    let x = note_config Z i in
    let F = step L (note_set Z i) c in
    noted Z ((machine M P).next x c) F && eqb ((machine M P).alerts x c) (accepted L F)

unfoldable pub good_steps : List ℕ → List ℕ → List ℕ → List ℕ → Bool
good_steps L M P Z = every (notes Z) (λ i. every byte_values (good_step L M P Z i))

-- ---- 22

-- a length that is no whole number of records, or that of more than the most
unfoldable pub bad_length : List ℕ → Bool
bad_length Z = not (eqb (length Z % note_size) 0) || ltb most_notes (notes Z)

unfoldable pub good_notes : List ℕ → List ℕ → Bool
good_notes M Z = every (notes Z) (good_note (state_count M) Z)

unfoldable pub bad_certificate : List ℕ → List ℕ → List ℕ → List ℕ → Bool
bad_certificate L M P Z = bad_length Z || not (good_notes M Z) || not (all_once Z) || not (good_opening L P Z) || not (good_steps L M P Z)

-- the check of a certificate: 1 to 3, then 24, then 22
abbrev pub certificate_rules : List ℕ → List ℕ → List ℕ → List ℕ → List Rule
certificate_rules L M P Z = list_rules L ++ (machine_rules M P ++ ((22, bad_certificate L M P Z) ∷ []))

abbrev pub certificate_refusal : List ℕ → List ℕ → List ℕ → List ℕ → ℕ
certificate_refusal L M P Z = verdict (certificate_rules L M P Z)
