-- Opening and feeding a flow by the automaton with bits and counters: what each call answers and leaves.
use Rattle.std.specs.Prelude.{ℕ, List, [], ◌∷◌, ◌++◌}
use Rattle.sets.specs.Set.{signatures, members}
use Rattle.rules.specs.Rules.{Rule}
use Rattle.feed.specs.Engine.{pairs_at, told, Outcome, feed}
use Rattle.feed.specs.Opening.{Opening, no_room, opening}
use Rattle.machine.specs.Machine.{state_count, machine_rules, machine, first, first_alerts}
use Rattle.machine.specs.Record.{flow_bytes, flow_layout, wrong_size, flow_rules}

-- ---- opening: 24, then 4 for the record's size alone, then 15 for the room of the pairs of offset 0

-- the words of the pairs that opening tells: (g, 0) for each signature g that the start state's program alerts, rising, each once
unfoldable pub open_pairs : List ℕ → List ℕ
open_pairs P = pairs_at 0 (members signatures (first_alerts P))

-- what is tested before the room: 24 and 4
abbrev pub first_rules : List ℕ → List ℕ → List ℕ → List Rule
first_rules M P R = machine_rules M P ++ ((4, wrong_size R) ∷ [])

abbrev pub open_rules : List ℕ → List ℕ → List ℕ → List ℕ → List Rule
open_rules M P R out = first_rules M P R ++ ((15, no_room (open_pairs P) out) ∷ [])

-- the record that opening leaves: the start state after its program, offset 0
abbrev pub opened : List ℕ → List ℕ
opened P = flow_bytes (first P) 0

-- opening on the record R, with the words `out`
abbrev pub extended_open : List ℕ → List ℕ → List ℕ → List ℕ → Opening
extended_open M P R out = opening (open_rules M P R out) (open_pairs P) (opened P) R out

-- the words of all pairs of a flow, from its opening on, that has consumed bs: the automaton's definition
abbrev pub pairs_of : List ℕ → List ℕ → List ℕ → List ℕ
pairs_of M P bs = open_pairs P ++ told (machine M P) (first P) 0 bs

-- ---- the feed: 24, then 4 to 6, then the longest front of the piece

abbrev pub feed_rules : List ℕ → List ℕ → List ℕ → ℕ → List ℕ → List Rule
feed_rules M P R at piece = machine_rules M P ++ flow_rules (state_count M) R at piece

abbrev pub extended_feed : List ℕ → List ℕ → List ℕ → ℕ → List ℕ → List ℕ → Outcome
extended_feed M P R at piece out = feed (feed_rules M P R at piece) (machine M P) flow_layout R piece out
