-- Opening a flow of a list: what it answers and leaves.
use Rattle.std.specs.Prelude.{ℕ, List, [], ◌∷◌, ◌++◌}
use Rattle.sets.specs.Set.{signatures, members}
use Rattle.rules.specs.Rules.{Rule}
use Rattle.list.specs.List.{list_rules}
use Rattle.list.specs.Automaton.{start, accepted}
use Rattle.feed.specs.Engine.{pairs_at}
use Rattle.feed.specs.Opening.{Opening, no_room, opening}
use Rattle.list_flow.specs.Flow.{flow_bytes, wrong_size}

-- ---- 1 to 3, then 4 for the record's size alone, then 15 for the room of the pairs of offset 0

-- the words of the pairs that opening tells: (g, 0) for each signature g that the start set accepts, rising, each once
unfoldable pub open_pairs : List ℕ → List ℕ
open_pairs L = pairs_at 0 (members signatures (accepted L (start L)))

-- what is tested before the room: 1 to 4
abbrev pub first_rules : List ℕ → List ℕ → List Rule
first_rules L R = list_rules L ++ ((4, wrong_size R) ∷ [])

abbrev pub open_rules : List ℕ → List ℕ → List ℕ → List Rule
open_rules L R out = first_rules L R ++ ((15, no_room (open_pairs L) out) ∷ [])

-- the record that opening leaves: the start states, offset 0, no rows read
abbrev pub opened : List ℕ → List ℕ
opened L = flow_bytes (start L) 0 0

-- opening on the record R, with the words `out`
abbrev pub open_flow : List ℕ → List ℕ → List ℕ → Opening
open_flow L R out = opening (open_rules L R out) (open_pairs L) (opened L) R out
