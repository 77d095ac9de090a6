-- Any number of feeds by the automaton with bits and counters on one saved flow, each with the two lists, start, piece and words of its own.
use Rattle.std.specs.Prelude.{ℕ, List, ◌≡◌}
use Rattle.feed.specs.Calls.{Way}
use Rattle.feed.specs.Calls as feed
use Rattle.machine.specs.declared.Config.{Config}
use Rattle.machine.specs.Machine.{machine}
use Rattle.machine.specs.Record.{flow_layout}
use Rattle.machine.specs.Extended.{feed_rules}

-- by what a call goes: the two lists
pub record MachineBy : Type 0 where
  pub moves : List ℕ
  pub programs : List ℕ

abbrev pub Call : Type 0
Call = feed.Call MachineBy

abbrev pub way_of : MachineBy → Way
way_of b = record { Config = Config; rules = feed_rules b.moves b.programs; engine = machine b.moves b.programs; layout = flow_layout }

-- by the lists M and P
abbrev pub OnMachine : List ℕ → List ℕ → MachineBy → Type 0
OnMachine M P b = (b.moves ≡ M) × (b.programs ≡ P)
