-- Feeds of a list and feeds of a machine go as their automaton goes, so that segments of each do. Assumes nothing.
use Prim.Native.Nat.{ℕ}
use mathlib.Core.List.{List}
use mathlib.Core.Path.{◌≡◌, refl}
use Rattle.list.specs.Automaton.{start, accepted}
use Rattle.feed.specs.Calls.{Bytes}
use Rattle.list_flow.specs.Flow.{flow_layout}
use Rattle.list_flow.specs.Opening.{open_flow}
use Rattle.list_feed.specs.Plain.{plain}
use Rattle.machine.specs.Machine.{machine, first, first_alerts}
use Rattle.machine.specs.Record as x
use Rattle.machine.specs.Extended.{extended_open}
use Rattle.laws.specs.Calls.{way_of, OnList}
use Rattle.laws.specs.Demands.{Swapped}
use Rattle.laws.proofs.Swapping.{swapped}
use Rattle.machine_laws.specs.Calls as machines
use Rattle.machine_laws.specs.Demands.{Demand2Opened}
use Rattle.machine_laws.proofs.Demand2.{demand-2-opened}
use Rattle.segment_feed.proofs.Streams.{Goes, streamed, restarted}
use Rattle.segment_laws.specs.Streams.{ListStreams, ListRestarts, MachineStreams, MachineRestarts}

list-goes : (L R out : List ℕ) → (open_flow L R out).refusal ≡ 0
    → Goes way_of flow_layout (plain L) (start L) (accepted L (start L)) (Swapped L (open_flow L R out)) (OnList L) (open_flow L R out)
list-goes L R out z =
    record {
      reads = λ b Q. refl;
      flows = λ cs hb h. (swapped L R out z cs hb h).flows;
      demand = swapped L R out z;
    }

machine-goes : (M P : List ℕ) → Bytes M → Bytes P → (R out : List ℕ) → (extended_open M P R out).refusal ≡ 0
    → Goes machines.way_of x.flow_layout (machine M P) (first P) (first_alerts P) (Demand2Opened M P (extended_open M P R out)) (machines.OnMachine M P) (extended_open M P R out)
machine-goes M P hm hp R out z =
    record {
      reads = λ b Q. refl;
      flows = λ cs hb h. (demand-2-opened M P hm hp R out z cs hb h).flows;
      demand = demand-2-opened M P hm hp R out z;
    }

-- by the list alone, through tables, by matrices and by indexes, changed at any segment
pub list-streams : ListStreams
list-streams L R out z = streamed _ _ _ _ _ _ _ _ (list-goes L R out z)

pub list-restarts : ListRestarts
list-restarts L R out z = restarted _ _ _ _ _ _ _ _ (list-goes L R out z)

-- by a machine
pub machine-streams : MachineStreams
machine-streams M P hm hp R out z = streamed _ _ _ _ _ _ _ _ (machine-goes M P hm hp R out z)

pub machine-restarts : MachineRestarts
machine-restarts M P hm hp R out z = restarted _ _ _ _ _ _ _ _ (machine-goes M P hm hp R out z)
