-- Four looks are enough by an index and by a machine as well: both ways read again the offset that they saved. Assumes nothing.
use Prim.Native.Nat.{ℕ}
use mathlib.Core.List.{List}
use Rattle.list_flow.proofs.Records.{offset-flow}
use Rattle.index.proofs.Lawful.{stand-passes}
use Rattle.machine.proofs.Records as x
use Rattle.machine.proofs.Feeding.{feed-passes}
use Rattle.segment_feed.proofs.Enough.{Steady}
use Rattle.segment_index.specs.Standing.{stand_way}
use Rattle.segment_machine.specs.Ways.{machine_way}

pub stand-steady : (S X : List ℕ) (h : ℕ) → Steady (stand_way S X h)
stand-steady S X h = record { reads = λ y k n l. offset-flow y.frontier k n l; short = λ R at piece v. (stand-passes S X h R at piece v).2 }

pub machine-steady : (M P : List ℕ) → Steady (machine_way M P)
machine-steady M P = record { reads = λ y k n l. x.offset-flow y k l; short = λ R at piece v. (feed-passes M P R at piece v).3 }
