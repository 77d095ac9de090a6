-- The counters passed are written. Assumes nothing.
use Rattle.std.proofs.Common.{◌≡◌, take}
use Rattle.numbers.specs.Number.{placed}
use Rattle.machine.specs.Record.{four_bytes}
use Rattle.machine.proofs.put_counters.Given as goal

abbrev pub invariant-loop-i : goal.invariant-loop-i
invariant-loop-i l = l.flow ≡ placed l.initial.flow 16 (four_bytes (take l.i l.values))
