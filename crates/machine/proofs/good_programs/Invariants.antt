-- Those passed are good. Assumes nothing.
use Rattle.std.proofs.Common.{◌≡◌, true}
use Rattle.rules.specs.Scan.{every}
use Rattle.machine.specs.Machine.{good_record}
use Rattle.machine.proofs.good_programs.Given as goal

abbrev pub invariant-loop-i : goal.invariant-loop-i
invariant-loop-i l = every l.i (good_record l.programs) ≡ true
