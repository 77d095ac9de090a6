-- `good_instruction` looks the limits of a kind up. Assumes nothing.
use borrow.Author.Rules.{rules}
use native.Mathlib.Omega.{arith}
use lib.ListN.{get_or-eq_default}
use borrow.Author.Tests.{le-ltb}
use Rattle.machine.specs.Machine.{which_limits, good_instruction}
use Rattle.machine.proofs.good_instruction.Statement.{statement}
use Rattle.machine.proofs.good_instruction.Tie as tie

array-read-result : tie.Need-bounds-kind
array-read-result c = search rules

mul-result : tie.Need-offset_bounds-kind
mul-result c = search rules

array-read-result-2 : tie.Need-bounds-kind-then-kind-lt-KINDS
array-read-result-2 c = search rules

returns : tie.Need-returns-then-kind-lt-KINDS
unfolding good_instruction
returns c = search rules

returns-2 : tie.Need-returns
unfolding good_instruction
returns-2 c = rw (get_or-eq_default which_limits 0 {n = c.args.k} (omega arith), le-ltb c.args.w 0 (omega arith))

pub good_instruction_spec : {M : Type 1} → statement M
good_instruction_spec =
    tie.close (tie.spec array-read-result mul-result array-read-result-2 returns returns-2)
