-- `bad_lengths` tests the moves, then the programs. Assumes nothing.
use borrow.Author.Rules.{rules}
use Rattle.machine.specs.Machine.{bad_lengths}
use Rattle.machine.proofs.bad_lengths.Statement.{statement}
use Rattle.machine.proofs.bad_lengths.Tie as tie

mul-if1 : tie.Need-overflow_mul-t-5
mul-if1 c = search rules

returns : tie.Need-returns-then-moves
unfolding bad_lengths
returns c = rw c.if-moves.true

mul-result : tie.Need-overflow_mul-result
mul-result c = search rules

returns-2 : tie.Need-returns
unfolding bad_lengths
returns-2 c = rw c.if-moves.false

pub bad_lengths_spec : {M : Type 1} → statement M
bad_lengths_spec = tie.close (tie.spec mul-if1 returns mul-result returns-2)
