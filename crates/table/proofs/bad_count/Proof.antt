-- `bad_count` is the definition, test by test. Assumes nothing.
use borrow.Author.Rules.{rules}
use mathlib.Core.Path.{refl}
use Rattle.table.specs.Table.{bad_count}
use Rattle.table.proofs.bad_count.Statement.{statement}
use Rattle.table.proofs.bad_count.Tie as tie

mul-result : tie.Need-overflow_mul-result
mul-result c = search rules

rem-result : tie.Need-nonzero_rem-result
rem-result c = search rules

returns : tie.Need-returns
unfolding bad_count
returns c = refl

pub bad_count_spec : {M : Type 1} → statement M
bad_count_spec = tie.close (tie.spec mul-result rem-result returns)
