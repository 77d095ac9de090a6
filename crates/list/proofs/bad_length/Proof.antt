-- `bad_length` is the definition, test by test. Assumes nothing.
use borrow.Author.Rules.{rules}
use Rattle.list.specs.List.{bad_length}
use mathlib.Core.Path.{refl}
use Rattle.list.proofs.bad_length.Statement.{statement}
use Rattle.list.proofs.bad_length.Tie as tie

mul-result : tie.Need-overflow_mul-result
mul-result c = search rules

returns : tie.Need-returns
unfolding bad_length
returns c = refl

pub bad_length_spec : {M : Type 1} → statement M
bad_length_spec = tie.close (tie.spec mul-result returns)
