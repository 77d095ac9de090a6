-- `reserved_of` meets its promise. Assumes nothing.
use borrow.Author.Rules.{rules}
use Rattle.list_flow.proofs.reserved_of.Statement.{statement}
use Rattle.list_flow.proofs.reserved_of.Tie as tie

number-at-requires : tie.Need-number_at-requires
number-at-requires c κs = search rules

returns : tie.Need-returns
returns c = c.number_at.ensures

pub reserved_of_spec : {M : Type 1} → statement M
reserved_of_spec = tie.close (tie.spec number-at-requires returns)
