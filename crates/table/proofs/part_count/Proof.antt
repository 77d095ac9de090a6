-- `part_count` divides the list's length by that of one. Assumes nothing.
use mathlib.Core.Path.{refl}
use Rattle.table.proofs.part_count.Statement.{statement}
use Rattle.table.proofs.part_count.Tie as tie

returns : tie.Need-returns
returns c = refl

pub part_count_spec : {M : Type 1} → statement M
part_count_spec = tie.close (tie.spec returns)
