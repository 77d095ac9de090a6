-- `bad_record` asks whether all records are good. Assumes nothing.
use borrow.Author.Rules.{rules}
use mathlib.Core.Path.{ap}
use mathlib.Core.Bool.{not}
use Rattle.rules.specs.Scan.{every}
use Rattle.list.specs.List.{bad_record}
use Rattle.list.proofs.bad_record.Statement.{statement}
use Rattle.list.proofs.bad_record.Tie as tie

records-requires : tie.Need-records-requires
records-requires c κs = search rules

good-from-requires : tie.Need-good_from-requires
good-from-requires c κs = search rules

returns : tie.Need-returns
unfolding bad_record every
returns c = ap not (rw c.records.ensures at c.good_from.ensures)

pub bad_record_spec : {M : Type 1} → statement M
bad_record_spec = tie.close (tie.spec records-requires good-from-requires returns)
