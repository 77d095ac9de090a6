-- `part_set` reads where the part stands; past the end the set is empty. Assumes nothing.
use borrow.Author.Rules.{rules}
use mathlib.Core.Path.{◌∙◌}
use native.Mathlib.Omega.{arith}
use Rattle.sets.specs.Set.{set_words}
use Rattle.sets.proofs.Sets.{empty-words}
use Rattle.table.specs.Table.{part}
use Rattle.table.proofs.Entries.{part-past}
use Rattle.table.proofs.part_set.Statement.{statement}
use Rattle.table.proofs.part_set.Tie as tie

part-count-requires : tie.Need-part_count-requires
part-count-requires c κs = search rules

mul-set-at : tie.Need-overflow_mul-p
mul-set-at c = search rules

set-at-requires : tie.Need-set_at-requires
set-at-requires c κs = search rules

returns : tie.Need-returns-then-p-part_count
unfolding part
returns c = c.set_at.ensures

returns-2 : tie.Need-returns-else-p-part_count
returns-2 c = empty-words set_words ∙ part-past c.args.parts.now c.args.p (omega arith)

pub part_set_spec : {M : Type 1} → statement M
part_set_spec = tie.close (tie.spec part-count-requires mul-set-at set-at-requires returns returns-2)
