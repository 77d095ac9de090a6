-- `split_set` reads where the split stands; past the end the set is empty. Assumes nothing.
use borrow.Author.Rules.{rules}
use mathlib.Core.Path.{◌∙◌}
use native.Mathlib.Omega.{arith}
use Rattle.sets.specs.Set.{set_words}
use Rattle.sets.proofs.Sets.{empty-words}
use Rattle.table.specs.Table.{split_set}
use Rattle.table.proofs.Entries.{split-past}
use Rattle.table.proofs.split_set.Statement.{statement}
use Rattle.table.proofs.split_set.Tie as tie

split-count-requires : tie.Need-split_count-requires
split-count-requires c κs = search rules

mul-set-at : tie.Need-overflow_mul-i
mul-set-at c = search rules

set-at-requires : tie.Need-set_at-requires
set-at-requires c κs = search rules

returns : tie.Need-returns-then-i-split_count
unfolding split_set
returns c = c.set_at.ensures

returns-2 : tie.Need-returns-else-i-split_count
returns-2 c = empty-words set_words ∙ split-past c.args.splits.now c.args.i (omega arith)

pub split_set_spec : {M : Type 1} → statement M
split_set_spec = tie.close (tie.spec split-count-requires mul-set-at set-at-requires returns returns-2)
