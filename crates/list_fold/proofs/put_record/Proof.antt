-- `put_record` writes the record with its new numbers. Assumes nothing.
use borrow.Author.Rules.{rules}
use mathlib.Core.Path.{◌∙◌}
use Rattle.list_fold.specs.Fold.{new_record}
use Rattle.list_fold.proofs.put_record.Statement.{statement}
use Rattle.list_fold.proofs.put_record.Tie as tie

new-from-requires : tie.Need-new_from-f-requires
new-from-requires c κs = let p = c.requires in (p.0, p.1, p.2)

new-target-requires : tie.Need-new_target-t-requires
new-target-requires c κs = let p = c.requires in (p.0, p.1, p.2)

copy-record-requires : tie.Need-copy_record-requires
copy-record-requires c κs = search rules

same_length : tie.Need-shape_of-out
same_length c = search rules

returns : tie.Need-returns
unfolding new_record
returns c = c.copy_record.ensures ∙ rw (c.new_from-f.ensures, c.new_target-t.ensures)

pub put_record_spec : {M : Type 1} → statement M
put_record_spec = tie.close (tie.spec new-from-requires new-target-requires copy-record-requires same_length returns)
