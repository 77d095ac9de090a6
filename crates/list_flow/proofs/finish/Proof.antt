-- `finish` meets its promise. Assumes nothing.
use borrow.Author.Rules.{rules}
use Rattle.list_flow.proofs.finish.Statement.{statement}
use Rattle.list_flow.proofs.finish.Tie as tie

offset-of-requires : tie.Need-offset_of-requires
offset-of-requires c κs = search rules

add-offset : tie.Need-overflow_add-offset
add-offset c = search rules

rows-of-requires : tie.Need-rows_of-requires
rows-of-requires c κs = search rules

add-rows : tie.Need-overflow_add-rows
add-rows c = search rules

save-requires : tie.Need-save-requires
save-requires c κs = search rules

ended-requires : tie.Need-ended-requires
ended-requires c κs = search rules

same_length : tie.Need-shape_of-flow
same_length c = search rules

returns : tie.Need-returns
returns c =
    let save = c.before.before.before in
    let rows = save.before.before.before.before in
    record { fed = c.ended.ensures; saved = rw (rows.rows_of.ensures, rows.offset_of.ensures) at save.save.ensures }

pub finish_spec : {M : Type 1} → statement M
finish_spec = tie.close (tie.spec offset-of-requires add-offset rows-of-requires add-rows save-requires ended-requires same_length returns)
