-- `note_loop` counts the record, marks its state, and where every byte takes it puts the state among those that stay. Assumes nothing.
use Rattle.list.specs.List.{target}
use Rattle.list_join.proofs.Marking.{count_low, seen-loop}
use native.Mathlib.Omega.{arith}
use borrow.Author.Rules.{rules}
use Rattle.list_join.proofs.note_loop.Statement.{statement}
use Rattle.list_join.proofs.note_loop.Tie as tie

target-requires : tie.Need-target-t-requires
target-requires c κs = search rules

put-spare-requires : tie.Need-put_spare-requires
put-spare-requires c κs =
    let a = c.args in
    let e = c.target-t.ensures in
    (omega (arith, e, c.requires.3, c.requires.5.long), rw e (count_low a.list.now a.i a.marks.now a.staying.now a.spares.now c.requires.5 (target a.list.now a.i) c.requires.3 c.requires.1))

put-flag-requires : tie.Need-put_flag-requires
put-flag-requires c κs = search rules

full-requires : tie.Need-full-requires
full-requires c κs = search rules

put-mark-requires : tie.Need-put_mark-requires
put-mark-requires c κs = search rules

same_length : tie.Need-shape_of-marks
same_length c = search rules

same-length-2 : tie.Need-shape_of-staying
same-length-2 c = search rules

same-length-3 : tie.Need-shape_of-spares
same-length-3 c = search rules

returns : tie.Need-returns
returns c =
    let a = c.args in
    rw (c.put_mark.ensures, c.put_flag.ensures, c.put_spare.ensures, c.target-t.ensures)
    (seen-loop a.list.now a.i a.marks.now a.staying.now a.spares.now c.requires.5 c.requires.2 (omega (arith, c.requires.3, c.requires.4)) c.requires.3 c.requires.4 c.full.result c.full.ensures)

pub note_loop_spec : {M : Type 1} → statement M
note_loop_spec =
    tie.close
    (tie.spec
    target-requires
    put-spare-requires
    put-flag-requires
    full-requires
    put-mark-requires
    same_length
    same-length-2
    same-length-3
    returns)
