-- `turn` meets its promise: a segment of a part of the bytes, with a part of the words, is a turn. Assumes nothing.
use Rattle.std.proofs.Common.{◌+◌, ◌*◌, ◌≤◌, length, arith, rules}
use Rattle.table.specs.Table.{table}
use Rattle.segment_drivers.specs.Drivers.{by_flag}
use Rattle.segment_drivers.proofs.Driving.{turned-fits, turned}
use Rattle.segment_drivers.proofs.turn.Statement.{statement}
use Rattle.segment_drivers.proofs.turn.Tie as tie

-- what is told fits the words
fits : (c : tie.After-hear-heard) → c.args.so.words + 2 * c.hear-heard.result.pairs ≤ length c.args.pairs.now
fits c =
    let e = c in
    let a = e.args in
    turned-fits a.list.now (by_flag a.through a.bound (table a.classes.now a.parts.now a.rows.now a.splits.now)) a.first a.start _ a.so a.v a.pairs.now a.flow.now a.held.now e.requires.2 e.requires.3 _ _ _ _ c.hear-heard.ensures

sub-hear : tie.Need-slice_bounds-hear-count
sub-hear c = search rules

part-hear-start : tie.Need-slice_bounds-hear-start
part-hear-start c = search rules

part-hear-end : tie.Need-slice_bounds-hear-end
part-hear-end c = search rules

mul-hear : tie.Need-offset_bounds-pairs-w
mul-hear c = search rules

sub-hear-2 : tie.Need-slice_bounds-hear-count-2
sub-hear-2 c = search rules

part-hear-start-2 : tie.Need-slice_bounds-hear-start-2
part-hear-start-2 c = search rules

part-hear-end-2 : tie.Need-slice_bounds-hear-end-2
part-hear-end-2 c = search rules

hear-requires : tie.Need-hear-heard-requires
hear-requires c κs = search rules

mul-t25 : tie.Need-overflow_mul-result
mul-t25 c = let heard = c.before.before.before.before.before.before.before in omega (arith, fits heard, heard.well_formed.1.1.1.1.1.1.1.1.1.1.1.1.1.1.1.0.0)

add-t30 : tie.Need-overflow_add-result
add-t30 c = let heard = c.before.before.before.before.before.before.before in omega (arith, fits heard, heard.well_formed.1.1.1.1.1.1.1.1.1.1.1.1.1.1.1.0.0)

same_length : tie.Need-shape_of-flow
same_length c = search rules

same-length-2 : tie.Need-shape_of-held
same-length-2 c = search rules

same-length-3 : tie.Need-shape_of-pairs
same-length-3 c = search rules

returns : tie.Need-returns
returns c =
    let heard = c.before.before.before.before.before.before.before in
    let e = heard in
    let a = e.args in
    turned a.list.now (by_flag a.through a.bound (table a.classes.now a.parts.now a.rows.now a.splits.now)) a.first a.start _ a.so a.v a.pairs.now a.flow.now a.held.now e.requires.2 e.requires.3 _ _ _ _ heard.hear-heard.ensures

pub turn_spec : {M : Type 1} → statement M
turn_spec =
    tie.close
    (tie.spec
    sub-hear
    part-hear-start
    part-hear-end
    mul-hear
    sub-hear-2
    part-hear-start-2
    part-hear-end-2
    hear-requires
    mul-t25
    add-t30
    same_length
    same-length-2
    same-length-3
    returns)
