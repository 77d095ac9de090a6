-- `drive_each` meets its promise by the promises of the functions that it calls. Assumes nothing.
use Rattle.std.proofs.Common.{rules}
use Rattle.segment_drivers.proofs.Driving.{segment-kept}
use Rattle.segment_drivers.proofs.drive_each.Statement.{statement}
use Rattle.segment_drivers.proofs.drive_each.Tie as tie

feed-segment-requires : tie.Need-feed_segment-plain-requires
feed-segment-requires c κs = search rules

split-feed-segment-requires : tie.Need-split_feed_segment-split-requires
split-feed-segment-requires c κs = search rules

same_length : tie.Need-shape_of-flow
same_length c = search rules

same-length-2 : tie.Need-shape_of-held
same-length-2 c = search rules

same-length-3 : tie.Need-shape_of-pairs
same-length-3 c = search rules

same-length-4 : tie.Need-shape_of-split_flow
same-length-4 c = search rules

same-length-5 : tie.Need-shape_of-split_held
same-length-5 c = search rules

same-length-6 : tie.Need-shape_of-split_pairs
same-length-6 c = search rules

returns : tie.Need-returns
returns c =
    let second = c.before.before.before.before.before.before in
    let first = second in (segment-kept _ _ _ _ _ _ _ _ first.feed_segment-plain.ensures, segment-kept _ _ _ _ _ _ _ _ second.split_feed_segment-split.ensures)

pub drive_each_spec : {M : Type 1} → statement M
drive_each_spec =
    tie.close
    (tie.spec
    feed-segment-requires
    split-feed-segment-requires
    same_length
    same-length-2
    same-length-3
    same-length-4
    same-length-5
    same-length-6
    returns)
