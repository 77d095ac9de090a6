-- `hear` meets its promise: that of the segment's feed that it calls. Assumes nothing.
use Rattle.std.proofs.Common.{rules}
use Rattle.segment_drivers.proofs.hear.Statement.{statement}
use Rattle.segment_drivers.proofs.hear.Tie as tie

split-feed-segment-requires : tie.Need-split_feed_segment-requires
split-feed-segment-requires c κs = search rules

same_length : tie.Need-shape_of-flow-then-through
same_length c = search rules

same-length-2 : tie.Need-shape_of-held-then-through
same-length-2 c = search rules

same-length-3 : tie.Need-shape_of-pairs-then-through
same-length-3 c = search rules

returns : tie.Need-returns-then-through
returns c =
    let heard = c in
    rw heard.if-through.true heard.split_feed_segment.ensures

feed-segment-requires : tie.Need-feed_segment-requires
feed-segment-requires c κs = search rules

same-length-4 : tie.Need-shape_of-flow
same-length-4 c = search rules

same-length-5 : tie.Need-shape_of-held
same-length-5 c = search rules

same-length-6 : tie.Need-shape_of-pairs
same-length-6 c = search rules

returns-2 : tie.Need-returns
returns-2 c =
    let heard = c in
    rw heard.if-through.false heard.feed_segment.ensures

pub hear_spec : {M : Type 1} → statement M
hear_spec =
    tie.close
    (tie.spec
    split-feed-segment-requires
    same_length
    same-length-2
    same-length-3
    returns
    feed-segment-requires
    same-length-4
    same-length-5
    same-length-6
    returns-2)
