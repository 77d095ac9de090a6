-- `feed_part` meets its promise: the feed of a part of the stream is a turn. Assumes nothing.
use borrow.Author.Rules.{rules}
use native.Mathlib.Omega.{arith}
use Rattle.laws.proofs.Driving.{turned}
use Rattle.laws.proofs.feed_part.Statement.{statement}
use Rattle.laws.proofs.feed_part.Tie as tie

sub-feed-by : tie.Need-slice_bounds-feed_by-count
sub-feed-by c = search rules

part-feed-by-start : tie.Need-slice_bounds-feed_by-start
part-feed-by-start c = search rules

part-feed-by-end : tie.Need-slice_bounds-feed_by-end
part-feed-by-end c = search rules

mul-feed-by : tie.Need-offset_bounds-pairs-w
mul-feed-by c = search rules

sub-feed-by-2 : tie.Need-slice_bounds-feed_by-count-2
sub-feed-by-2 c = search rules

part-feed-by-start-2 : tie.Need-slice_bounds-feed_by-start-2
part-feed-by-start-2 c = search rules

part-feed-by-end-2 : tie.Need-slice_bounds-feed_by-end-2
part-feed-by-end-2 c = search rules

feed-by-requires : tie.Need-feed_by-requires
feed-by-requires c κs = search rules

same_length : tie.Need-shape_of-flow
same_length c = search rules

same-length-2 : tie.Need-shape_of-pairs
same-length-2 c = search rules

returns : tie.Need-returns
returns c =
    turned _ _ _ _ _ _ _ _ _ _ _ _ _ (omega arith) (omega arith) (omega arith) (omega arith)
    (λ i. (c.shared_slice_known-8-1.given i).fits) (search rules) c.feed_by.ensures

pub feed_part_spec : {M : Type 1} → statement M
feed_part_spec =
    tie.close
    (tie.spec
    sub-feed-by
    part-feed-by-start
    part-feed-by-end
    mul-feed-by
    sub-feed-by-2
    part-feed-by-start-2
    part-feed-by-end-2
    feed-by-requires
    same_length
    same-length-2
    returns)
