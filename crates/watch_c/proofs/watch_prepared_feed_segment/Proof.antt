-- `watch_prepared_feed_segment` hands on what `segment_index::feed_segment` answers and leaves. Assumes nothing.
use borrow.Author.Rules.{rules}
use native.Mathlib.Omega.{arith}
use Rattle.segment_feed.specs.Post.{sent, kept}
use Rattle.watch_c.proofs.Segments.{stood-by-fits}
use Rattle.watch_c.proofs.watch_prepared_feed_segment.Statement.{statement}
use Rattle.watch_c.proofs.watch_prepared_feed_segment.Tie as tie

feed-segment-requires : tie.Need-feed_segment-s-requires
feed-segment-requires c κs = search rules

cast-t23 : tie.Need-overflow_cast-result
cast-t23 c =
    let fed = c.before.before.before.before.before.before.before.before in
    let start = fed in
    let a = start.args in
    let fits = stood-by-fits a.splits.now a.index.now a.split (sent a.first a.start a.segment.now) (kept a.flow.now a.held.now a.held_start a.held_length) a.pairs.now
    fed.feed_segment-s.result.split fed.feed_segment-s.ensures.1 start.ranges.split.fits in
    omega (arith, fits)

same_length : tie.Need-shape_of-flow
same_length c = c.feed_segment-s.auto.flow

same-length-2 : tie.Need-shape_of-held
same-length-2 c = c.feed_segment-s.auto.held

same-length-3 : tie.Need-shape_of-pairs
same-length-3 c = c.feed_segment-s.auto.pairs

returns : tie.Need-returns
returns c = c.feed_segment-s.ensures

pub watch_prepared_feed_segment_spec : {M : Type 1} → statement M
watch_prepared_feed_segment_spec =
    tie.close (tie.spec feed-segment-requires cast-t23 same_length same-length-2 same-length-3 returns)
