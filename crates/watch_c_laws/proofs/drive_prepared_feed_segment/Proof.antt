-- `drive_prepared_feed_segment` hands on what `watch_prepared_feed_segment` answers and leaves. Assumes nothing.
use borrow.Author.Rules.{rules}
use Rattle.watch_c_laws.proofs.drive_prepared_feed_segment.Statement.{statement}
use Rattle.watch_c_laws.proofs.drive_prepared_feed_segment.Tie as tie

watch-prepared-feed-segment-requires : tie.Need-watch_prepared_feed_segment-requires
watch-prepared-feed-segment-requires c κs = search rules

same_length : tie.Need-shape_of-flow
same_length c = c.watch_prepared_feed_segment.auto.flow

same-length-2 : tie.Need-shape_of-held
same-length-2 c = c.watch_prepared_feed_segment.auto.held

same-length-3 : tie.Need-shape_of-pairs
same-length-3 c = c.watch_prepared_feed_segment.auto.pairs

returns : tie.Need-returns
returns c = c.watch_prepared_feed_segment.ensures

pub drive_prepared_feed_segment_spec : {M : Type 1} → statement M
drive_prepared_feed_segment_spec =
    tie.close (tie.spec watch-prepared-feed-segment-requires same_length same-length-2 same-length-3 returns)
