-- `watch_prepared_feed` hands on what `index_feed::feed` answers and leaves. Assumes nothing.
use borrow.Author.Rules.{rules}
use mathlib.Core.Path.{◌∙◌}
use Rattle.watch_c.proofs.Facing.{faced, stood-fits}
use Rattle.watch_c.proofs.watch_prepared_feed.Statement.{statement}
use Rattle.watch_c.proofs.watch_prepared_feed.Tie as tie

feed-requires : tie.Need-feed-s-requires
feed-requires c κs = search rules

face-stood-requires : tie.Need-face_stood-requires
face-stood-requires c κs =
    let feeding = c.before.before.before.before in
    let start = feeding in
    stood-fits _ _ start.args.split _ _ _ _ _ feeding.feed-s.ensures.1 start.ranges.split.fits

same_length : tie.Need-shape_of-flow
same_length c = search rules

same-length-2 : tie.Need-shape_of-pairs
same-length-2 c = search rules

returns : tie.Need-returns
returns c =
    let feeding = c in
    (faced feeding.feed-s.ensures.0 c.face_stood.ensures.0, c.face_stood.ensures.1 ∙ feeding.feed-s.ensures.1)

pub watch_prepared_feed_spec : {M : Type 1} → statement M
watch_prepared_feed_spec =
    tie.close (tie.spec feed-requires face-stood-requires same_length same-length-2 returns)
