-- `watch_feed_segment` hands on what the library's answers and leaves. Assumes nothing.
use Rattle.watch_c.proofs.watch_feed_segment.Goals as goal

pub returns : goal.returns
returns c = rw c.from.ensures c.feed_segment-h.ensures
