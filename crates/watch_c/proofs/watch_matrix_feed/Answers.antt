-- `watch_matrix_feed` hands on what the library's feed answers and leaves. Assumes nothing.
use Rattle.watch_c.proofs.Facing.{faced}
use Rattle.watch_c.proofs.watch_matrix_feed.Goals as goal

pub returns : goal.returns
returns c = faced c.feed-f.ensures c.from.ensures
