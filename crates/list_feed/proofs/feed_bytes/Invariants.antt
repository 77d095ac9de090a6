use Rattle.sets.specs.Set.{set_of}
use Rattle.feed.specs.inner.Going.{Going}
use Rattle.list_feed.specs.Plain.{plain}
use Rattle.list_feed.proofs.feed_bytes.Given as goal

abbrev pub invariant-loop-i : goal.invariant-loop-i
invariant-loop-i l = Going (plain l.list) (set_of l.fn.first) l.offset l.piece l.initial.pairs (set_of l.f) l.pairs l.i l.words l.rows
