-- After i looks the code stands where the definition does, and the note is the definition's. Assumes nothing.
use Rattle.segment_feed.specs.Post.{sent, kept}
use Rattle.segment_feed.proofs.Hearing.{Stands}
use Rattle.segment_feed.proofs.Noting.{Noted}
use Rattle.segment_feed.proofs.feed_by.Given as goal

abbrev pub invariant-loop-i : goal.invariant-loop-i
invariant-loop-i g l =
    let W = g.E.Feeds.way l.engine in
    let G = sent l.first l.start l.segment in
    let K = kept l.initial.flow l.initial.held l.held_start l.held_length in
    record {
      stands : Stands W G K l.initial.pairs l.i l.so l.pairs l.flow l.held;
      note : Noted W (g.E.Feeds.says l.engine) G K l.initial.pairs l.initial.note l.i l.note;
    }
