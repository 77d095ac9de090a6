-- The loop stands after i looks where the definition does. Assumes nothing.
use Rattle.std.proofs.Common.{◌≡◌, ◌∙◌, arith}
use Rattle.segment_feed.specs.Segment.{most_looks}
use Rattle.segment_feed.specs.Post.{sent, kept}
use Rattle.segment_feed.proofs.Hearing.{door-is, stands-begun, roomy, stands-more, hears-so}
use Rattle.segment_feed.proofs.Noting.{noted-begun, noted-looks}
use Rattle.segment_feed.proofs.feed_by.Goals as goal

pub loop-i-init : goal.loop-i-init
loop-i-init g c =
    let a = c.args in
    let W = g.E.Feeds.way a.engine.now in
    let G = sent a.first a.start a.segment.now in
    let K = kept a.flow.now a.held.now a.held_start a.held_length in
    record {
      stands = rw c.begun-so.ensures
          (stands-begun W G K a.pairs.now _ (c.door-refusal.ensures ∙ door-is W G K a.pairs.now _ (rw c.offset-at.ensures at c.refusal-met.ensures)));
      note = noted-begun W (g.E.Feeds.says a.engine.now) G K a.pairs.now a.note.now;
    }

pub look-so-requires : goal.look-so-requires
look-so-requires g c =
    let a = c.args in
    let W = g.E.Feeds.way a.engine.now in
    let G = sent a.first a.start a.segment.now in
    let K = kept a.flow.now a.held.now a.held_start a.held_length in
    roomy W G K a.pairs.now _ _ _ _ _ (omega arith) c.loop-i.invariant.stands

pub loop-i-preserved : goal.loop-i-preserved
loop-i-preserved g c =
    let a = c.args in
    let W = g.E.Feeds.way a.engine.now in
    let G = sent a.first a.start a.segment.now in
    let K = kept a.flow.now a.held.now a.held_start a.held_length in
    record {
      stands = stands-more W G K a.pairs.now _ _ _ _ _ _ _ _ _ c.look-so.ensures.looks c.loop-i.invariant.stands;
      note = noted-looks W (g.E.Feeds.says a.engine.now) G K a.pairs.now a.note.now _ _ _ _ _ _ _ c.look-so.ensures.notes c.loop-i.invariant.stands c.loop-i.invariant.note;
    }

pub returns-clause-hears : goal.returns-clause-hears
returns-clause-hears g c =
    let a = c.args in
    let W = g.E.Feeds.way a.engine.now in
    let G = sent a.first a.start a.segment.now in
    let K = kept a.flow.now a.held.now a.held_start a.held_length in
    let q : c.loop-i.i ≡ most_looks = omega arith in
    rw c.answered.ensures (hears-so W G K a.pairs.now _ _ _ _ (rw q at c.loop-i.invariant.stands))

pub returns-clause-notes : goal.returns-clause-notes
returns-clause-notes g c = let q : c.loop-i.i ≡ most_looks = omega arith in rw q at c.loop-i.invariant.note
