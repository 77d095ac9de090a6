-- The note that the looks leave is the definition's split. Assumes nothing.
use Rattle.std.proofs.Common.{◌∙◌}
use Rattle.segment_feed.specs.Post.{sent, kept}
use Rattle.segment_index.proofs.Standing.{stood-noted}
use Rattle.segment_index.proofs.feed_segment.Goals as goal

pub returns : goal.returns
returns c =
    let a = c.args in (
      c.feed_by-heard.ensures.hears,
      c.feed_by-heard.ensures.notes ∙ stood-noted a.splits.now a.index.now a.hint (sent a.first a.start a.segment.now) (kept a.flow.now a.held.now a.held_start a.held_length) a.pairs.now,
    )
