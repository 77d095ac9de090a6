-- `leaving` takes the hulls of two zones. Assumes nothing.
use Rattle.index_blocks.proofs.Blocks.{ranges-cover}
use Rattle.index_blocks.proofs.leaving.Goals as goal

pub returns : goal.returns
returns c =
    let a = c.args in
    let h = c.hull_of-a in
    let k = c.hull_of-b in
    ranges-cover a.index.now a.place a.w h.result.low c.more_of.result h.result.high k.result.low c.more_of-2.result k.result.high
    h.ensures.0 k.ensures.0 h.ensures.1 c.more_of.ensures k.ensures.1 c.more_of-2.ensures
