-- `first_in` keeps the least place met so far. Assumes nothing.
use Rattle.std.proofs.Common.{refl}
use Rattle.index_blocks.specs.inner.Ranges.{met}
use Rattle.index_blocks.proofs.Blocks.{least-min, met-more}
use Rattle.index_blocks.proofs.first_in.Goals as goal

pub loop-i-init : goal.loop-i-init
unfolding met
loop-i-init c = refl

pub loop-i-preserved : goal.loop-i-preserved
loop-i-preserved c =
    let l = c.loop-i in
    met-more _ l.i l.f c.min-f.result l.invariant (cc (least-min l.f c.choose.result c.min-f.result c.min-f.ensures))
