-- `hull_of` widens the hull byte by byte. Assumes nothing.
use Rattle.std.proofs.Common.{arith}
use Rattle.index_blocks.proofs.Blocks.{least-min, hull-more}
use Rattle.index_blocks.proofs.hull_of.Goals as goal

pub loop-i-init : goal.loop-i-init
loop-i-init c = record { small = omega arith; covered = λ k f l. absurd (omega (arith, f, l)) }

pub loop-i-preserved : goal.loop-i-preserved
loop-i-preserved c =
    let a = c.args in
    let l = c.loop-i in
    let lo = least-min l.low c.choose.result c.min-low.result c.min-low.ensures in
    record {
      small = omega (arith, c.min-low.ensures, l.invariant.small);
      covered = hull-more a.index.now a.place a.w a.from l.i l.low l.high c.min-low.result c.max-high.result c.choose-in-loop-i.result
          (cc lo) (omega (arith, c.max-high.ensures)) (cc) (omega (arith, c.max-high.ensures)) l.invariant.covered;
    }

pub returns : goal.returns
returns c =
    let l = c.loop-i in
    (l.invariant.small, λ k f h. l.invariant.covered k f (omega (arith, h)))
