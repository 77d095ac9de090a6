use Rattle.std.proofs.Common.{◌≤◌, ◌+◌, arith}
use Rattle.sets.specs.Set.{set_of}
use Rattle.text_walk.proofs.Loops.{seam-in, seam-skip}
use Rattle.text_walk.proofs.seam.Goals as goal

pub loop-t-preserved : goal.loop-t-preserved
loop-t-preserved c =
    let a = c.args in
    let l = c.loop-t in
    let u = c.enter in
    let n = c.next_state-t-in-loop-t.ensures in
    let k : l.t + 1 ≤ c.next_state-t-in-loop-t.result = n.least (omega arith) in (
      omega (arith, l.invariant.0),
      n.most,
      n.there,
      seam-skip (set_of a.from) (set_of a.to) a.low a.rows.now u.new.rows (l.t + 1) c.next_state-t-in-loop-t.result (omega (arith, l.invariant.0)) k n.skipped
          (seam-in (set_of a.from) (set_of a.to) a.low a.rows.now l.rows u.new.rows l.t l.invariant.0 (l.invariant.2 c.loop-t-test.true) u.ensures l.invariant.3),
    )
