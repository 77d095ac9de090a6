-- One byte more in each turn of the loop. Assumes nothing.
use Rattle.std.proofs.Common.{◌≡◌, ◌+◌, ◌<◌, length, refl, arith}
use Rattle.index_quiet.proofs.Moving.{still, on}
use Rattle.index_quiet.proofs.few.Goals as goal

pub loop-i-init : goal.loop-i-init
loop-i-init c =
    let a = c.args in
    record { whole = c.requires.0; few = omega arith; moves = still a.index.now a.piece.now 0 a.place }

pub returns-then-end-w : goal.returns-then-end-w
returns-then-end-w c =
    let i = c.loop-i.invariant in
    (omega arith, i.whole, i.few, i.moves)

pub loop-i-preserved : goal.loop-i-preserved
loop-i-preserved c =
    let l = c.loop-i in
    let t : l.i < length c.args.piece.now = omega arith in
    record {
      whole = omega arith;
      few = omega (arith, l.invariant.few, c.cost_at-rows.ensures.1);
      moves = on l.invariant.moves (l.i + 1) c.word_at-w.result (l.rows + c.cost_at-rows.result) t l.invariant.whole c.word_at-w.ensures (omega arith) refl (omega (arith, c.cost_at-rows.ensures.0));
    }

pub returns : goal.returns
returns c =
    let i = c.loop-i.invariant in
    let e : c.loop-i.i ≡ length c.args.piece.now = omega arith in
    (omega arith, i.whole, rw e at i.few, rw e at i.moves)
