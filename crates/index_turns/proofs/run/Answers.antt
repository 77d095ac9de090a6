-- `run` goes on by stretches, and by blocks at a place where one stayed; each adds to `Goes`. Assumes nothing.
use Rattle.std.proofs.Common.{◌+◌, refl, sym, ◌∙◌, arith}
use mathlib.Core.Bool.{true≢false}
use Rattle.index_turns.proofs.Striding.{quietly, then, led-to}
use Rattle.index_turns.proofs.run.Goals as goal

pub returns-in-Break : goal.returns-in-Break
returns-in-Break c =
    let l = c.loop-i in
    let s = c.in-Break.s in
    let d = rw c.in-Break.is at c.stretch-strode.ensures in
    record {
      since = omega arith;
      upto = omega (arith, d.upto, c.stretch_end.ensures.1);
      few = omega (arith, d.few, l.invariant.few);
      many = d.many ∙ l.invariant.many;
      within = d.within;
      goes = then l.invariant.goes d.goes (l.rows + s.rows) refl;
      on = λ e. absurd (true≢false (sym e));
      off = λ e. d.off refl;
    }

pub loop-i-preserved-then-s-at : goal.loop-i-preserved-then-s-at
loop-i-preserved-then-s-at c =
    let l = c.loop-i in
    let s = c.in-Continue.s in
    let d = rw c.in-Continue.is at c.stretch-strode.ensures in
    record {
      most = omega (arith, d.upto, c.stretch_end.ensures.1);
      whole = (d.on refl).0;
      few = omega (arith, d.few, l.invariant.few);
      many = d.many ∙ l.invariant.many;
      within = d.within;
      ranges = l.invariant.ranges;
      goes = then l.invariant.goes d.goes (l.rows + s.rows) refl;
    }

pub loop-i-preserved-then-piece-i-lt-WORTH : goal.loop-i-preserved-then-piece-i-lt-WORTH
loop-i-preserved-then-piece-i-lt-WORTH c =
    let l = c.loop-i in
    let s = c.in-Continue.s in
    let d = rw c.in-Continue.is at c.stretch-strode.ensures in
    record {
      most = omega (arith, d.upto, c.stretch_end.ensures.1);
      whole = l.invariant.whole;
      few = omega (arith, d.few, l.invariant.few);
      many = d.many ∙ l.invariant.many;
      within = d.within;
      ranges = l.invariant.ranges;
      goes = led-to (then l.invariant.goes d.goes (l.rows + s.rows) refl) l.at c.if-s-at.false;
    }

pub loop-i-preserved : goal.loop-i-preserved
loop-i-preserved c =
    let l = c.loop-i in
    let s = c.in-Continue.s in
    let d = rw c.in-Continue.is at c.stretch-strode.ensures in
    let k = c.calm-c.ensures in
    record {
      most = k.1;
      whole = l.invariant.whole;
      few = omega (arith, k.3, d.few, l.invariant.few);
      many = d.many ∙ l.invariant.many;
      within = d.within;
      ranges = c.ranges_of-r.ensures;
      goes = then (led-to (then l.invariant.goes d.goes (l.rows + s.rows) refl) l.at c.if-s-at.false)
          (quietly k.4 c.args.offset c.stretch-strode.new.pairs s.words) (l.rows + s.rows + c.calm-c.result.rows) refl;
    }
