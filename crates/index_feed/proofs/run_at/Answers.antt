-- It comes to the end of a short piece by bytes that tell nothing, or runs. Assumes nothing.
use Rattle.std.proofs.Common.{refl, arith}
use mathlib.Core.Bool.{true≢false}
use Rattle.index_turns.proofs.Striding.{quietly}
use Rattle.index_feed.proofs.run_at.Goals as goal

pub returns-then-led-piece : goal.returns-then-led-piece
returns-then-led-piece c =
    let a = c.args in
    let e = c.few-led.ensures in
    record {
      since = omega arith;
      upto = e.0;
      few = omega (arith, e.2);
      many = refl;
      within = omega arith;
      goes = quietly e.3 a.offset a.pairs.now 0;
      on = λ q. (e.1, c.if-led-piece.true);
      off = λ q. absurd (true≢false q);
    }
