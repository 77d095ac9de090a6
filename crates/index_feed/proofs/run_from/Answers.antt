-- It stands behind the last entry, or runs. Assumes nothing.
use Rattle.std.proofs.Common.{refl, sym, length, arith}
use mathlib.Core.Bool.{true≢false}
use Rattle.index_turns.proofs.Striding.{here, lost}
use Rattle.index_feed.proofs.run_from.Goals as goal

pub returns-in-None : goal.returns-in-None
returns-in-None c =
    let a = c.args in
    let X = a.index.now in
    let P = a.piece.now in
    rw c.in-None.is
    (record {
      since = omega arith;
      upto = omega arith;
      few = omega arith;
      many = refl;
      within = omega arith;
      goes = here X P a.offset 0 (length X) a.pairs.now 0;
      on = λ e. absurd (true≢false (sym e));
      off = λ e. lost X P a.offset 0 (length X) a.pairs.now 0 (omega arith);
    })
