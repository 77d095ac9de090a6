-- It stands at a whole entry, where the feed goes on; the ranges known are those of their place. Assumes nothing.
use Rattle.std.proofs.Common.{◌≡◌, ℕ, ◌-◌, ◌*◌, ◌<◌, ◌≤◌, false, length}
use Rattle.index_blocks.specs.inner.Ranges.{hot}
use Rattle.index_blocks.specs.Block.{word_at}
use Rattle.index.specs.Entry.{limit}
use Rattle.index_turns.specs.inner.Goes.{Goes}
use Rattle.index_turns.proofs.run.Given as goal

abbrev pub invariant-loop-i : goal.invariant-loop-i
invariant-loop-i l =
    record {
      most : l.i ≤ length l.piece;
      whole : l.at < limit l.index;
      few : l.rows ≤ 255 * l.i;
      many : length l.pairs ≡ length l.initial.pairs;
      within : l.words ≤ length l.pairs;
      ranges : (c : ℕ) → c < 256 → hot l.r.low l.r.lows l.r.high l.r.highs c ≡ false → word_at l.index l.known c ≡ l.known;
      goes : Goes l.index l.piece l.offset 0 l.place l.initial.pairs 0 l.i l.at l.pairs l.words l.rows;
    }

abbrev pub decreases-loop-i : goal.decreases-loop-i
decreases-loop-i l = length l.piece - l.i
