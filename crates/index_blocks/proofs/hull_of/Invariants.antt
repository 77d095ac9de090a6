-- The hull of the bytes passed. Assumes nothing.
use Rattle.std.proofs.Common.{ℕ, ◌<◌, ◌≤◌}
use Rattle.index_blocks.proofs.Blocks.{Covered}
use Rattle.index_blocks.proofs.hull_of.Given as goal

abbrev pub invariant-loop-i : goal.invariant-loop-i
invariant-loop-i l =
    record {
      small : l.low < 256;
      covered : (c : ℕ) → l.from ≤ c → c < l.i → Covered l.index l.place l.w l.low l.high c;
    }
