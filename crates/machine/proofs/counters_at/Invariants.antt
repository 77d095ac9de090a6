-- The counters passed are read. Assumes nothing.
use Rattle.std.proofs.Common.{◌≡◌, ℕ, ◌+◌, ◌*◌, ◌<◌, length, get_or, take, drop}
use Rattle.numbers.specs.Number.{num}
use Rattle.machine.proofs.counters_at.Given as goal

abbrev pub invariant-loop-i : goal.invariant-loop-i
invariant-loop-i l =
    record {
      long : length l.c ≡ 16;
      read : (j : ℕ) → j < l.i → get_or l.c j 0 ≡ num 8 (take 4 (drop (l.at + 4 * j) l.b));
    }
