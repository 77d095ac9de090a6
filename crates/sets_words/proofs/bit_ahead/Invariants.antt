use Rattle.std.proofs.Common.{◌≡◌, ℕ, ◌*◌, ◌≤◌, ◌<◌, false}
use Rattle.numbers.specs.Number.{num}
use Rattle.sets.specs.Set.{holds}
use Rattle.sets_words.proofs.bit_ahead.Given as goal

abbrev pub invariant-loop-i : goal.invariant-loop-i
invariant-loop-i l = (q : ℕ) → 64 * l.from ≤ q → q < 64 * l.i → holds (num 64 l.w) q ≡ false
