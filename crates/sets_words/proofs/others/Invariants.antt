-- The words ahead of the loop are done, the others as they were. Assumes nothing.
use Rattle.std.proofs.Common.{◌≡◌, not, ℕ, ◌<◌, ◌≤◌, length, get_or}
use Rattle.numbers.specs.Number.{num}
use Rattle.numbers.proofs.Laws.{Small}
use Rattle.sets.specs.Set.{byte_words, holds}
use Rattle.sets_words.proofs.Masks.{Reads}
use Rattle.sets_words.proofs.others.Given as goal

abbrev pub invariant-loop-x : goal.invariant-loop-x
invariant-loop-x l = record {
  long : length l.x-items ≡ byte_words;
  small : Small 64 l.x-items;
  done : (j : ℕ) → j < l.x-index → Reads (λ c. not (holds (num 64 l.fn.set.words) c)) j (get_or l.x-items j 0);
  left : (j : ℕ) → l.x-index ≤ j → get_or l.x-items j 0 ≡ get_or l.fn.set.words j 0;
}
