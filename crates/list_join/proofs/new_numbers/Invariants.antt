-- The states passed have their new numbers.
use Rattle.std.proofs.Common.{◌≡◌, ℕ, ◌<◌, length, get_or}
use Rattle.list_join.specs.Join.{renamed}
use Rattle.list_join.proofs.new_numbers.Given as goal

abbrev pub invariant-loop-t : goal.invariant-loop-t
invariant-loop-t l = (length l.new ≡ 1024) × ((s : ℕ) → s < l.t → get_or l.new s 0 ≡ renamed l.n s)
