-- The words are laid over one another. Assumes nothing.
use Rattle.std.proofs.Common.{get_or}
use Rattle.sets.proofs.Words.{Laid}
use Rattle.sets.proofs.none_of.Given as goal

abbrev pub invariant-loop-x : goal.invariant-loop-x
invariant-loop-x l = Laid (λ j. get_or l.w j 0) l.x-index l.all
