use Rattle.std.proofs.Common.{get_or}
use Rattle.std.specs.Int.Bits.{bit_and}
use Rattle.sets.proofs.Words.{Laid}
use Rattle.sets.proofs.Set.meets.Given as goal

abbrev pub invariant-loop-i : goal.invariant-loop-i
invariant-loop-i g l = Laid (λ j. bit_and (get_or l.a j 0) (get_or l.b j 0)) l.i l.shared
