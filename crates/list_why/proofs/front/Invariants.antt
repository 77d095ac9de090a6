-- The frontier after the bytes passed.
use Rattle.std.proofs.Common.{◌≡◌}
use Rattle.sets.specs.Set.{set_of}
use Rattle.list_why.specs.Reason.{front}
use Rattle.list_why.proofs.front.Given as goal

abbrev pub invariant-loop-c : goal.invariant-loop-c
invariant-loop-c l = set_of l.f ≡ front l.list (set_of l.initial.f) l.before l.c-index
