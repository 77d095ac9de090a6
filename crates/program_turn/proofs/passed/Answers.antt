-- `passed` meets its promise. Assumes nothing.
use Rattle.std.proofs.Common.{eq-eqb, ne_eqb}
use Rattle.program_turn.specs.Turn.{passed_of}
use Rattle.program_turn.proofs.passed.Goals as goal

pub returns-then-refusal-eq-NOT_TAKEN : goal.returns-then-refusal-eq-NOT_TAKEN
unfolding passed_of
returns-then-refusal-eq-NOT_TAKEN c =
    rw (eq-eqb c.args.refusal 18 c.if-refusal-eq-NOT_TAKEN.true)

pub returns-else-refusal-eq-NOT_TAKEN : goal.returns-else-refusal-eq-NOT_TAKEN
unfolding passed_of
returns-else-refusal-eq-NOT_TAKEN c =
    rw (ne_eqb c.args.refusal 18 c.if-refusal-eq-NOT_TAKEN.false)
