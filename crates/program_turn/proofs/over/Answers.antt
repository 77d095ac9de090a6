-- `over` meets its promise. Assumes nothing.
use Rattle.std.proofs.Common.{inl, inr, eq-eqb, ne_eqb}
use Rattle.program_turn.specs.Turn.{over_of}
use Rattle.program_turn.proofs.over.Goals as goal

pub returns-then-refusal-eq-NOT_TAKEN : goal.returns-then-refusal-eq-NOT_TAKEN
unfolding over_of
returns-then-refusal-eq-NOT_TAKEN c =
    elim c.if-refusal-eq-NOT_TAKEN.either [ inl h ↦ rw h | inr h ↦ rw (h.0, eq-eqb c.args.refusal 18 h.1) ]

pub returns-else-refusal-eq-NOT_TAKEN : goal.returns-else-refusal-eq-NOT_TAKEN
unfolding over_of
returns-else-refusal-eq-NOT_TAKEN c =
    let h = c.if-refusal-eq-NOT_TAKEN.false in
    rw (h.0, ne_eqb c.args.refusal 18 h.1)
