-- `is_end` meets its promise. Assumes nothing.
use Rattle.std.proofs.Common.{sym, ◌∙◌}
use borrow.Author.Tests.{not-true, not-false}
use Rattle.program_turn.specs.Turn.{is_end}
use Rattle.program_turn.proofs.is_end.Goals as goal

pub returns-then-not-is_empty : goal.returns-then-not-is_empty
unfolding is_end
returns-then-not-is_empty c = rw (sym c.is_empty.ensures ∙ not-true _ c.if-not-is_empty.true-raw)

pub returns : goal.returns
unfolding is_end
returns c = rw (sym c.is_empty.ensures ∙ not-false _ c.if-not-is_empty.false-raw) c.is_kind.ensures
