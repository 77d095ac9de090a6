-- Nothing is due, or what is due is told where it fits.
use Rattle.std.proofs.Common.{sym, ◌∙◌}
use borrow.Author.Tests.{eqb-true}
use Rattle.sets.specs.Set.{sigs_of}
use Rattle.feed.proofs.Fitting.{all_none}
use Rattle.machine.proofs.tell_alerts.Goals as goal

pub returns-then-is_empty : goal.returns-then-is_empty
returns-then-is_empty c =
    all_none (sigs_of c.args.g) c.args.pairs.now c.args.words c.args.offset (eqb-true _ 0 (sym c.is_empty.ensures ∙ c.if-is_empty.true))
