-- `check` is rule 24. Assumes nothing.
use borrow.Author.Rules.{rules}
use mathlib.Core.Path.{sym, ◌∙◌}
use Rattle.rules.proofs.Rules.{stop, last}
use Rattle.machine.proofs.check.Statement.{statement}
use Rattle.machine.proofs.check.Tie as tie

bad-machine-requires : tie.Need-bad_machine-requires
bad-machine-requires c κs = search rules

returns : tie.Need-returns-then-bad_machine
returns c = sym (stop 24 _ (sym c.bad_machine.ensures ∙ c.if-bad_machine.true))

returns-2 : tie.Need-returns
returns-2 c = sym (last 24 (sym c.bad_machine.ensures ∙ c.if-bad_machine.false))

pub check_spec : {M : Type 1} → statement M
check_spec = tie.close (tie.spec bad-machine-requires returns returns-2)
