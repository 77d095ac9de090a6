-- `size_refusal` tests the two rules in their order. Assumes nothing.
use borrow.Author.Rules.{rules}
use mathlib.Core.Path.{sym, ◌∙◌}
use Rattle.rules.proofs.Rules.{skip, stop, last}
use Rattle.table.proofs.size_refusal.Statement.{statement}
use Rattle.table.proofs.size_refusal.Tie as tie

returns : tie.Need-returns-then-bound
returns c = sym (stop 7 _ c.if-bound.true)

bad-lengths-requires : tie.Need-bad_lengths-requires
bad-lengths-requires c κs = search rules

returns-2 : tie.Need-returns-then-bad_lengths
returns-2 c = sym (skip 7 _ c.if-bound.false ∙ stop 8 _ (sym c.bad_lengths.ensures ∙ c.if-bad_lengths.true))

returns-3 : tie.Need-returns
returns-3 c = sym (skip 7 _ c.if-bound.false ∙ last 8 (sym c.bad_lengths.ensures ∙ c.if-bad_lengths.false))

pub size_refusal_spec : {M : Type 1} → statement M
size_refusal_spec = tie.close (tie.spec returns bad-lengths-requires returns-2 returns-3)
