-- `add_row` joins the row of a slot in use. Assumes nothing.
use borrow.Author.Rules.{rules}
use borrow.Author.Tests.{eq-eqb, ne_eqb}
use mathlib.Core.Path.{sym, ap, ◌∙◌}
use Rattle.sets.specs.Set.{set_of, join}
use Rattle.table.proofs.add_row.Statement.{statement}
use Rattle.table.proofs.add_row.Tie as tie

row-set-requires : tie.Need-row_set-requires
row-set-requires c κs = (c.requires.0, c.requires.1 (ne_eqb _ _ c.if-x-eq-UNUSED.false))

union-requires : tie.Need-union-requires
union-requires c κs = search rules

returns : tie.Need-returns-then-x-eq-UNUSED
returns c = sym (rw (eq-eqb _ _ c.if-x-eq-UNUSED.true))

returns-2 : tie.Need-returns-else-x-eq-UNUSED
returns-2 c = rw (ne_eqb _ _ c.if-x-eq-UNUSED.false) (c.union.ensures ∙ ap (join (set_of c.args.all)) c.row_set.ensures)

pub add_row_spec : {M : Type 1} → statement M
add_row_spec = tie.close (tie.spec row-set-requires union-requires returns returns-2)
