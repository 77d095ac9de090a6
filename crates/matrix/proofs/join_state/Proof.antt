-- `join_state` joins the set at its place, where there is one. Assumes nothing.
use borrow.Author.Rules.{rules}
use mathlib.Core.Path.{sym, ◌∙◌}
use native.Mathlib.Omega.{arith}
use borrow.Author.Tests.{le-ltb, lt-ltb}
use Rattle.matrix.specs.Matrix.{cell}
use Rattle.matrix.proofs.join_state.Statement.{statement}
use Rattle.matrix.proofs.join_state.Tie as tie

mul-join-cell : tie.Need-overflow_mul-s
mul-join-cell c = search rules

add-join-cell : tie.Need-overflow_add-s
add-join-cell c = search rules

mul-join-cell-2 : tie.Need-overflow_mul-s-then-s-n
mul-join-cell-2 c = search rules

join-cell-requires : tie.Need-join_cell-requires
join-cell-requires c κs = let s = c.before.before.before.before in (omega (arith, s.requires.0, c.if-s-n.true), s.requires.1)

same_length : tie.Need-shape_of-w
same_length c = search rules

returns : tie.Need-returns-then-s-n
unfolding cell
returns c =
    let t = c.before.before.before.before in
    let a = t.args in
    c.join_cell.ensures ∙ sym (rw (lt-ltb a.s a.n t.if-s-n.true))

returns-2 : tie.Need-returns-else-s-n
returns-2 c = let a = c.args in sym (rw (le-ltb a.s a.n (omega (arith, c.if-s-n.false))))

pub join_state_spec : {M : Type 1} → statement M
join_state_spec = tie.close (tie.spec mul-join-cell add-join-cell mul-join-cell-2 join-cell-requires same_length returns returns-2)
