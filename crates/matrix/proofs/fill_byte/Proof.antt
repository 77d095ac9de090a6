-- `fill_byte` puts the target in where the byte takes the record. Assumes nothing.
use borrow.Author.Rules.{rules}
use native.Mathlib.Omega.{arith}
use mathlib.Core.Path.{◌∙◌}
use borrow.Author.Rules.{rules}
use Rattle.matrix.proofs.fill_byte.Statement.{statement}
use Rattle.matrix.proofs.fill_byte.Tie as tie

exchanged-requires : tie.Need-exchanged-requires
exchanged-requires c κs = search rules

edge-requires : tie.Need-edge-requires
edge-requires c κs = search rules

mul-join-at : tie.Need-overflow_mul-s
mul-join-at c = search rules

add-join-at : tie.Need-overflow_add-s
add-join-at c = search rules

mul-join-at-2 : tie.Need-overflow_mul-s-then-edge
mul-join-at-2 c = search rules

join-at-requires : tie.Need-join_at-requires
join-at-requires c κs = (omega (arith, c.requires.4), c.requires.3)

same_length : tie.Need-shape_of-matrix
same_length c = search rules

returns : tie.Need-returns-then-edge
returns c =
    let s = c.before.before.before.before.before.before.before.before.before in
    c.join_at.ensures ∙ rw (← s.requires.1, ← s.requires.2, ← c.edge.ensures, c.if-edge.true)

returns-2 : tie.Need-returns-else-edge
returns-2 c = rw (← c.edge.ensures, c.if-edge.false)

pub fill_byte_spec : {M : Type 1} → statement M
fill_byte_spec =
    tie.close
    (tie.spec
    exchanged-requires
    edge-requires
    mul-join-at
    add-join-at
    mul-join-at-2
    join-at-requires
    same_length
    returns
    returns-2)
