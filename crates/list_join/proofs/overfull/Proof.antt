-- `overfull` tests both limits. Assumes nothing.
use Rattle.list.proofs.Listed.{short-list}
use native.Mathlib.Omega.{arith}
use borrow.Author.Rules.{rules}
use Rattle.list_join.proofs.overfull.Statement.{statement}
use Rattle.list_join.proofs.overfull.Tie as tie

mul-result : tie.Need-overflow_mul-result
mul-result c = omega (arith, c.requires.1)

add-result : tie.Need-overflow_add-result
add-result c = omega (arith, c.requires.1, short-list c.args.a.now c.requires.0)

records-requires : tie.Need-records-requires
records-requires c κs = search rules

add-result-2 : tie.Need-overflow_add-result-2
add-result-2 c = omega (arith, c.requires.1, short-list c.args.a.now c.requires.0, c.records.ensures)

returns : tie.Need-returns
returns c = rw (← c.records.ensures)

pub overfull_spec : {M : Type 1} → statement M
overfull_spec =
    tie.close
    (tie.spec
    mul-result
    add-result
    records-requires
    add-result-2
    returns)
