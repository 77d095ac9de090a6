-- `new_target` reads the new number of a state. Assumes nothing.
use Rattle.list.specs.List.{target}
use Rattle.list_fold.proofs.Coding.{target-low}
use borrow.Author.Rules.{rules}
use native.Mathlib.Omega.{arith}
use mathlib.Core.Path.{◌∙◌}
use Rattle.list_fold.proofs.new_target.Statement.{statement}
use Rattle.list_fold.proofs.new_target.Tie as tie

target-requires : tie.Need-target-t-requires
target-requires c κs = search rules

is-edge-requires : tie.Need-is_edge-requires
is-edge-requires c κs = search rules

is-start-requires : tie.Need-is_start-requires
is-start-requires c κs = search rules

number-at-requires : tie.Need-number_at-requires
number-at-requires c κs =
    let k = target-low c.args.list.now c.args.i c.requires.0 (rw (← c.is_edge.ensures, ← c.is_start.ensures) c.if-is_edge-is_start.true) in
    omega (arith, c.target-t.ensures, k, c.requires.1)

returns : tie.Need-returns-then-is_edge-is_start
returns c =
    let L = c.args.list.now in
    let i = c.args.i in
    let k = target-low L i c.requires.0 (rw (← c.is_edge.ensures, ← c.is_start.ensures) c.if-is_edge-is_start.true) in
    rw (← c.is_edge.ensures, ← c.is_start.ensures, c.if-is_edge-is_start.true) (c.number_at.ensures.0 ∙ rw c.target-t.ensures (c.requires.2 (target L i) k))

returns-2 : tie.Need-returns-else-is_edge-is_start
returns-2 c =
    rw (← c.is_edge.ensures, ← c.is_start.ensures, c.if-is_edge-is_start.false) c.target-t.ensures

pub new_target_spec : {M : Type 1} → statement M
new_target_spec =
    tie.close
    (tie.spec
    target-requires
    is-edge-requires
    is-start-requires
    number-at-requires
    returns
    returns-2)
