-- `new_from` reads the new number of a state. Assumes nothing.
use Rattle.list.specs.List.{from}
use Rattle.list_fold.proofs.Coding.{from_low}
use borrow.Author.Rules.{rules}
use native.Mathlib.Omega.{arith}
use mathlib.Core.Path.{◌∙◌}
use Rattle.list_fold.proofs.new_from.Statement.{statement}
use Rattle.list_fold.proofs.new_from.Tie as tie

from-requires : tie.Need-from-t-requires
from-requires c κs = search rules

is-edge-requires : tie.Need-is_edge-requires
is-edge-requires c κs = search rules

is-accept-requires : tie.Need-is_accept-requires
is-accept-requires c κs = search rules

number-at-requires : tie.Need-number_at-requires
number-at-requires c κs =
    let k = from_low c.args.list.now c.args.i c.requires.0 (rw (← c.is_edge.ensures, ← c.is_accept.ensures) c.if-is_edge-is_accept.true) in
    omega (arith, c.from-t.ensures, k, c.requires.1)

returns : tie.Need-returns-then-is_edge-is_accept
returns c =
    let L = c.args.list.now in
    let i = c.args.i in
    let k = from_low L i c.requires.0 (rw (← c.is_edge.ensures, ← c.is_accept.ensures) c.if-is_edge-is_accept.true) in
    rw (← c.is_edge.ensures, ← c.is_accept.ensures, c.if-is_edge-is_accept.true) (c.number_at.ensures.0 ∙ rw c.from-t.ensures (c.requires.2 (from L i) k))

returns-2 : tie.Need-returns-else-is_edge-is_accept
returns-2 c =
    rw (← c.is_edge.ensures, ← c.is_accept.ensures, c.if-is_edge-is_accept.false) c.from-t.ensures

pub new_from_spec : {M : Type 1} → statement M
new_from_spec =
    tie.close
    (tie.spec
    from-requires
    is-edge-requires
    is-accept-requires
    number-at-requires
    returns
    returns-2)
