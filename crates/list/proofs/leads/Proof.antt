-- `leads` is the definition, test by test; a record whose state has no place in a word is not looked at further. Assumes nothing.
use borrow.Author.Rules.{rules}
use mathlib.Core.Path.{refl, sym, ◌∙◌}
use Rattle.numbers.specs.Number.{num}
use Rattle.rules.proofs.Scanning.{and-false}
use Rattle.list.specs.List.{from}
use Rattle.list.specs.Automaton.{edge}
use Rattle.list.proofs.Quick.{no_place}
use Rattle.list.proofs.leads.Statement.{statement}
use Rattle.list.proofs.leads.Tie as tie

from-requires : tie.Need-from-s-requires
from-requires c κs = search rules

shr-if1 : tie.Need-overflow_shr-places
shr-if1 c = search rules

returns : tie.Need-returns-then-places-s-eq0
returns c =
    let s = c.before.before.before.before in
    let f = from s.args.list.now s.args.i in
    rw (no_place (num 64 s.args.frontier.now) s.args.places f (s.requires.2 f) (rw c.from-s.ensures at c.if-places-s-eq0.true))
    (sym (and-false (edge s.args.list.now s.args.c s.args.i)))

edge-requires : tie.Need-edge-requires
edge-requires c κs = search rules

bit-of-requires : tie.Need-bit_of-requires
bit-of-requires c κs = search rules

returns-2 : tie.Need-returns-then-edge
returns-2 c =
    rw (sym c.edge.ensures ∙ c.if-edge.true, c.bit_of.ensures, c.from-s.ensures) refl

returns-3 : tie.Need-returns-else-edge
returns-3 c = rw (sym c.edge.ensures ∙ c.if-edge.false)

pub leads_spec : {M : Type 1} → statement M
leads_spec = tie.close (tie.spec from-requires shr-if1 returns edge-requires bit-of-requires returns-2 returns-3)
