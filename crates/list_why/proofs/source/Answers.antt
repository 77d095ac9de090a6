-- The test is the definition's.
use Rattle.std.proofs.Common.{rules}
use Rattle.list.specs.Automaton.{edge}
use Rattle.list_why.proofs.source.Goals as goal

pub returns : goal.returns
returns c = c.lowest.ensures (edge c.args.list.now c.args.c) (λ i b l q. search rules)
