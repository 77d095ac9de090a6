-- The test is the definition's.
use Rattle.std.proofs.Common.{rules}
use Rattle.list.specs.List.{is_accept}
use Rattle.list_why.proofs.giving.Goals as goal

pub returns : goal.returns
returns c = c.lowest.ensures (is_accept c.args.list.now) (λ i b l q. search rules)
