-- The test is the definition's.
use Rattle.std.proofs.Common.{rules, not, eqb, get_or}
use Rattle.list_join.proofs.ever_at.Goals as goal

pub returns : goal.returns
returns c = c.lowest_start.ensures (λ s. not (eqb (get_or c.args.staying.now s 0) 0)) (λ s b l q. search rules)
