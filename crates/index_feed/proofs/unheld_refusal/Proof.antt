-- `unheld_refusal` calls `sought_refusal`. Assumes nothing.
use borrow.Author.Rules.{rules}
use Rattle.index_feed.proofs.unheld_refusal.Statement.{statement}
use Rattle.index_feed.proofs.unheld_refusal.Tie as tie

sought-refusal-requires : tie.Need-sought_refusal-requires
sought-refusal-requires c κs = search rules

returns : tie.Need-returns
returns c = c.sought_refusal.ensures

pub unheld_refusal_spec : {M : Type 1} → statement M
unheld_refusal_spec = tie.close (tie.spec sought-refusal-requires returns)
