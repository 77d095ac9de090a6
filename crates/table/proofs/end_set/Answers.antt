-- `end_set` meets its promise: the bytes that are there, and zeros behind them.
use Rattle.std.proofs.Common.{ℕ, List, ap, ◌∙◌}
use Rattle.sets.specs.Set.{set_size, set_at}
use Rattle.table.proofs.Ends.{front-set}
use Rattle.table.proofs.end_set.Goals as goal

pub returns : goal.returns
returns c = c.from_bytes.ensures ∙ ap (λ (x : List ℕ). set_at x 0) c.copy_end.ensures ∙ front-set c.args.b.now c.args.at set_size
