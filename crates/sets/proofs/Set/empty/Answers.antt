-- Words that are all 0 write 0.
use Rattle.sets.proofs.Sets.{empty-words}
use Rattle.sets.proofs.Set.empty.Goals as goal

pub returns : goal.returns
returns g c = empty-words g.row.N
