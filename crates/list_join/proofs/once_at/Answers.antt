-- The test is the definition's.
use Rattle.std.proofs.Common.{rules, not, get_or}
use Rattle.sets.specs.Set.{holds}
use Rattle.list_join.proofs.Marking.{reached-bit}
use Rattle.list_join.proofs.once_at.Goals as goal

pub returns : goal.returns
returns c = c.lowest_start.ensures (λ s. not (holds (get_or c.args.marks.now s 0) 2)) (λ s b l q. rw (reached-bit (get_or c.args.marks.now s 0)) (search rules))
