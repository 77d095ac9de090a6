use Rattle.sets.specs.Set.{set_words}
use Rattle.sets.proofs.Sets.{empty-words}
use Rattle.text_walk.proofs.only.Goals as goal

pub returns-else-c : goal.returns-else-c
returns-else-c c = rw c.if-c.false (empty-words set_words)
