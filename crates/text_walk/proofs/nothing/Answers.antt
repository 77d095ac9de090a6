use Rattle.std.proofs.Common.{refl}
use Rattle.sets.specs.Set.{set_words}
use Rattle.sets.proofs.Sets.{empty-words}
use Rattle.text_walk.proofs.nothing.Goals as goal

pub returns : goal.returns
returns c = (refl, refl, empty-words set_words, empty-words set_words)
