use Rattle.std.proofs.Common.{refl, ap, ◌∙◌}
use Rattle.sets.specs.Set.{states, set_words, insert}
use Rattle.sets.proofs.Sets.{empty-words}
use Rattle.text_walk.proofs.single.Goals as goal

pub returns : goal.returns
returns c =
    let e = c.with-it.ensures ∙ ap (λ z. insert states z c.args.base) (empty-words set_words) in
    (refl, refl, e, e)
