-- Past all states no set has any.
use Rattle.std.proofs.Common.{◌∙◌}
use Rattle.sets.specs.Set.{set_of, set_words}
use Rattle.sets.proofs.Sets.{words-lt}
use Rattle.sets.proofs.Whole.{valid-of}
use Rattle.list_why.proofs.Sources.{held}
use Rattle.list_why.proofs.holding.Goals as goal

pub returns : goal.returns
returns c = c.then_some.ensures ∙ held (set_of c.args.f) c.args.state (words-lt set_words c.args.f.words (valid-of c.args.f _ c.well_formed.0)) c.has.result c.has.ensures
