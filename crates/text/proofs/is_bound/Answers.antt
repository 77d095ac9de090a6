use Rattle.std.proofs.Common.{ap, ◌∙◌, eqb}
use Rattle.text.proofs.Fronts.{head-read, bound-first}
use Rattle.text.proofs.is_bound.Goals as goal

pub returns-then-not-is_empty-clause-bound : goal.returns-then-not-is_empty-clause-bound
returns-then-not-is_empty-clause-bound c = λ x ok e. ap (λ z. eqb z 94) (head-read c.args.text.now) ∙ bound-first x c.args.text.now ok e
