use Rattle.std.proofs.Common.{arith}
use Rattle.text_walk.proofs.Sum.{cap-least-of}
use Rattle.text_walk.proofs.capped.Goals as goal

pub returns : goal.returns
returns c = cap-least-of c.args.n c.min.result (λ h. omega arith) (λ h. omega arith)
