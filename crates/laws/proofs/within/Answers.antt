-- `within` meets its promise. Assumes nothing.
use Rattle.std.proofs.Common.{arith}
use Rattle.std.proofs.lemmas.Bool.Decides.{nat_tests}
use Rattle.laws.proofs.within.Goals as goal

pub returns-clause-nearest : goal.returns-clause-nearest
returns-clause-nearest c = grind (arith, nat_tests, c.clamp.ensures)
