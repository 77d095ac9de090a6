-- `lowest` meets its promise. Assumes nothing.
use native.Mathlib.Omega.{arith}
use Rattle.sets_words.proofs.Visiting.{lowest-lt, lowest-there, lowest-under}
use Rattle.sets_words.proofs.lowest.Statement.{statement}
use Rattle.sets_words.proofs.lowest.Tie as tie

cast-result : tie.Need-overflow_cast-result
cast-result c = omega (arith, lowest-lt c.args.x c.ranges.x.fits c.requires)

returns : tie.Need-returns
returns c = (lowest-lt c.args.x c.ranges.x.fits c.requires, lowest-there c.args.x c.ranges.x.fits c.requires, λ q h. lowest-under c.args.x q h)

pub lowest_spec : {M : Type 1} → statement M
lowest_spec = tie.close (tie.spec cast-result returns)
