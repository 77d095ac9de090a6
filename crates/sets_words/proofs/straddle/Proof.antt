-- `straddle` meets its promise. Assumes nothing.
use borrow.Author.Rules.{rules}
use Rattle.sets_words.proofs.Further.{straddle-none, straddle-some}
use Rattle.sets_words.proofs.straddle.Statement.{statement}
use Rattle.sets_words.proofs.straddle.Tie as tie

returns : tie.Need-returns-then-b-eq0
returns c =
    let a = c.before.args in
    straddle-none a.high a.low a.b c.if-b-eq0.true

shl-result : tie.Need-overflow_shl-result
shl-result c = search rules

sub-result : tie.Need-overflow_sub-result
sub-result c = search rules

shr-result : tie.Need-overflow_shr-result
shr-result c = search rules

returns-2 : tie.Need-returns
returns-2 c =
    let a = c.before.args in
    straddle-some a.high a.low a.b c.before.requires c.if-b-eq0.false c.before.ranges.low.fits

pub straddle_spec : {M : Type 1} → statement M
straddle_spec = tie.close (tie.spec returns shl-result sub-result shr-result returns-2)
