-- `ones_between` meets its promise. Assumes nothing.
use borrow.Author.Rules.{rules}
use Rattle.sets_words.proofs.Masks.{between-bit}
use Rattle.sets_words.proofs.ones_between.Statement.{statement}
use Rattle.sets_words.proofs.ones_between.Tie as tie

sub-result : tie.Need-overflow_sub-result
sub-result c = search rules

sub-result-2 : tie.Need-overflow_sub-result-2
sub-result-2 c = search rules

shr-result : tie.Need-overflow_shr-result
shr-result c = search rules

shl-result : tie.Need-overflow_shl-result
shl-result c = search rules

returns : tie.Need-returns
returns c = λ s h. between-bit c.args.a c.args.b s c.requires.0 c.requires.1 h

pub ones_between_spec : {M : Type 1} → statement M
ones_between_spec = tie.close (tie.spec sub-result sub-result-2 shr-result shl-result returns)
