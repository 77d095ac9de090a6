-- `ranges_of` keeps the ranges of the place, or finds them. Assumes nothing.
use Prim.Native.Nat.{◌-◌}
use borrow.Author.Rules.{rules}
use Rattle.index_quiet.proofs.ranges_of.Statement.{statement}
use Rattle.index_quiet.proofs.ranges_of.Tie as tie

returns : tie.Need-returns-then-place-known
returns c = rw c.if-place-known.true c.requires.2

cast-leaving : tie.Need-overflow_cast-place
cast-leaving c = search rules

leaving-requires : tie.Need-leaving-requires
leaving-requires c κs = search rules

returns-2 : tie.Need-returns
returns-2 c = search rules

pub ranges_of_spec : {M : Type 1} → statement M
ranges_of_spec = tie.close (tie.spec returns cast-leaving leaving-requires returns-2)
