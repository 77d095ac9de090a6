-- `bad_classes` is the definition, test by test. Assumes nothing.
use borrow.Author.Rules.{rules}
use mathlib.Core.Path.{ap}
use mathlib.Core.Bool.{◌||◌, not}
use Prim.Native.Nat.{ℕ}
use lib.ListN.{length}
use lib.Dec.{eqb, ltb}
use Rattle.table.specs.Table.{byte_values, most_class, bad_classes}
use Rattle.table.proofs.bad_classes.Statement.{statement}
use Rattle.table.proofs.bad_classes.Tie as tie

largest-requires : tie.Need-largest-requires
largest-requires c κs = search rules

cast-result : tie.Need-overflow_cast-result
cast-result c = search rules

returns : tie.Need-returns
unfolding bad_classes
returns c = ap (λ (x : ℕ). not (eqb (length c.args.classes.now) byte_values) || ltb most_class x) c.largest.ensures

pub bad_classes_spec : {M : Type 1} → statement M
bad_classes_spec = tie.close (tie.spec largest-requires cast-result returns)
