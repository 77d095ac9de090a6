-- `class_count` is one more than the largest class. Assumes nothing.
use borrow.Author.Rules.{rules}
use mathlib.Core.Path.{ap, ◌∙◌}
use Prim.Native.Nat.{ℕ, ◌+◌}
use native.Mathlib.Numerals.{add-one}
use Rattle.table.specs.Table.{largest}
use Rattle.table.proofs.class_count.Statement.{statement}
use Rattle.table.proofs.class_count.Tie as tie

largest-requires : tie.Need-largest-requires
largest-requires c κs = search rules

cast-result : tie.Need-overflow_cast-result
cast-result c = search rules

add-result : tie.Need-overflow_add-result
add-result c = search rules

returns : tie.Need-returns
returns c = ap (λ (x : ℕ). x + 1) c.largest.ensures ∙ add-one (largest c.args.classes.now)

pub class_count_spec : {M : Type 1} → statement M
class_count_spec = tie.close (tie.spec largest-requires cast-result add-result returns)
