-- `bad_rows_length` multiplies two bounded numbers. Assumes nothing.
use borrow.Author.Rules.{rules}
use mathlib.Core.Path.{ap₂}
use mathlib.Core.Bool.{not}
use Prim.Native.Nat.{ℕ, ◌*◌, ◌^◌, ◌≤◌}
use native.Mathlib.Omega.{arith}
use lib.ListN.{length}
use lib.Dec.{eqb}
use Rattle.sets.specs.Set.{set_size}
use Rattle.table.specs.Table.{most_parts, bad_rows_length}
use Rattle.table.proofs.Entries.{classes-fit, rows_fit}
use Rattle.table.proofs.bad_rows_length.Statement.{statement}
use Rattle.table.proofs.bad_rows_length.Tie as tie

fits : (c : tie.After-class_count) → c.part_count.result * c.class_count.result ≤ most_parts * 2 ^ 8
fits c =
    rows_fit c.part_count.result c.class_count.result (omega (arith, c.requires, c.part_count.ensures))
    (omega (arith, c.class_count.ensures, classes-fit c.args.classes.now (λ i. (c.shared_slice_known-1.given i).fits)))

part-count-requires : tie.Need-part_count-requires
part-count-requires c κs = search rules

class-count-requires : tie.Need-class_count-requires
class-count-requires c κs = search rules

mul-result : tie.Need-overflow_mul-result
mul-result c = omega (arith, fits c)

mul-result-2 : tie.Need-overflow_mul-result-2
mul-result-2 c = omega (arith, fits c)

returns : tie.Need-returns
unfolding bad_rows_length
returns c = ap₂ (λ (n k : ℕ). not (eqb (length c.args.rows.now) (set_size * (n * k)))) c.part_count.ensures c.class_count.ensures

pub bad_rows_length_spec : {M : Type 1} → statement M
bad_rows_length_spec =
    tie.close (tie.spec part-count-requires class-count-requires mul-result mul-result-2 returns)
