-- `rows_good` finds the bytes that step alike, and goes through the parts with them. Assumes nothing.
use borrow.Author.Rules.{rules}
use Rattle.table.proofs.rows_good.Statement.{statement}
use Rattle.table.proofs.rows_good.Tie as tie

slice-aggregate-mix-classes : tie.Need-slice_bounds-mix_classes-end
slice-aggregate-mix-classes c = search rules

mix-classes-requires : tie.Need-mix_classes-requires
mix-classes-requires c κs = search rules

slice-aggregate-fill-alikes : tie.Need-slice_bounds-fill_alikes-end
slice-aggregate-fill-alikes c = search rules

slice-aggregate-fill-alikes-2 : tie.Need-slice_bounds-fill_alikes-end-2
slice-aggregate-fill-alikes-2 c = search rules

fill-alikes-requires : tie.Need-fill_alikes-requires
fill-alikes-requires c κs = search rules

slice-aggregate-parts-good : tie.Need-slice_bounds-parts_good-end
slice-aggregate-parts-good c = search rules

parts-good-requires : tie.Need-parts_good-requires
parts-good-requires c κs = let s = c in (s.requires.0, s.requires.1, c.fill_alikes.ensures)

returns : tie.Need-returns
returns c = c.parts_good.ensures

pub rows_good_spec : {M : Type 1} → statement M
rows_good_spec =
    tie.close
    (tie.spec
    slice-aggregate-mix-classes
    mix-classes-requires
    slice-aggregate-fill-alikes
    slice-aggregate-fill-alikes-2
    fill-alikes-requires
    slice-aggregate-parts-good
    parts-good-requires
    returns)
