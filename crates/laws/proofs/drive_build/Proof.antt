-- `drive_build` meets its promise by the promises of the builder and of the table check. Assumes nothing.
use borrow.Author.Rules.{rules}
use mathlib.Core.Path.{sym}
use lib.Seq.{length-take-le}
use Rattle.table_build.proofs.Words.{fits}
use Rattle.laws.proofs.Building.{build-kept}
use Rattle.laws.proofs.drive_build.Statement.{statement}
use Rattle.laws.proofs.drive_build.Tie as tie

build-requires : tie.Need-build-made-requires
build-requires c κs = search rules

slice-reshare-prefix-check-table : tie.Need-slice_bounds-check_table-end
slice-reshare-prefix-check-table c = (fits _ _ _ c.build-made.ensures).classes

slice-aggregate-check-table : tie.Need-slice_bounds-check_table-end-2
slice-aggregate-check-table c = sym (length-take-le _ _ (fits _ _ _ c.build-made.ensures).classes)

slice-reshare-prefix-check-table-2 : tie.Need-slice_bounds-check_table-end-3
slice-reshare-prefix-check-table-2 c = (fits _ _ _ c.build-made.ensures).parts

slice-aggregate-check-table-2 : tie.Need-slice_bounds-check_table-end-4
slice-aggregate-check-table-2 c = sym (length-take-le _ _ (fits _ _ _ c.build-made.ensures).parts)

slice-reshare-prefix-check-table-3 : tie.Need-slice_bounds-check_table-end-5
slice-reshare-prefix-check-table-3 c = (fits _ _ _ c.build-made.ensures).rows

slice-aggregate-check-table-3 : tie.Need-slice_bounds-check_table-end-6
slice-aggregate-check-table-3 c = sym (length-take-le _ _ (fits _ _ _ c.build-made.ensures).rows)

slice-reshare-prefix-check-table-4 : tie.Need-slice_bounds-check_table-end-7
slice-reshare-prefix-check-table-4 c = (fits _ _ _ c.build-made.ensures).splits

slice-aggregate-check-table-4 : tie.Need-slice_bounds-check_table-end-8
slice-aggregate-check-table-4 c = sym (length-take-le _ _ (fits _ _ _ c.build-made.ensures).splits)

check-table-requires : tie.Need-check_table-checked-requires
check-table-requires c κs = search rules

same_length : tie.Need-shape_of-classes
same_length c = search rules

same-length-2 : tie.Need-shape_of-parts
same-length-2 c = search rules

same-length-3 : tie.Need-shape_of-rows
same-length-3 c = search rules

same-length-4 : tie.Need-shape_of-splits
same-length-4 c = search rules

returns : tie.Need-returns
returns c = build-kept _ _ _ c.check_table-checked.result c.check_table-checked.ensures c.build-made.ensures

pub drive_build_spec : {M : Type 1} → statement M
drive_build_spec =
    tie.close
    (tie.spec
    build-requires
    slice-reshare-prefix-check-table
    slice-aggregate-check-table
    slice-reshare-prefix-check-table-2
    slice-aggregate-check-table-2
    slice-reshare-prefix-check-table-3
    slice-aggregate-check-table-3
    slice-reshare-prefix-check-table-4
    slice-aggregate-check-table-4
    check-table-requires
    same_length
    same-length-2
    same-length-3
    same-length-4
    returns)
