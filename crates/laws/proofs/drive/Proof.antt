-- `drive` meets its promise by the promises of the functions that it calls. Assumes nothing.
use borrow.Author.Rules.{rules}
use native.Mathlib.Omega.{arith}
use Prim.Native.Nat.{◌≤◌, ◌*◌}
use lib.ListN.{length}
use Rattle.laws.proofs.Driving.{open-fits, driven}
use Rattle.laws.proofs.drive.Statement.{statement}
use Rattle.laws.proofs.drive.Tie as tie

check-list-requires : tie.Need-check_list-listed-requires
check-list-requires c κs = search rules

check-table-requires : tie.Need-check_table-checked-requires
check-table-requires c κs = search rules

fill-requires : tie.Need-fill-filled-requires
fill-requires c κs = search rules

fill-requires-2 : tie.Need-fill-indexed-requires
fill-requires-2 c κs = search rules

open-flow-requires : tie.Need-open_flow-opened-requires
open-flow-requires c κs = search rules

-- what opening told fits the words
begun-fit : (c : tie.After-open_flow-opened) → 2 * c.open_flow-opened.result.pairs ≤ length c.open_flow-opened.new.pairs
begun-fit c = let a = c.args in open-fits a.list.now a.flow.now a.pairs.now _ _ _ c.open_flow-opened.ensures

mul-told : tie.Need-overflow_mul-told
mul-told c =
    let opening = c.before.before.before.before.before in
    omega (arith, begun-fit opening, opening.open_flow-opened.auto.pairs, c.well_formed.1.1.1.1.1.1.1.1.1.1.1.1.1.1.0.0)

feed-all-requires : tie.Need-feed_all-fed-requires
feed-all-requires c κs = begun-fit c.before.before.before.before.before.before.before.before

same_length : tie.Need-shape_of-matrix
same_length c = c.fill-filled.auto.matrix

same-length-2 : tie.Need-shape_of-index
same-length-2 c = search rules

same-length-3 : tie.Need-shape_of-flow
same-length-3 c = search rules

same-length-4 : tie.Need-shape_of-pairs
same-length-4 c = search rules

same-length-5 : tie.Need-shape_of-notes
same-length-5 c = search rules

returns : tie.Need-returns
returns c =
    let a = c.args in
    driven _ _ _ _ _ _ _ _ _ a.kinds.now a.starts.now a.cuts.now a.rooms.now a.stream.now _ _ _ _ _ _ _ _ _ _ _ _ _ c.check_list-listed.ensures c.check_table-checked.ensures c.fill-filled.ensures
    c.fill-indexed.ensures c.open_flow-opened.ensures (λ i. (c.shared_slice_known-5-1.given i).fits) c.feed_all-fed.ensures

pub drive_spec : {M : Type 1} → statement M
drive_spec =
    tie.close
    (tie.spec
    check-list-requires
    check-table-requires
    fill-requires
    fill-requires-2
    open-flow-requires
    mul-told
    feed-all-requires
    same_length
    same-length-2
    same-length-3
    same-length-4
    same-length-5
    returns)
