-- `drive_renewed` meets its promise by the promises of the functions that it calls. Assumes nothing.
use borrow.Author.Rules.{rules}
use Rattle.list_renew_laws.proofs.Driving.{drive-three}
use Rattle.list_renew_laws.proofs.drive_renewed.Statement.{statement}
use Rattle.list_renew_laws.proofs.drive_renewed.Tie as tie

open-flow-requires : tie.Need-open_flow-opened-requires
open-flow-requires c κs = search rules

feed-requires : tie.Need-feed-first-requires
feed-requires c κs = search rules

offset-requires : tie.Need-offset-before-requires
offset-requires c κs = search rules

renew-requires : tie.Need-renew-renewed-requires
renew-requires c κs = search rules

feed-requires-2 : tie.Need-feed-second-requires
feed-requires-2 c κs = search rules

same_length : tie.Need-shape_of-flow
same_length c = search rules

same-length-2 : tie.Need-shape_of-out
same-length-2 c = search rules

same-length-3 : tie.Need-shape_of-pairs
same-length-3 c = search rules

same-length-4 : tie.Need-shape_of-later
same-length-4 c = search rules

returns : tie.Need-returns
returns c =
    let a = c.args in
    drive-three a.list.now a.flow.now a.out.now a.piece.now a.pairs.now a.rest.now a.later.now _ _ _ _ _ _ _ _ _ _ _ _
    c.open_flow-opened.ensures c.feed-first.ensures c.offset-before.ensures c.renew-renewed.ensures c.feed-second.ensures
    (λ i. (c.shared_slice_known-2-1.given i).fits) (λ i. (c.shared_slice_known-3-1.given i).fits)

pub drive_renewed_spec : {M : Type 1} → statement M
drive_renewed_spec =
    tie.close
    (tie.spec
    open-flow-requires
    feed-requires
    offset-requires
    renew-requires
    feed-requires-2
    same_length
    same-length-2
    same-length-3
    same-length-4
    returns)
