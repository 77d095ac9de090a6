-- `drive_why` meets its promise by the promises of the functions that it calls. Assumes nothing.
use borrow.Author.Rules.{rules}
use mathlib.Core.Path.{◌∙◌}
use Rattle.list_why_laws.proofs.Driving.{why-driven}
use Rattle.list_why_laws.proofs.drive_why.Statement.{statement}
use Rattle.list_why_laws.proofs.drive_why.Tie as tie

check-table-requires : tie.Need-check_table-checked-requires
check-table-requires c κs = search rules

fill-requires : tie.Need-fill-filled-requires
fill-requires c κs = search rules

fill-requires-2 : tie.Need-fill-indexed-requires
fill-requires-2 c κs = search rules

open-flow-requires : tie.Need-open_flow-opened-requires
open-flow-requires c κs = search rules

open-flow-requires-2 : tie.Need-open_flow-again-requires
open-flow-requires-2 c κs = search rules

feed-and-ask-requires : tie.Need-feed_and_ask-asked-requires
feed-and-ask-requires c κs = search rules

same_length : tie.Need-shape_of-matrix
same_length c = c.fill-filled.auto.matrix

same-length-2 : tie.Need-shape_of-index
same-length-2 c = c.fill-indexed.auto.index

same-length-3 : tie.Need-shape_of-first
same-length-3 c = c.open_flow-opened.auto.flow

same-length-4 : tie.Need-shape_of-flow
same-length-4 c = search rules

same-length-5 : tie.Need-shape_of-pairs
same-length-5 c =
    c.feed_and_ask-asked.auto.pairs ∙ c.open_flow-again.auto.pairs ∙ c.open_flow-opened.auto.pairs

same-length-6 : tie.Need-shape_of-run
same-length-6 c = search rules

same-length-7 : tie.Need-shape_of-work
same-length-7 c = search rules

returns : tie.Need-returns
returns c =
    why-driven _ _ _ _ _ _ _ _ _ _ _ _ _ _ _ _ _ _ _ _ _ _ _ _ _ _ _ c.check_table-checked.ensures c.fill-filled.ensures c.fill-indexed.ensures c.open_flow-opened.ensures c.open_flow-again.ensures
    c.feed_and_ask-asked.ensures.0 c.feed_and_ask-asked.ensures.1 (λ i. (c.shared_slice_known-5-1.given i).fits) (λ i. (c.shared_slice_known-6-1.given i).fits)

pub drive_why_spec : {M : Type 1} → statement M
drive_why_spec = tie.close (tie.spec check-table-requires fill-requires fill-requires-2 open-flow-requires open-flow-requires-2 feed-and-ask-requires same_length same-length-2 same-length-3 same-length-4 same-length-5 same-length-6 same-length-7 returns)
