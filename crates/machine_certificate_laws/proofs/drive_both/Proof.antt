-- `drive_both` meets its promise, by what its callees promise. Assumes nothing.
use mathlib.Core.Path.{◌∙◌}
use borrow.Author.Rules.{rules}
use Rattle.machine_certificate_laws.proofs.Driving.{both-driven}
use Rattle.machine_certificate_laws.proofs.drive_both.Statement.{statement}
use Rattle.machine_certificate_laws.proofs.drive_both.Tie as tie

check-certificate-requires : tie.Need-check_certificate-checked-requires
check-certificate-requires c κs = search rules

open-flow-requires : tie.Need-open_flow-opened-requires
open-flow-requires c κs = search rules

feed-requires : tie.Need-feed-fed-requires
feed-requires c κs = search rules

open-flow-requires-2 : tie.Need-open_flow-machine_opened-requires
open-flow-requires-2 c κs = search rules

feed-requires-2 : tie.Need-feed-machine_fed-requires
feed-requires-2 c κs = search rules

same_length : tie.Need-shape_of-flow
same_length c =
    c.feed-fed.auto.flow ∙ c.open_flow-opened.auto.flow

same-length-2 : tie.Need-shape_of-pairs0
same-length-2 c = search rules

same-length-3 : tie.Need-shape_of-pairs
same-length-3 c = search rules

same-length-4 : tie.Need-shape_of-machine_flow
same-length-4 c = search rules

same-length-5 : tie.Need-shape_of-machine_pairs0
same-length-5 c = search rules

same-length-6 : tie.Need-shape_of-machine_pairs
same-length-6 c = search rules

returns : tie.Need-returns
returns c =
    both-driven _ _ _ _ _ _ (λ i. (c.shared_slice_known-2-1.given i).fits) (λ i. (c.shared_slice_known-3-1.given i).fits) (λ i. (c.shared_slice_known-5-1.given i).fits)
    _ _ _ _ _ _ c.open_flow-opened.ensures c.feed-fed.ensures _ _ _ _ _ _ c.open_flow-machine_opened.ensures c.feed-machine_fed.ensures _ c.check_certificate-checked.ensures

pub drive_both_spec : {M : Type 1} → statement M
drive_both_spec =
    tie.close
    (tie.spec
    check-certificate-requires
    open-flow-requires
    feed-requires
    open-flow-requires-2
    feed-requires-2
    same_length
    same-length-2
    same-length-3
    same-length-4
    same-length-5
    same-length-6
    returns)
