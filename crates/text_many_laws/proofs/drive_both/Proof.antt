-- `drive_both` meets its promise by the promises of making the list and of the calls on it. Assumes nothing.
use borrow.Author.Rules.{rules}
use mathlib.Core.Path.{sym}
use lib.Seq.{length-take-le}
use Rattle.text_many_laws.proofs.Driving.{folded_fits, both-served}
use Rattle.text_many_laws.proofs.drive_both.Statement.{statement}
use Rattle.text_many_laws.proofs.drive_both.Tie as tie

gather-requires : tie.Need-gather-gathered-requires
gather-requires c κs = search rules

slice-reshare-prefix-serve : tie.Need-slice_bounds-serve-end
slice-reshare-prefix-serve c = folded_fits _ _ _ _ c.gather-gathered.ensures.folds

slice-aggregate-serve : tie.Need-slice_bounds-serve-end-2
slice-aggregate-serve c = sym (length-take-le _ _ (folded_fits _ _ _ _ c.gather-gathered.ensures.folds))

serve-requires : tie.Need-serve-served-requires
serve-requires c κs = search rules

same_length : tie.Need-shape_of-list
same_length c = search rules

same-length-2 : tie.Need-shape_of-other
same-length-2 c = search rules

same-length-3 : tie.Need-shape_of-out
same-length-3 c = search rules

same-length-4 : tie.Need-shape_of-flow
same-length-4 c = search rules

same-length-5 : tie.Need-shape_of-words
same-length-5 c = search rules

same-length-6 : tie.Need-shape_of-pairs
same-length-6 c = search rules

returns : tie.Need-returns
returns c =
    both-served _ _ _ _ _ _ _ _ _ _ _ _ _ _ _ (λ i. (c.shared_slice_known-1.given i).fits) c.ranges.g.fits
    (λ i. (c.shared_slice_known-2-1.given i).fits) c.ranges.h.fits (λ i. (c.shared_slice_known-3-1.given i).fits)
    c.gather-gathered.ensures c.serve-served.ensures

pub drive_both_spec : {M : Type 1} → statement M
drive_both_spec =
    tie.close
    (tie.spec
    gather-requires
    slice-reshare-prefix-serve
    slice-aggregate-serve
    serve-requires
    same_length
    same-length-2
    same-length-3
    same-length-4
    same-length-5
    same-length-6
    returns)
