-- `drive_text` meets its promise by the promises of the compiler, the check, opening and the feed. Assumes nothing.
use borrow.Author.Rules.{rules}
use mathlib.Core.Path.{sym}
use lib.Seq.{length-take-le}
use Rattle.text_laws.proofs.Driving.{compiled-fits, text-served}
use Rattle.text_laws.proofs.drive_text.Statement.{statement}
use Rattle.text_laws.proofs.drive_text.Tie as tie

compile-requires : tie.Need-compile-compiled-requires
compile-requires c κs = search rules

slice-reshare-prefix-serve : tie.Need-slice_bounds-serve-end
slice-reshare-prefix-serve c =
    compiled-fits _ _ _ _ _ (λ i. (c.shared_slice_known-1.given i).fits) c.ranges.signature.fits c.compile-compiled.ensures

slice-aggregate-serve : tie.Need-slice_bounds-serve-end-2
slice-aggregate-serve c =
    sym (length-take-le _ _ (compiled-fits _ _ _ _ _ (λ i. (c.shared_slice_known-1.given i).fits) c.ranges.signature.fits c.compile-compiled.ensures))

serve-requires : tie.Need-serve-served-requires
serve-requires c κs = search rules

same_length : tie.Need-shape_of-list
same_length c = search rules

same-length-2 : tie.Need-shape_of-flow
same-length-2 c = search rules

same-length-3 : tie.Need-shape_of-words
same-length-3 c = search rules

same-length-4 : tie.Need-shape_of-pairs
same-length-4 c = search rules

returns : tie.Need-returns
returns c =
    text-served _ _ _ _ _ _ _ _ _ _ _ (λ i. (c.shared_slice_known-1.given i).fits) c.ranges.signature.fits
    (λ i. (c.shared_slice_known-2-1.given i).fits) c.compile-compiled.ensures c.serve-served.ensures

pub drive_text_spec : {M : Type 1} → statement M
drive_text_spec =
    tie.close
    (tie.spec
    compile-requires
    slice-reshare-prefix-serve
    slice-aggregate-serve
    serve-requires
    same_length
    same-length-2
    same-length-3
    same-length-4
    returns)
