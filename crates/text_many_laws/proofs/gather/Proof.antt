-- `gather` meets its promise by the promises of the compiler, of joining and of folding. Assumes nothing.
use borrow.Author.Rules.{rules}
use mathlib.Core.Path.{sym}
use lib.Seq.{length-take-le}
use Rattle.text_laws.proofs.Driving.{compiled-fits}
use Rattle.text_many_laws.proofs.Driving.{joined-fits}
use Rattle.text_many_laws.proofs.gather.Statement.{statement}
use Rattle.text_many_laws.proofs.gather.Tie as tie

compile-requires : tie.Need-compile-one-requires
compile-requires c κs = search rules

compile-requires-2 : tie.Need-compile-two-requires
compile-requires-2 c κs = search rules

slice-reshare-prefix-join : tie.Need-slice_bounds-join-end
slice-reshare-prefix-join c =
    compiled-fits _ _ _ _ _ (λ i. (c.shared_slice_known-2-1.given i).fits) c.ranges.h.fits c.compile-two.ensures

slice-aggregate-join : tie.Need-slice_bounds-join-end-2
slice-aggregate-join c =
    sym (length-take-le _ _ (compiled-fits _ _ _ _ _ (λ i. (c.shared_slice_known-2-1.given i).fits) c.ranges.h.fits c.compile-two.ensures))

join-requires : tie.Need-join-joined-requires
join-requires c κs = search rules

slice-reshare-prefix-fold : tie.Need-slice_bounds-fold-end
slice-reshare-prefix-fold c = joined-fits _ _ _ _ _ c.join-joined.ensures

slice-aggregate-fold : tie.Need-slice_bounds-fold-end-2
slice-aggregate-fold c = sym (length-take-le _ _ (joined-fits _ _ _ _ _ c.join-joined.ensures))

fold-requires : tie.Need-fold-folded-requires
fold-requires c κs = search rules

same_length : tie.Need-shape_of-list
same_length c = search rules

same-length-2 : tie.Need-shape_of-other
same-length-2 c = search rules

same-length-3 : tie.Need-shape_of-out
same-length-3 c = search rules

returns : tie.Need-returns
returns c =
    record {
      list = _;
      other = _;
      whole = _;
      first = c.compile-one.ensures;
      second = c.compile-two.ensures;
      joins = c.join-joined.ensures;
      folds = c.fold-folded.ensures;
    }

pub gather_spec : {M : Type 1} → statement M
gather_spec =
    tie.close
    (tie.spec
    compile-requires
    compile-requires-2
    slice-reshare-prefix-join
    slice-aggregate-join
    join-requires
    slice-reshare-prefix-fold
    slice-aggregate-fold
    fold-requires
    same_length
    same-length-2
    same-length-3
    returns)
