-- `drive_matrix` meets its promise by the promises of the C face; where the filler refuses nothing, by `matrix-is-plain`. Assumes nothing.
use borrow.Author.Rules.{rules}
use Prim.Native.Nat.{ℕ}
use mathlib.Core.Path.{◌∙◌, ap}
use mathlib.Core.List.{List}
use Rattle.matrix.specs.Matrix.{matrix_feed}
use Rattle.matrix.proofs.Exact.{matrix-is-plain, filled-left}
use Rattle.watch_c_laws.proofs.Facing.{held-so}
use Rattle.watch_c_laws.proofs.drive_matrix.Statement.{statement}
use Rattle.watch_c_laws.proofs.drive_matrix.Tie as tie

watch-fill-matrix-requires : tie.Need-watch_fill_matrix-filled-requires
watch-fill-matrix-requires c κs = search rules

watch-matrix-feed-requires : tie.Need-watch_matrix_feed-fed-requires
watch-matrix-feed-requires c κs = search rules

same_length : tie.Need-shape_of-matrix
same_length c = search rules

same-length-2 : tie.Need-shape_of-flow
same-length-2 c = search rules

same-length-3 : tie.Need-shape_of-pairs
same-length-3 c = search rules

returns : tie.Need-returns
returns c =
    let feeding = c.before.before.before.before in
    let filling = feeding in
    let a = filling.args in
    let fed = held-so _ _ _ _ feeding.watch_matrix_feed-fed.ensures in (
      filling.watch_fill_matrix-filled.ensures,
      (
        fed,
        λ z.
            fed ∙
            ap (λ (X : List ℕ). matrix_feed a.list.now X a.flow.now a.start a.piece.now a.pairs.now) (filled-left _ _ _ _ filling.watch_fill_matrix-filled.ensures z) ∙
            matrix-is-plain a.list.now a.flow.now a.start a.piece.now a.pairs.now (λ i. (filling.shared_slice_known-2-1.given i).fits),
      ),
    )

pub drive_matrix_spec : {M : Type 1} → statement M
drive_matrix_spec =
    tie.close
    (tie.spec
    watch-fill-matrix-requires
    watch-matrix-feed-requires
    same_length
    same-length-2
    same-length-3
    returns)
