-- `drive_index` meets its promise by the promises of the C face, and by what they give together. Assumes nothing.
use borrow.Author.Rules.{rules}
use mathlib.Core.Path.{◌∙◌}
use Rattle.table.specs.Table.{table}
use Rattle.index_fill.proofs.Ready.{feed-ready}
use Rattle.watch_c_laws.proofs.Facing.{held-so}
use Rattle.watch_c_laws.proofs.drive_index.Statement.{statement}
use Rattle.watch_c_laws.proofs.drive_index.Tie as tie

watch-fill-index-requires : tie.Need-watch_fill_index-filled-requires
watch-fill-index-requires c κs = search rules

watch-prepared-feed-requires : tie.Need-watch_prepared_feed-stood-requires
watch-prepared-feed-requires c κs = search rules

same_length : tie.Need-shape_of-index
same_length c = search rules

same-length-2 : tie.Need-shape_of-flow
same-length-2 c = search rules

same-length-3 : tie.Need-shape_of-pairs
same-length-3 c = search rules

returns : tie.Need-returns
returns c =
    let feeding = c.before.before.before.before in
    let filling = feeding in
    let a = filling.args in
    let fed = held-so _ _ _ _ feeding.watch_prepared_feed-stood.ensures.0 in (
      filling.watch_fill_index-filled.ensures,
      (
        fed,
        (
          feeding.watch_prepared_feed-stood.ensures.1,
          λ z.
              fed
              ∙ feed-ready a.list.now a.bound (table a.classes.now a.parts.now a.rows.now a.splits.now) _ _ _ filling.watch_fill_index-filled.ensures z
              (λ i. (filling.shared_slice_known-5-1.given i).fits) a.split a.flow.now a.start a.piece.now a.pairs.now
              (λ i. (filling.shared_slice_known-6-1.given i).fits),
        ),
      ),
    )

pub drive_index_spec : {M : Type 1} → statement M
drive_index_spec =
    tie.close
    (tie.spec
    watch-fill-index-requires
    watch-prepared-feed-requires
    same_length
    same-length-2
    same-length-3
    returns)
