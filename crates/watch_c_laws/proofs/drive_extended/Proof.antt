-- `drive_extended` meets its promise by the promises of the C face. Assumes nothing.
use borrow.Author.Rules.{rules}
use Rattle.watch_c_laws.proofs.Facing.{held-so, held-open-so}
use Rattle.watch_c_laws.proofs.drive_extended.Statement.{statement}
use Rattle.watch_c_laws.proofs.drive_extended.Tie as tie

watch-x-check-requires : tie.Need-watch_x_check-checked-requires
watch-x-check-requires c κs = search rules

watch-x-open-requires : tie.Need-watch_x_open-opened-requires
watch-x-open-requires c κs = search rules

watch-x-feed-requires : tie.Need-watch_x_feed-fed-requires
watch-x-feed-requires c κs = search rules

same_length : tie.Need-shape_of-opening
same_length c = search rules

same-length-2 : tie.Need-shape_of-first_pairs
same-length-2 c = search rules

same-length-3 : tie.Need-shape_of-flow
same-length-3 c = search rules

same-length-4 : tie.Need-shape_of-pairs
same-length-4 c = search rules

returns : tie.Need-returns
returns c =
    let feeding = c.before.before.before.before in
    let opening = feeding.before.before.before.before.before.before.before in
    let checking = opening in (
      checking.watch_x_check-checked.ensures,
      (held-open-so _ _ _ _ opening.watch_x_open-opened.ensures, held-so _ _ _ _ feeding.watch_x_feed-fed.ensures),
    )

pub drive_extended_spec : {M : Type 1} → statement M
drive_extended_spec =
    tie.close
    (tie.spec
    watch-x-check-requires
    watch-x-open-requires
    watch-x-feed-requires
    same_length
    same-length-2
    same-length-3
    same-length-4
    returns)
