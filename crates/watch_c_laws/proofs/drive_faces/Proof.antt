-- `drive_faces` meets its promise by the promises of the C face. Assumes nothing.
use borrow.Author.Rules.{rules}
use Rattle.watch_c_laws.proofs.Facing.{held-so, held-open-so}
use Rattle.watch_c_laws.proofs.drive_faces.Statement.{statement}
use Rattle.watch_c_laws.proofs.drive_faces.Tie as tie

same_length : tie.Need-shape_of-opening
same_length c = search rules

same-length-2 : tie.Need-shape_of-first_pairs
same-length-2 c = search rules

same-length-3 : tie.Need-shape_of-flow
same-length-3 c = search rules

same-length-4 : tie.Need-shape_of-pairs
same-length-4 c = search rules

same-length-5 : tie.Need-shape_of-split_flow
same-length-5 c = search rules

same-length-6 : tie.Need-shape_of-split_pairs
same-length-6 c = search rules

watch-check-list-requires : tie.Need-watch_check_list-listed-requires
watch-check-list-requires c κs = search rules

watch-check-table-requires : tie.Need-watch_check_table-checked-requires
watch-check-table-requires c κs = search rules

watch-feed-requires : tie.Need-watch_feed-fed-requires
watch-feed-requires c κs = search rules

watch-open-requires : tie.Need-watch_open-opened-requires
watch-open-requires c κs = search rules

watch-split-feed-requires : tie.Need-watch_split_feed-split-requires
watch-split-feed-requires c κs = search rules

returns : tie.Need-returns
returns c =
    let splitting = c.before.before.before.before in
    let feeding = splitting.before.before.before.before.before.before.before in
    let opening = feeding.before.before.before.before.before.before.before in
    let checking = opening.before.before.before in
    let listing = checking in (
      listing.watch_check_list-listed.ensures,
      (
        checking.watch_check_table-checked.ensures,
        (
          held-open-so _ _ _ _ opening.watch_open-opened.ensures,
          (
            held-so _ _ _ _ feeding.watch_feed-fed.ensures,
            held-so _ _ _ _ splitting.watch_split_feed-split.ensures,
          ),
        ),
      ),
    )

pub drive_faces_spec : {M : Type 1} → statement M
drive_faces_spec =
    tie.close
    (tie.spec
    watch-check-list-requires
    watch-check-table-requires
    watch-open-requires
    watch-feed-requires
    watch-split-feed-requires
    same_length
    same-length-2
    same-length-3
    same-length-4
    same-length-5
    same-length-6
    returns)
