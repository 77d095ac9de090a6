-- `drive_segment` meets its promise by the promises of the C face. Assumes nothing.
use borrow.Author.Rules.{rules}
use Rattle.watch_c_laws.proofs.Resent.{taken-so, due-so}
use Rattle.watch_c_laws.proofs.drive_segment.Statement.{statement}
use Rattle.watch_c_laws.proofs.drive_segment.Tie as tie

watch-take-requires : tie.Need-watch_take-taken-requires
watch-take-requires c κs = search rules

watch-due-requires : tie.Need-watch_due-part-requires
watch-due-requires c κs = search rules

same_length : tie.Need-shape_of-held
same_length c = search rules

returns : tie.Need-returns
returns c =
    let taking = c in (
      taken-so _ _ _ taking.watch_take-taken.ensures,
      due-so _ _ _ _ _ _ _ c.watch_due-part.ensures,
    )

pub drive_segment_spec : {M : Type 1} → statement M
drive_segment_spec = tie.close (tie.spec watch-take-requires watch-due-requires same_length returns)
