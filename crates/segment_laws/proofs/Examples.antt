-- The worked cases of resends hold of the definitions: one table, one statement. Assumes nothing.
use Prim.Native.Nat.{ℕ}
use mathlib.Core.List.{◌++◌}
use lib.Dec.{T}
use Rattle.laws_examples.specs.Examples.{Agree}
use Rattle.laws_examples.proofs.Examples.{same, agree, same-sound, agree-sound, agree-append, steps, feeds}
use Rattle.segment.specs.Resend.{distance, ahead, has_next, all_before, bad_sizes, early, full, up_to, taking, part_due, due}
use Rattle.feed.specs.Calls.{record_after, all_told, all_bytes}
use Rattle.segment_feed.specs.Segment.{look, behind, more, looked, feed_segment}
use Rattle.segment_laws.specs.Examples.{size_row, take_rows, flow_rows, single_rows, resend_examples}

-- what the rows compute with
parts : ℕ
unfolding distance ahead has_next all_before bad_sizes early full up_to taking part_due due
parts = 0

segments : ℕ
unfolding look behind more looked feed_segment record_after all_told all_bytes
segments = 0

sizes-hold : T (same size_row.0 size_row.1)
unfolding parts
sizes-hold = tt

takes-hold : T (agree take_rows)
unfolding parts
takes-hold = tt

flows-hold : T (agree flow_rows)
unfolding steps feeds parts segments
flows-hold = tt

singles-hold : T (agree single_rows)
unfolding steps feeds parts segments
singles-hold = tt

pub resend-examples-hold : Agree resend_examples
resend-examples-hold = (
  same-sound size_row.0 size_row.1 sizes-hold,
  agree-append take_rows (flow_rows ++ single_rows) (agree-sound take_rows takes-hold)
      (agree-append flow_rows single_rows (agree-sound flow_rows flows-hold) (agree-sound single_rows singles-hold)),
)
