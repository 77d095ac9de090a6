-- `drive_segments` meets its promise by the promises of the functions that it calls. The loop's invariant: what is told and kept is what the first i segments tell and leave. Assumes nothing.
use Rattle.std.proofs.Common.{◌≡◌, ◌≤◌, length, take}
use Rattle.feed.specs.Calls.{Bytes}
use Rattle.segment_feed.specs.Post.{kept}
use Rattle.segment_drivers.proofs.Driving.{Handing}
use Rattle.segment_drivers.proofs.drive_segments.Given as goal

abbrev pub invariant-loop-i : goal.invariant-loop-i
invariant-loop-i l = record {
  told : l.so.words ≤ length l.pairs;
  in_bytes : Bytes l.initial.held;
  handing : l.checked ≡ 0 → Handing l.list l.first l.numbers (kept l.initial.flow l.initial.held l.initial.so.start l.initial.so.length) (take l.initial.so.words l.initial.pairs) l.i l.so l.pairs l.flow l.held;
}
