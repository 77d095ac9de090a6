-- What was handed over is logged, and ahead are the texts from here on.
use Rattle.std.proofs.Common.{◌≡◌, ◌+◌, ◌-◌, ◌%◌, ◌≤◌, ◌<◌, length}
use Rattle.feed.specs.Engine.{most_offset}
use Rattle.program_text.specs.Hand.{OnArrays}
use Rattle.program.specs.App.{piece_size, Held}
use Rattle.program.proofs.Handing.{all_handed, Running}
use Rattle.program.proofs.run.Given as goal

abbrev pub invariant-loop-bytes : goal.invariant-loop-bytes
invariant-loop-bytes l = record {
  offset : l.offset ≤ most_offset;
  turns : l.i ≤ l.offset + 1;
  short : l.n ≤ piece_size;
  inside : l.offset % piece_size ≤ l.n;
  within : l.end ≤ length l.log;
  full : length l.piece ≡ length l.fn.piece;
  held : OnArrays l.ends (λ input answers. 0 < l.offset % piece_size → Held input l.offset l.piece l.n);
  running : OnArrays l.ends (λ input answers.
      l.begun + length (all_handed l.list input answers l.fn.flow l.fn.log l.begun) ≤ length l.fn.log
      → Running l.list input answers l.fn.flow l.fn.log l.begun l.flow l.log l.offset l.i l.end);
}

abbrev pub decreases-loop-bytes : goal.decreases-loop-bytes
decreases-loop-bytes l = most_offset + 1 - l.offset
