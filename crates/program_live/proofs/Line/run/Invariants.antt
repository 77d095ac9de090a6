-- What was handed over is logged, and ahead are the texts from here on.
use Rattle.std.proofs.Common.{◌≡◌, ◌+◌, ◌-◌, ◌≤◌, length}
use Rattle.program_turn.specs.Turn.{most_unit, saves}
use Rattle.program_live.specs.Live.{OnArrays}
use Rattle.program_live.proofs.Handing.{all_handed, Standing}
use Rattle.program_live.proofs.Line.run.Given as goal

abbrev pub invariant-loop-k : goal.invariant-loop-k
invariant-loop-k l = record {
  inside : l.u.from ≤ l.u.to;
  short : l.u.to ≤ most_unit;
  within : l.end ≤ length l.log;
  full : length l.bytes ≡ length l.fn.bytes;
  running : OnArrays l.self.ends (λ input answers.
      l.begun.end + length (all_handed l.self.keeping l.self.list.now input answers (saves l.begun.next) l.fn.state l.fn.log l.begun.most l.begun.texts l.begun.end) ≤ length l.fn.log
      → Standing l.self.keeping l.self.list.now input answers (saves l.begun.next) l.fn.state l.fn.log l.begun.most l.begun.texts l.begun.end
      (saves l.next) l.state l.log l.u l.bytes (l.begun.most - l.k) (l.begun.texts + l.k) l.end);
}
