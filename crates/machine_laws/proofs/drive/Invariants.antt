-- `drive` meets its promise by the promises of the functions that it calls. The loop's invariant: what is answered, consumed, told and left is what the first i feeds do. Assumes nothing.
use Rattle.std.proofs.Common.{◌≡◌, ◌≤◌, length, take}
use Rattle.machine_laws.proofs.Driving.{Led}
use Rattle.machine_laws.proofs.drive.Given as goal

abbrev pub invariant-loop-i : goal.invariant-loop-i
invariant-loop-i l = record {
  consumed : l.so.bytes ≤ length l.stream;
  told : l.so.words ≤ length l.pairs;
  as_many_words : length l.pairs ≡ length l.initial.pairs;
  as_many_numbers : length l.numbers ≡ length l.initial.numbers;
  led : Led l.moves l.programs l.starts l.initial.flow (take l.initial.so.words l.initial.pairs) l.stream l.i l.so l.pairs l.numbers l.flow;
}
