-- `feed_all` meets its promise by that of each feed. The loop's invariant: the feeds made so far consumed the bytes before n, told the words before w, answered what is noted, and left the record. Assumes nothing.
use Rattle.std.proofs.Common.{◌≡◌, ◌≤◌, length, take}
use Rattle.table.specs.Table.{table}
use Rattle.laws.specs.Drivers.{planned, Came}
use Rattle.laws.proofs.feed_all.Given as goal

abbrev pub invariant-loop-i : goal.invariant-loop-i
invariant-loop-i l = record {
  consumed : l.n ≤ length l.stream;
  told : l.w ≤ length l.pairs;
  as_many_words : length l.pairs ≡ length l.initial.pairs;
  as_many_notes : length l.notes ≡ length l.initial.notes;
  came : Came l.list (planned l.bound (table l.classes l.parts l.rows l.splits) l.matrix l.index l.kinds l.starts l.cuts l.rooms l.stream (length l.initial.pairs))
      l.i l.initial.flow l.told (take l.told l.initial.pairs) l.n l.w l.pairs l.notes l.flow;
}
