-- The union so far, with the rest, is the whole.
use Rattle.sets.specs.Set.{set_of}
use Rattle.table.specs.Table.{row_at, slots}
use Rattle.table_feed.proofs.Taking.{Taking}
use Rattle.table_feed.proofs.take_slots.Given as goal

abbrev pub invariant-loop-j : goal.invariant-loop-j
invariant-loop-j l = Taking (λ p. row_at l.rows l.k p l.q) l.n (slots l.splits l.i) (set_of l.next) l.j
