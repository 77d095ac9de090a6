-- The loop keeps `Going`.
use Rattle.std.proofs.Common.{◌≡◌}
use Rattle.sets.specs.Set.{set_of}
use Rattle.feed.specs.inner.Going.{Going}
use Rattle.table.specs.Table.{table}
use Rattle.table_feed.specs.Split.{split}
use Rattle.table_feed.proofs.feed_bytes.Given as goal

abbrev pub invariant-loop-i : goal.invariant-loop-i
invariant-loop-i l =
    Going (split l.list l.bound (table l.classes l.parts l.rows l.splits)) (set_of l.fn.first) l.offset l.piece l.fn.pairs (set_of l.ran.frontier) l.pairs l.i l.ran.words l.ran.rows
    × (l.ran.bytes ≡ l.i) × (l.ran.refusal ≡ 0)
