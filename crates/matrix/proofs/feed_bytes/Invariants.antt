use Rattle.std.proofs.Common.{◌≡◌, ◌*◌, ◌^◌, ◌≤◌, ◌<◌, length}
use Rattle.sets.specs.Set.{set_words, set_size, set_of, set_at}
use Rattle.feed.specs.inner.Going.{Going}
use Rattle.matrix.specs.Matrix.{matrixed}
use Rattle.matrix.proofs.feed_bytes.Given as goal

abbrev pub invariant-loop-i : goal.invariant-loop-i
invariant-loop-i l =
    Going (matrixed l.list l.matrix) (set_of l.fn.first) l.offset l.piece l.initial.pairs (set_at l.f 0) l.pairs l.i l.words l.rows
    × (l.wide ≤ set_words) × (set_at l.f 0 < 2 ^ (64 * l.wide)) × (length l.f ≡ set_size)
