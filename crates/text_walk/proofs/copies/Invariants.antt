use Rattle.std.proofs.Common.{◌≤◌, ◌+◌, ◌*◌, ◌-◌}
use Rattle.sets.specs.Set.{states}
use Rattle.text.specs.Exp.{Exp, times}
use Rattle.text_walk.specs.inner.Rows.{Keeps, Sums}
use Rattle.text_walk.proofs.copies.Given as goal

-- the times from i on stand behind; the first time's rows stay
abbrev pub invariant-loop-i : goal.invariant-loop-i
invariant-loop-i l =
    (1 ≤ l.i) × (l.i ≤ l.most) × (l.other.size ≤ states) × Keeps (l.base + l.inner.size) l.initial.rows l.rows
    × ((e : Exp) → Sums l.initial.rows l.base e l.inner → Sums l.rows (l.base + l.i * l.inner.size) (times e (l.least - l.i) (l.most - l.i)) l.other)
