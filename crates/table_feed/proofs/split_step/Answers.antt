-- `split_step` takes the slots of the split that `table::find_sorted` gives.
use Rattle.std.proofs.Common.{arith}
use Rattle.sets.specs.Set.{set_of}
use Rattle.table.specs.Table.{table, row}
use Rattle.table.proofs.Entries.{largest-at}
use Rattle.table_feed.proofs.Stepping.{step-none, step-bad, step-over, step-found}
use Rattle.table_feed.proofs.split_step.Goals as goal

pub returns-in_err-i : goal.returns-in_err-i
returns-in_err-i c =
    let a = c.args in
    rw c.from_residual.ensures (step-none a.bound (table a.classes.now a.parts.now a.rows.now a.splits.now) (set_of a.f) a.c c.in_err-i.ensures.none)

pub take_slots-requires : goal.take_slots-requires
take_slots-requires c =
    let a = c.args in (
      rw (c.part_count-n.ensures, c.requires.0) c.requires.1,
      omega (arith, c.byte_at-q.ensures, c.requires.0, largest-at a.classes.now a.c),
      c.in_ok-i.ensures.found.1,
    )

pub returns-in_err-t : goal.returns-in_err-t
unfolding row
returns-in_err-t c =
    let a = c.args in
    let T = table a.classes.now a.parts.now a.rows.now a.splits.now in
    let f = c.in_ok-i.ensures.found in
    rw c.from_residual-in_err-t.ensures (step-bad a.bound T (set_of a.f) a.c c.in_ok-i.i f.0 f.1 (rw (c.part_count-n.ensures, c.requires.0, c.byte_at-q.ensures) at c.in_err-t.ensures))

pub returns-then-bound-t : goal.returns-then-bound-t
unfolding row
returns-then-bound-t c =
    let a = c.args in
    let T = table a.classes.now a.parts.now a.rows.now a.splits.now in
    let f = c.in_ok-i.ensures.found in
    step-over a.bound T (set_of a.f) a.c c.in_ok-i.i f.0 f.1 c.in_ok-t.t (rw (c.part_count-n.ensures, c.requires.0, c.byte_at-q.ensures) at c.in_ok-t.ensures) c.if-bound-t.true

pub returns : goal.returns
unfolding row
returns c =
    let a = c.args in
    let T = table a.classes.now a.parts.now a.rows.now a.splits.now in
    let f = c.in_ok-i.ensures.found in
    step-found a.bound T (set_of a.f) a.c c.in_ok-i.i f.0 f.1 c.in_ok-t.t (rw (c.part_count-n.ensures, c.requires.0, c.byte_at-q.ensures) at c.in_ok-t.ensures) c.if-bound-t.false
