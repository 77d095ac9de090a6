-- `glance` meets its promise: a look that comes as far as it says is a turn. Assumes nothing.
use Rattle.std.proofs.Common.{arith}
use Rattle.segment_drivers.proofs.Driving.{fed-fits, glanced-torn, glanced-placed, glanced-none, glanced-whole}
use Rattle.segment_drivers.proofs.glance.Goals as goal

pub returns-in-Torn : goal.returns-in-Torn
returns-in-Torn c =
    let a = c.args in
    rw c.in-Torn.is
    (glanced-torn a.list.now a.first a.start a.segment.now a.so a.v a.pairs.now a.flow.now a.held.now c.requires.0 c.requires.1 _ _ _ _ c.offset_of-at.ensures c.next_of-next.ensures c.take-taken.ensures)

pub returns-in-Placed : goal.returns-in-Placed
returns-in-Placed c =
    let a = c.args in
    rw c.in-Placed.is
    (glanced-placed a.list.now a.first a.start a.segment.now a.so a.v a.pairs.now a.flow.now a.held.now c.requires.0 c.requires.1 _ _ _ _ c.offset_of-at.ensures c.next_of-next.ensures c.take-taken.ensures)

pub returns-then-due-eq0 : goal.returns-then-due-eq0
returns-then-due-eq0 c =
    let a = c.args in
    rw c.in-Whole.is
    (glanced-none a.list.now a.first a.start a.segment.now a.so a.v a.pairs.now a.flow.now a.held.now c.requires.0 c.requires.1 _ _ _ _ c.offset_of-at.ensures c.next_of-next.ensures c.take-taken.ensures
    _ c.due-due.ensures c.if-due-eq0.true)

pub overflow_mul-result : goal.overflow_mul-result
overflow_mul-result c =
    let a = c.args in
    omega (arith, fed-fits a.list.now a.flow.now _ c.due-due.result.now a.so.words a.v a.pairs.now c.requires.0 c.requires.1 _ _ _ c.feed-fed.ensures)

pub overflow_add-result : goal.overflow_add-result
overflow_add-result c =
    let a = c.args in
    omega (arith, fed-fits a.list.now a.flow.now _ c.due-due.result.now a.so.words a.v a.pairs.now c.requires.0 c.requires.1 _ _ _ c.feed-fed.ensures)

pub returns-else-due-eq0 : goal.returns-else-due-eq0
returns-else-due-eq0 c =
    let a = c.args in
    rw c.in-Whole.is
    (glanced-whole a.list.now a.first a.start a.segment.now a.so a.v a.pairs.now a.flow.now a.held.now c.requires.0 c.requires.1 _ _ _ _ c.offset_of-at.ensures c.next_of-next.ensures c.take-taken.ensures
    _ c.due-due.ensures c.if-due-eq0.false _ _ _ c.feed-fed.ensures)
