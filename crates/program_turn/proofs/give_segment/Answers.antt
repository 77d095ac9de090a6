-- `give_segment` meets its promise: the segment is fed, and what is then kept is put into the state. Assumes nothing.
use Rattle.std.proofs.Common.{sym, refl, ◌∙◌, arith}
use Rattle.program_turn.proofs.Laws.{gives-segment}
use Rattle.program_turn.proofs.give_segment.Goals as goal

pub keep-requires : goal.keep-requires
keep-requires c =
    (omega (arith, c.requires.0), c.feed_segment-heard.auto.flow ∙ c.take_part.auto.part, c.feed_segment-heard.auto.held ∙ c.take_part-2.auto.part ∙ sym c.buffer-held.ensures)

pub overflow_add-bytes : goal.overflow_add-bytes
overflow_add-bytes c =
    omega (arith, c.requires.1)

pub returns : goal.returns
returns c =
    let a = c.args in
    gives-segment a.list.now a.state.now _ _ _ _ c.take_part.ensures refl c.take_part-2.ensures (sym c.buffer-held.ensures) _ _ _ a.start c.short_number.ensures c.short_number-2.ensures c.short_number-3.ensures
    a.bytes.now a.out.now _ _ _ _ _ c.feed_segment-heard.ensures c.keep.ensures _ _ _ c.passed.ensures c.over.ensures c.over-2.ensures _ c.again.ensures
