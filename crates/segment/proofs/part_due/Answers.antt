-- Each return is a case of the definition. Assumes nothing.
use Rattle.std.proofs.Common.{sym, ◌∙◌, arith}
use Rattle.segment.proofs.Parts.{has-bound, part-bad, part_held, part-seg, part_none}
use Rattle.segment.proofs.part_due.Goals as goal

pub returns-then-bad_sizes : goal.returns-then-bad_sizes
returns-then-bad_sizes c =
    let a = c.args in
    sym (part-bad a.next a.held_size a.held_start a.held_length a.start a.segment_size (sym c.bad_sizes.ensures ∙ c.if-bad_sizes.true))

pub overflow_sub-result : goal.overflow_sub-result
overflow_sub-result c =
    let h = has-bound c.args.next c.args.held_start c.args.held_length (sym c.has_next.ensures ∙ c.if-has_next.true) in
    omega (arith, c.distance-at.ensures)

pub returns-then-has_next : goal.returns-then-has_next
returns-then-has_next c =
    let a = c.args in
    rw c.distance-at.ensures (sym (part_held a.next a.held_size a.held_start a.held_length a.start a.segment_size
    (sym c.bad_sizes.ensures ∙ c.if-bad_sizes.false) (sym c.has_next.ensures ∙ c.if-has_next.true)))

pub overflow_sub-segment_size : goal.overflow_sub-segment_size
overflow_sub-segment_size c =
    let h = has-bound c.args.next c.args.start c.args.segment_size (sym c.has_next-2.ensures ∙ c.if-has_next-2.true) in
    omega (arith, c.distance-at-then-has_next-2.ensures)

pub returns-then-has_next-2 : goal.returns-then-has_next-2
returns-then-has_next-2 c =
    let a = c.args in
    rw (c.up_to.ensures, c.distance-at-then-has_next-2.ensures) (sym (part-seg a.next a.held_size a.held_start a.held_length a.start a.segment_size
    (sym c.bad_sizes.ensures ∙ c.if-bad_sizes.false) (sym c.has_next.ensures ∙ c.if-has_next.false) (sym c.has_next-2.ensures ∙ c.if-has_next-2.true)))

pub returns : goal.returns
returns c =
    let a = c.args in
    sym (part_none a.next a.held_size a.held_start a.held_length a.start a.segment_size
    (sym c.bad_sizes.ensures ∙ c.if-bad_sizes.false) (sym c.has_next.ensures ∙ c.if-has_next.false) (sym c.has_next-2.ensures ∙ c.if-has_next-2.false))
