-- `renew` meets its promise: the record stays, or it is renewed and the counts move on. Assumes nothing.
use Rattle.std.proofs.Common.{refl, arith}
use Rattle.program_turn.proofs.Laws.{renew-far, renew-refused, renew-is}
use Rattle.program_turn.proofs.renew.Goals as goal

pub returns-then-offset-le-NEAR : goal.returns-then-offset-le-NEAR
returns-then-offset-le-NEAR c =
    renew-far c.args.state.now _ _ c.take_part.ensures refl _ c.offset_of-offset.ensures c.if-offset-le-NEAR.true

pub returns-then-refusal-ne-PASSED : goal.returns-then-refusal-ne-PASSED
returns-then-refusal-ne-PASSED c =
    renew-refused c.args.state.now _ _ c.take_part.ensures refl _ c.offset_of-offset.ensures (omega (arith, c.if-offset-le-NEAR.false)) _ _ c.renew-refusal.ensures c.if-refusal-ne-PASSED.true

pub returns : goal.returns
returns c =
    renew-is c.args.state.now _ _ c.take_part.ensures refl _ c.offset_of-offset.ensures (omega (arith, c.if-offset-le-NEAR.false)) _ _ c.renew-refusal.ensures _ _ _ _ _ c.if-refusal-ne-PASSED.false
    c.short_number.ensures refl c.put_part.ensures c.plus_number.ensures c.put_number.ensures
