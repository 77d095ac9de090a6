use Rattle.std.proofs.Common.{arith}
use Rattle.text.proofs.Peeling.{gone}
use Rattle.text_marks.proofs.Tokens.{class-hit, class-skip}
use Rattle.text_marks.proofs.class_end.Goals as goal

pub returns-then-text-next-eq93 : goal.returns-then-text-next-eq93
returns-then-text-next-eq93 c =
    (omega arith, omega arith, λ u y h e. let (v, g, f) = c.loop-next.invariant.1 u y h e in class-hit c.args.text.now c.loop-next.next v y c.if-text-next-eq93.true g f)

pub loop-next-preserved : goal.loop-next-preserved
loop-next-preserved c = (omega arith, λ u y h e. let (v, g, f) = c.loop-next.invariant.1 u y h e in class-skip c.args.text.now c.loop-next.next v y c.if-text-next-eq93.false g f)

pub returns : goal.returns
returns c =
    (omega arith, omega arith, λ u y h e. let (v, g, f) = c.loop-next.invariant.1 u y h e in absurd (gone c.args.text.now c.loop-next.next 93 v y (omega arith) f))
