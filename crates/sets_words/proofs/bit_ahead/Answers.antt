-- No 1 stands from the first word on up to the one that the loop has come to.
use Rattle.std.proofs.Common.{◌≡◌, ◌*◌, length, arith}
use mathlib.Core.Path.{subst}
use Rattle.numbers.specs.Number.{num}
use Rattle.sets_words.specs.inner.Next.{Next}
use Rattle.sets_words.proofs.Visiting.{none_more, next-in, next-none}
use Rattle.sets_words.proofs.bit_ahead.Goals as goal

pub loop-i-init : goal.loop-i-init
loop-i-init c = λ q a b. absurd (omega arith)

pub returns-then-w-i-ne0 : goal.returns-then-w-i-ne0
returns-then-w-i-ne0 c =
    next-in c.args.w.now (λ i. (c.type_inv.w i).fits) (64 * c.args.from) c.loop-i.i c.lowest.result (64 * length c.args.w.now) (omega arith) (omega arith) c.loop-i.invariant c.lowest.ensures

pub loop-i-preserved : goal.loop-i-preserved
loop-i-preserved c = none_more c.args.w.now (λ i. (c.type_inv.w i).fits) (64 * c.args.from) c.loop-i.i c.loop-i.invariant c.if-w-i-ne0.false

pub returns : goal.returns
returns c =
    let e : c.loop-i.i ≡ length c.args.w.now = omega arith in
    subst (λ z. Next (num 64 c.args.w.now) (64 * c.args.from) (64 * z) (64 * z)) e (next-none (num 64 c.args.w.now) (64 * c.args.from) (64 * c.loop-i.i) c.loop-i.invariant)
