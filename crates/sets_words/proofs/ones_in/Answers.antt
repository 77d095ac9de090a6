-- Each way out says which bits of the word stand from low to high. Assumes nothing.
use Rattle.std.proofs.Common.{◌*◌, ◌-◌, arith}
use Rattle.sets_words.proofs.Masks.{spans-early, spans-late, spans-never, spans-some, spans-whole}
use Rattle.sets_words.proofs.ones_in.Goals as goal

pub returns-then-high-low : goal.returns-then-high-low
returns-then-high-low c = spans-never c.args.low c.args.high c.args.i c.if-high-low.true

pub returns-then-high-i : goal.returns-then-high-i
returns-then-high-i c = spans-early c.args.low c.args.high c.args.i c.if-high-i.true

pub returns-then-i-low : goal.returns-then-i-low
returns-then-i-low c = spans-late c.args.low c.args.high c.args.i c.if-i-low.true

pub returns-then-high-i-2 : goal.returns-then-high-i-2
returns-then-high-i-2 c =
    spans-some c.args.low c.args.high c.args.i c.saturating_sub-a.result (c.args.high - 64 * c.args.i) c.ones_between.result c.saturating_sub-a.ensures (omega arith) (omega arith) c.ones_between.ensures

pub returns : goal.returns
returns c =
    spans-whole c.args.low c.args.high c.args.i c.saturating_sub-a.result c.ones_between-2.result c.saturating_sub-a.ensures (omega arith) c.ones_between-2.ensures
