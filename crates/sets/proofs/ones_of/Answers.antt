-- The ones of the words read so far. Assumes nothing.
use Rattle.std.proofs.Common.{◌∙◌, ◌+◌, get_or, rules, arith, Fits, w64}
use Rattle.numbers.proofs.Laws.{Small}
use Rattle.sets.proofs.Words.{count_none, count-more, count_most, count-all}
use Rattle.sets.proofs.ones_of.Goals as goal

pub loop-x-init : goal.loop-x-init
loop-x-init c = count_none c.args.w.now

pub overflow_add-n : goal.overflow_add-n
overflow_add-n c =
    let w = c.args.w.now in
    let l = c.loop-x in
    let h : Small 64 w = λ i. (let f : Fits w64 (get_or w i 0) = search rules in f.fits) in
    omega (arith, l.invariant, count-more w l.x-index h, count_most w (l.x-index + 1) h)

pub loop-x-preserved : goal.loop-x-preserved
loop-x-preserved c =
    let w = c.args.w.now in
    let l = c.loop-x in
    let h : Small 64 w = λ i. (let f : Fits w64 (get_or w i 0) = search rules in f.fits) in
    rw l.invariant (count-more w l.x-index h)

pub returns : goal.returns
returns c =
    let l = c.loop-x in
    l.invariant ∙ count-all c.args.w.now l.x-index (search rules)
