-- The words are laid over one another. Assumes nothing.
use Rattle.std.proofs.Common.{◌≡◌, length, get_or, rules}
use Rattle.sets.proofs.Words.{laid_none, laid_more, laid-all}
use Rattle.sets.proofs.none_of.Goals as goal

pub loop-x-init : goal.loop-x-init
loop-x-init c = laid_none (λ j. get_or c.args.w.now j 0)

pub loop-x-preserved : goal.loop-x-preserved
loop-x-preserved c = let l = c.loop-x in laid_more (λ j. get_or c.args.w.now j 0) l.x-index l.all l.invariant

pub returns : goal.returns
returns c =
    let l = c.loop-x in
    let e : l.x-index ≡ length c.args.w.now = search rules in
    laid-all c.args.w.now l.all (rw e at l.invariant)
