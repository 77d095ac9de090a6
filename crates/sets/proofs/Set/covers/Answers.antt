-- What the other's words have beyond its own, laid over one another, is 0 exactly where it has them all.
use Rattle.std.proofs.Common.{rules, ◌≡◌, get_or, arith, Fits, w64}
use Rattle.sets.proofs.Sets.{Words}
use Rattle.sets.proofs.Words.{laid_none, laid_more}
use Rattle.sets.proofs.Within.{beyond, within_all}
use Rattle.sets.proofs.Set.covers.Goals as goal

pub loop-i-init : goal.loop-i-init
loop-i-init g c = laid_none (λ j. beyond (get_or c.args.other.words j 0) (get_or c.args.self.words j 0))

pub loop-i-preserved : goal.loop-i-preserved
loop-i-preserved g c =
    laid_more (λ j. beyond (get_or c.args.other.words j 0) (get_or c.args.self.words j 0)) c.loop-i.i c.loop-i.extra c.loop-i.invariant

pub returns : goal.returns
returns g c =
    let a : Words g.row.N c.args.other.words = record { long = search rules; small = λ i. (let f : Fits w64 (get_or c.args.other.words i 0) = search rules in f.fits) } in
    let b : Words g.row.N c.args.self.words = record { long = search rules; small = λ i. (let f : Fits w64 (get_or c.args.self.words i 0) = search rules in f.fits) } in
    let e : c.loop-i.i ≡ g.row.N = omega arith in
    within_all g.row.N c.args.other.words c.args.self.words a b c.loop-i.extra (rw e at c.loop-i.invariant)
