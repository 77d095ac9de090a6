-- Word by word.
use Rattle.std.proofs.Common.{◌≡◌, ◌∙◌, refl, length, get_or, add-one, arith}
use Rattle.sets.specs.Set.{join}
use Rattle.sets.proofs.Sets.{holds-empty, holds-join}
use Rattle.rules.specs.Scan.{some}
use Rattle.list.proofs.places.Goals as goal

pub loop-x-init : goal.loop-x-init
unfolding some
loop-x-init c = holds-empty

pub loop-x-preserved : goal.loop-x-preserved
unfolding some join
loop-x-preserved c =
    let l = c.loop-x in
    let w = c.args.w.now in
    λ j. rw (add-one l.x-index) (holds-join l.all (get_or w l.x-index 0) j ∙ rw (l.invariant j) refl)

pub returns : goal.returns
returns c =
    let l = c.loop-x in
    let e : l.x-index ≡ length c.args.w.now = omega arith in
    λ j. rw (← e) (l.invariant j)
