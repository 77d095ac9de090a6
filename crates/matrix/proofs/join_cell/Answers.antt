-- `join_cell` goes through the bytes, each joined where it stands.
use Rattle.std.proofs.Common.{◌≡◌, ◌+◌, get_or, arith}
use Rattle.sets.specs.Set.{set_size}
use Rattle.matrix.proofs.Joining.{joins-none, joins-more, joins-all}
use Rattle.matrix.proofs.join_cell.Goals as goal

pub loop-i-init : goal.loop-i-init
loop-i-init c = let a = c.args in (joins-none (λ j. get_or a.matrix.now (a.at + j) 0) a.w.now, λ i. (c.type_inv.w i).fits)

pub loop-i-preserved : goal.loop-i-preserved
loop-i-preserved c =
    let a = c.args in
    let l = c.loop-i in
    (joins-more (λ j. get_or a.matrix.now (a.at + j) 0) a.w.now l.i l.w (omega (arith, c.requires.1)) l.invariant.0, l.invariant.1)

pub returns : goal.returns
returns c =
    let a = c.args in
    let l = c.loop-i in
    let e : l.i ≡ set_size = omega arith in
    joins-all a.w.now a.matrix.now a.at l.w l.invariant.1 c.requires.1 (λ i. (c.type_inv.matrix i).fits) c.requires.0 (rw e at l.invariant.0)
