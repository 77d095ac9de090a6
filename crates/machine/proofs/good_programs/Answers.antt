-- It ends at the first that is not good. Assumes nothing.
use Rattle.std.proofs.Common.{◌≡◌, ◌/◌, refl, sym, ◌∙◌, length, add-one, arith}
use Rattle.rules.specs.Scan.{every}
use Rattle.rules.proofs.Scanning.{every-fails}
use Rattle.machine.specs.Machine.{good_record}
use Rattle.machine.proofs.good_programs.Goals as goal

pub loop-i-init : goal.loop-i-init
unfolding every
loop-i-init c = refl

pub loop-i-preserved : goal.loop-i-preserved
unfolding every
loop-i-preserved c = rw (add-one, c.loop-i.invariant, sym c.good_record.ensures, c.if-not-good_record.false)

pub returns-then-not-good_record : goal.returns-then-not-good_record
returns-then-not-good_record c =
    let P = c.args.programs.now in
    sym (every-fails (length P / 4) (good_record P) c.loop-i.i (omega arith) (sym c.good_record.ensures ∙ c.if-not-good_record.true))

pub returns : goal.returns
returns c =
    let l = c.loop-i in
    let e : l.i ≡ length c.args.programs.now / 4 = omega arith in
    sym (rw e at l.invariant)
