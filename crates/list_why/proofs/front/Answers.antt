-- Byte by byte.
use Rattle.std.proofs.Common.{rules, refl, sym, add-one}
use Rattle.sets.specs.Set.{set_of}
use Rattle.list_why.proofs.Traces.{front-none, front-more}
use Rattle.list_why.proofs.front.Goals as goal

pub loop-c-init : goal.loop-c-init
loop-c-init c = let a = c.args in sym (front-none a.list.now (set_of a.first) a.before.now)

pub loop-c-preserved : goal.loop-c-preserved
loop-c-preserved c =
    let a = c.args in
    let p = c.loop-c in
    rw (add-one, front-more a.list.now (set_of a.first) a.before.now p.c-index (search rules), c.step-f.ensures, p.invariant) refl
