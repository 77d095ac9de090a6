-- State after state.
use Rattle.std.proofs.Common.{rules, ◌<◌, add-one, arith}
use Rattle.list_join.specs.Join.{renamed}
use Rattle.list_join.proofs.Renames.{renamed-most}
use Rattle.list_join.proofs.Numbering.{set_more}
use Rattle.list_join.proofs.new_numbers.Goals as goal

pub overflow_cast-new : goal.overflow_cast-new
overflow_cast-new c =
    let v = c.requires in
    let h : c.rename.result < 65536 = omega (arith, renamed-most c.args.n c.loop-t.t v.low, c.rename.ensures, v.next, v.below) in
    search rules

pub loop-t-preserved : goal.loop-t-preserved
loop-t-preserved c =
    let l = c.loop-t in
    let v = c.requires in
    (search rules, rw add-one (set_more (renamed c.args.n) l.new l.t c.rename.result (omega (arith, v.below)) l.invariant.1 c.rename.ensures))

pub returns : goal.returns
returns c =
    let l = c.loop-t in
    let w = c.requires.below in
    record { room = omega (arith, l.invariant.0, w); each = λ t h. l.invariant.1 t (omega arith) }
