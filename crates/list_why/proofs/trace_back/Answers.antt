-- To each state of a frontier an edge leads from the one before.
use Rattle.std.proofs.Common.{rules, ◌≡◌, ◌<◌, ◌-◌, suc, ◌∙◌, arith}
use Rattle.sets.specs.Set.{states}
use Rattle.list_why.proofs.Backing.{back-state, back_found, back_step, back_end}
use Rattle.list_why.proofs.trace_back.Goals as goal

pub overflow_cast-run : goal.overflow_cast-run
overflow_cast-run c = let h : c.loop-i.t < states = back-state c.requires.3 c.requires.0 c.loop-i.invariant in search rules

pub unwrap-t-requires : goal.unwrap-t-requires
unwrap-t-requires c =
    let m = c.loop-i.i - 1 in
    let q : c.loop-i.i ≡ suc m = omega arith in
    rw (back_found c.requires.3 c.requires.0 m q c.loop-i.invariant _ _ c.source.ensures (c.from_bytes-f.ensures ∙ c.requires.4 m (omega (arith, c.loop-i.invariant.within)))) (search rules)

pub loop-i-preserved : goal.loop-i-preserved
loop-i-preserved c =
    let m = c.loop-i.i - 1 in
    let q : c.loop-i.i ≡ suc m = omega arith in
    back_step c.requires.3 c.requires.0 m q c.loop-i.invariant c.requires.1 _ _ _ c.source.ensures
    (c.from_bytes-f.ensures ∙ c.requires.4 m (omega (arith, c.loop-i.invariant.within))) c.unwrap-t.ensures

pub overflow_cast-run-2 : goal.overflow_cast-run-2
overflow_cast-run-2 c = let h : c.loop-i.t < states = back-state c.requires.3 c.requires.0 c.loop-i.invariant in search rules

pub returns : goal.returns
returns c = let e : c.loop-i.i ≡ 0 = omega arith in back_end (rw e at c.loop-i.invariant) c.requires.1
