use Rattle.std.proofs.Common.{ap, length, arith}
use Rattle.sets.specs.Set.{byte_set_of, holds}
use Rattle.text_bytes.proofs.Runs.{runs-first, runs-next, runs_none, run_past}
use Rattle.text_bytes.proofs.run_count.Goals as goal

pub loop-c-init : goal.loop-c-init
loop-c-init c =
    let n = c.next_byte-c.ensures in
    let e = ap length (runs-first (byte_set_of c.args.set) (byte_set_of c.others-gaps.result) c.others-gaps.ensures c.next_byte-c.result n) in
    (n.most, omega arith, n.there, omega arith)

pub loop-c-preserved : goal.loop-c-preserved
loop-c-preserved c =
    let s = byte_set_of c.args.set in
    let g = byte_set_of c.others-gaps.result in
    let l = c.loop-c in
    let t = c.loop-c-test.true in
    let n = c.next_byte-c-in-loop-c in
    let p = run_past s g c.others-gaps.ensures l.c c.next_byte-end.result t (l.invariant.2 t) c.next_byte-end.ensures in
    let q = n.ensures.least c.next_byte-end.ensures.most in
    let e = ap length (runs-next s g c.others-gaps.ensures l.c c.next_byte-end.result n.result t (l.invariant.2 t) c.next_byte-end.ensures n.ensures) in
    (n.ensures.most, omega (arith, l.invariant.1), n.ensures.there, omega (arith, l.invariant.3))

pub returns : goal.returns
returns c =
    let l = c.loop-c in
    let e = ap length (runs_none (holds (byte_set_of c.args.set)) l.c c.loop-c-test.false) in
    (omega (arith, l.invariant.3), omega (arith, l.invariant.0, l.invariant.1))
