use Rattle.std.proofs.Common.{◌≡◌, subst, arith}
use Rattle.sets.specs.Set.{set_of, byte_set_of, holds}
use Rattle.text.specs.Records.{each, edges_to}
use Rattle.text_records.specs.inner.Front.{Writes}
use Rattle.text_records.proofs.Writing.{each_start, each-with}
use Rattle.text_compile.specs.inner.Code.{exp_of, free_of}
use Rattle.text_compile.proofs.Listing.{arrows-to}
use Rattle.text_compile.proofs.put_edges.Goals as goal

pub loop-t-init : goal.loop-t-init
loop-t-init c = λ x w0 q. each_start c.args.list.now 0 (edges_to (free_of x) (exp_of x))

pub loop-t-preserved : goal.loop-t-preserved
loop-t-preserved c =
    let a = c.args in
    let l = c.loop-t in
    let r = c.arrows-a in
    let u = c.put_arrows-k in
    λ x w0 q.
    each-with a.list.now l.list u.new.list 0 l.k u.result (edges_to (free_of x) (exp_of x)) l.t (l.invariant x w0 q)
    (subst (λ z. Writes l.list u.new.list l.k z u.result)
    (arrows-to (free_of x) (exp_of x) l.t (set_of r.result.from) (holds (byte_set_of r.result.letter)) (r.ensures x w0 (omega (arith, q, c.requires.0)) (omega (arith, q, c.loop-t-test.true))).0 a.m q)
    u.ensures)

pub returns : goal.returns
returns c =
    let l = c.loop-t in
    let z : l.t ≡ c.args.m = omega arith in
    λ x w0 q. subst (λ i. Writes c.args.list.now l.list 0 (each (edges_to (free_of x) (exp_of x)) i) l.k) z (l.invariant x w0 q)
