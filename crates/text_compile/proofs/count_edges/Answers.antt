use Rattle.std.proofs.Common.{◌≡◌, sym, ap, subst, ◌∙◌, length, arith}
use Rattle.sets.specs.Set.{set_of, byte_set_of, holds}
use Rattle.text.specs.Records.{each, edges_to}
use Rattle.text_records.specs.inner.Front.{Below}
use Rattle.text_records.proofs.Writing.{each_none}
use Rattle.text_compile.specs.inner.Code.{exp_of, free_of}
use Rattle.text_compile.proofs.Listing.{edges_more, arrows-count}
use Rattle.text_compile.proofs.count_edges.Goals as goal

pub loop-t-init : goal.loop-t-init
loop-t-init c = (omega arith, λ x w0 q. sym (ap length (each_none (edges_to (free_of x) (exp_of x)))))

pub overflow_add-total : goal.overflow_add-total
overflow_add-total c = omega (arith, c.weigh-total.ensures.0, c.loop-t.invariant.0, c.requires.0)

pub loop-t-preserved : goal.loop-t-preserved
loop-t-preserved c =
    let a = c.args in
    let l = c.loop-t in
    let r = c.arrows-a in
    let w = c.weigh-total in (
      omega (arith, w.ensures.0, l.invariant.0, c.requires.0),
      λ x w0 q.
          let g = r.ensures x w0 (omega (arith, q, c.requires.0)) (omega (arith, q, c.loop-t-test.true)) in
          edges_more (free_of x) (exp_of x) l.t w.result l.total (l.invariant.1 x w0 q)
          (arrows-count (free_of x) (exp_of x) l.t (set_of r.result.from) (holds (byte_set_of r.result.letter)) g.0 a.m w.result c.run_count.result q c.run_count.ensures.0
          (w.ensures.1 a.m c.requires.0 (subst (Below (set_of r.result.from)) (sym q) g.1))),
    )

pub returns : goal.returns
returns c =
    let l = c.loop-t in
    let z : l.t ≡ c.args.m = omega arith in
    (omega (arith, l.invariant.0), λ x w0 q. l.invariant.1 x w0 q ∙ ap (λ i. length (each (edges_to (free_of x) (exp_of x)) i)) z)
