use Rattle.std.proofs.Common.{◌≡◌, ◌≤◌, ◌+◌, ◌∙◌, sym, subst, inl, inr, get_or, arith}
use Rattle.sets.specs.Set.{states, set_of, byte_set_of}
use Rattle.text.specs.Grammar.{leaf_has}
use Rattle.text_walk.specs.inner.Rows.{cap}
use Rattle.text_walk.proofs.Sum.{cap-most, cap-least, keeps-refl, keeps_then, keeps-less, seam-keeps, sum-eps, sum_one}
use Rattle.text_walk.proofs.Copying.{cap-low}
use Rattle.text_walk.proofs.Bodies.{seq_start, seq-over, seq_more, alts-first, alts-over, alts-more, item-never, atom-group, atom-leaf}
use Rattle.text_walk.proofs.+alternatives_atom_item_sequence.Goals as goal

pub alternatives-loop-next-init : goal.alternatives-loop-next-init
alternatives-loop-next-init t c =
    let a = c.args in
    let s = c.sequence-first in
    (s.ensures.0, s.ensures.1, s.ensures.2, keeps-refl a.base s.new.rows, λ b x ok st e. alts-first a.text.now a.base b x st s.new.rows a.at s.result.next s.result.value ok e s.ensures.4)

pub alternatives-sequence-more-requires : goal.alternatives-sequence-more-requires
alternatives-sequence-more-requires t c =
    let a = c.args in
    let l = c.loop-next in
    let m = cap-most (a.base + l.shape.size) in
    let k = cap-low (a.base + l.shape.size) (omega arith) in
    (omega arith, (omega arith, omega arith, omega arith, l.invariant.3.long ∙ c.sequence-first.ensures.3.long ∙ c.requires.3))

pub alternatives-loop-next-preserved : goal.alternatives-loop-next-preserved
alternatives-loop-next-preserved t c =
    let a = c.args in
    let l = c.loop-next in
    let i = l.invariant in
    let s = c.sequence-more in
    let q = c.capped in
    let B = s.new.rows in
    let m : a.base ≤ q.result = subst (λ z. a.base ≤ z) (sym q.ensures) (cap-least a.base l.shape.size c.requires.2) in (
      omega (arith, s.ensures.0),
      s.ensures.1,
      subst (λ z. z ≤ states) (sym c.or-shape.ensures.0) (cap-most (l.shape.size + s.result.value.size)),
      keeps_then a.base c.sequence-first.new.rows l.rows B i.3 (keeps-less a.base q.result l.rows B m s.ensures.3),
      λ b x ok st e.
          alts-more a.text.now a.base b x st l.rows B l.next s.result.next q.result l.shape s.result.value c.or-shape.result q.ensures c.loop-next-test.true c.if-text-next-eq124.true s.ensures.3
          s.ensures.4 c.or-shape.ensures (i.4 b x ok st e),
    )

pub alternatives-returns-else-text-next-eq124 : goal.alternatives-returns-else-text-next-eq124
alternatives-returns-else-text-next-eq124 t c =
    let a = c.args in
    let l = c.loop-next in
    let i = l.invariant in
    let s = c.sequence-first in
    (i.0, i.1, i.2, keeps_then a.base a.rows.now s.new.rows l.rows s.ensures.3 i.3, λ b x ok st e. alts-over a.text.now a.base b x st l.rows l.next l.shape (inl (c.loop-next-test.true, c.if-text-next-eq124.false)) (i.4 b x ok st e))

pub alternatives-returns-after-loop-next : goal.alternatives-returns-after-loop-next
alternatives-returns-after-loop-next t c =
    let a = c.args in
    let l = c.loop-next in
    let i = l.invariant in
    let s = c.sequence-first in
    (i.0, i.1, i.2, keeps_then a.base a.rows.now s.new.rows l.rows s.ensures.3 i.3, λ b x ok st e. alts-over a.text.now a.base b x st l.rows l.next l.shape (inr c.loop-next-test.false) (i.4 b x ok st e))

pub atom-returns-then-text-at-eq40 : goal.atom-returns-then-text-at-eq40
atom-returns-then-text-at-eq40 t c =
    let a = c.args in
    let u = c.alternatives-inner in
    let q = c.past in (
      omega (arith, u.ensures.0, q.ensures.0),
      q.ensures.1 u.ensures.1,
      u.ensures.2,
      u.ensures.3,
      atom-group a.text.now u.new.rows a.base a.at u.result.next q.result u.result.value c.requires.0 c.if-text-at-eq40.true u.ensures.4 q.ensures.2,
    )

pub atom-returns : goal.atom-returns
atom-returns t c =
    let a = c.args in
    let u = c.leaf_end in
    let w = c.put_leaf in
    let v = c.leaf_set in
    let g = c.single.ensures in (
      u.ensures.0,
      u.ensures.1,
      omega (arith, g.0),
      w.ensures.kept,
      atom-leaf a.text.now w.new.rows a.base a.at u.result c.single.result c.if-text-at-eq40.false u.ensures.2
          (λ l y ok e. sum_one a.rows.now w.new.rows a.base (leaf_has l) (byte_set_of v.result) c.single.result (v.ensures l y ok e) w.ensures g),
    )

pub item-returns-in-Some : goal.item-returns-in-Some
item-returns-in-Some t c =
    let a = c.args in
    let o = c.in-Some.ensures in (
      o.0,
      o.1,
      omega (arith, c.nothing.ensures.0),
      keeps-refl a.base a.rows.now,
      λ b m y ok om calm e. let (u, v) = o.2 b m y ok om calm e in (item-never a.rows.now a.base b m c.nothing.result u c.nothing.ensures, v),
    )

pub sequence-loop-next-init : goal.sequence-loop-next-init
sequence-loop-next-init t c =
    let a = c.args in
    let f = c.nothing-shape.ensures in (
      omega arith,
      c.requires.0,
      omega (arith, f.0),
      keeps-refl a.base a.rows.now,
      λ b x ok st e. seq_start a.text.now a.rows.now a.base a.at b x c.nothing-shape.result ok e (sum-eps a.rows.now a.base c.nothing-shape.result f),
    )

pub sequence-item-one-requires : goal.sequence-item-one-requires
sequence-item-one-requires t c =
    let a = c.args in
    let l = c.loop-next in
    let m = cap-most (a.base + l.shape.size) in
    let k = cap-low (a.base + l.shape.size) (omega arith) in
    (omega arith, (omega arith, omega arith, omega arith, l.invariant.3.long ∙ c.requires.3))

pub sequence-then-shape-requires : goal.sequence-then-shape-requires
sequence-then-shape-requires t c =
    let a = c.args in
    let l = c.loop-next in
    let s = c.item-one in
    (l.invariant.2, s.ensures.2, subst (λ z. z ≤ states) (sym c.capped-low.ensures) (cap-most (a.base + l.shape.size)), s.ensures.3.long ∙ l.invariant.3.long ∙ c.requires.3)

pub sequence-loop-next-preserved : goal.sequence-loop-next-preserved
sequence-loop-next-preserved t c =
    let a = c.args in
    let T = a.text.now in
    let l = c.loop-next in
    let i = l.invariant in
    let s = c.item-one in
    let q = c.capped-low in
    let v = c.then-shape in
    let B = s.new.rows in
    let C = v.new.rows in
    let f = v.ensures in
    let n124 : get_or T l.next 0 ≡ 124 → ⊥ = c.if-text-next-ne124.true in
    let n41 : get_or T l.next 0 ≡ 41 → ⊥ = c.if-text-next-ne41.true in
    let m : a.base ≤ q.result = subst (λ z. a.base ≤ z) (sym q.ensures) (cap-least a.base l.shape.size c.requires.2) in (
      omega (arith, s.ensures.0),
      s.ensures.1,
      subst (λ z. z ≤ states) (sym f.0.0) (cap-most (l.shape.size + s.result.value.size)),
      keeps_then a.base a.rows.now l.rows C i.3
          (keeps_then a.base l.rows B C (keeps-less a.base q.result l.rows B m s.ensures.3)
          (keeps-less a.base q.result B C m (seam-keeps (set_of l.shape.last) (set_of s.result.value.first) q.result (cap (q.result + s.result.value.size)) B C f.1))),
      λ b x ok st e.
          seq_more T a.base l.next x st l.rows B C a.at b s.result.next q.result l.shape s.result.value v.result q.ensures c.loop-next-test.true n124 n41 s.ensures.3 s.ensures.4 f.1 f.0 (i.4 b x ok st e),
    )

pub sequence-returns-else-text-next-ne41 : goal.sequence-returns-else-text-next-ne41
sequence-returns-else-text-next-ne41 t c =
    let a = c.args in
    let l = c.loop-next in
    let i = l.invariant in
    let e41 : get_or a.text.now l.next 0 ≡ 41 = omega arith in
    (i.0, i.1, i.2, i.3, λ b x ok st e. seq-over a.text.now a.base l.next x st l.rows a.at b l.shape (inl (c.loop-next-test.true, inr e41)) (i.4 b x ok st e))

pub sequence-returns-else-text-next-ne124 : goal.sequence-returns-else-text-next-ne124
sequence-returns-else-text-next-ne124 t c =
    let a = c.args in
    let l = c.loop-next in
    let i = l.invariant in
    let e124 : get_or a.text.now l.next 0 ≡ 124 = omega arith in
    (i.0, i.1, i.2, i.3, λ b x ok st e. seq-over a.text.now a.base l.next x st l.rows a.at b l.shape (inl (c.loop-next-test.true, inl e124)) (i.4 b x ok st e))

pub sequence-returns-after-loop-next : goal.sequence-returns-after-loop-next
sequence-returns-after-loop-next t c =
    let a = c.args in
    let l = c.loop-next in
    let i = l.invariant in
    (i.0, i.1, i.2, i.3, λ b x ok st e. seq-over a.text.now a.base l.next x st l.rows a.at b l.shape (inr c.loop-next-test.false) (i.4 b x ok st e))
