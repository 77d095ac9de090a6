use Rattle.std.proofs.Common.{◌≡◌, ◌≤◌, ◌<◌, ◌+◌, ◌*◌, ◌-◌, sym, subst, arith}
use Rattle.sets.specs.Set.{states}
use Rattle.text.specs.Exp.{times}
use Rattle.text_walk.specs.inner.Rows.{Keeps, Sums}
use Rattle.text_walk.proofs.Sum.{cap-most, keeps-refl, keeps_then, keeps-less}
use Rattle.text_walk.proofs.Copying.{sum-none, sum-lost, copies-none, copies-more, copies-last, some-copies, turn-far, copied-keeps}
use Rattle.text_walk.proofs.copies.Goals as goal

pub returns-then-all-eq0 : goal.returns-then-all-eq0
returns-then-all-eq0 c =
    let a = c.args in
    let f = c.nothing.ensures in
    (omega (arith, f.0), keeps-refl a.base a.rows.now, λ e u h. sum-none a.rows.now a.rows.now a.base a.least a.most e a.inner c.nothing.result u c.if-all-eq0.true f)

pub returns-then-base-all-gt-STATES : goal.returns-then-base-all-gt-STATES
returns-then-base-all-gt-STATES c =
    let a = c.args in
    let f = c.lost.ensures in (
      subst (λ z. z ≤ states) (sym f.0) (cap-most (a.most * a.inner.size)),
      keeps-refl a.base a.rows.now,
      λ e u h. sum-lost a.rows.now a.rows.now a.base a.least a.most e a.inner c.lost.result u h c.if-base-all-gt-STATES.true c.requires.0 c.requires.1 f.0 f.1,
    )

pub loop-i-init : goal.loop-i-init
loop-i-init c =
    let a = c.args in
    let s = a.inner.size in
    let f = c.nothing-other.ensures in
    (some-copies a.most s c.if-all-eq0.false, omega arith, omega (arith, f.0), keeps-refl (a.base + s) a.rows.now, λ e u. copies-none a.rows.now (a.base + a.most * s) a.most a.least e c.nothing-other.result f)

pub loop-i-preserved : goal.loop-i-preserved
loop-i-preserved c =
    let a = c.args in
    let s = a.inner.size in
    let l = c.loop-i in
    let u = c.copy_rows in
    let v = c.before-other in
    let j : l.i ≡ l.i - 1 + 1 = omega arith in
    let all : a.base + a.most * s ≤ states = omega (arith, c.if-base-all-gt-STATES.false) in
    let lt : 1 < l.i = c.loop-i-test.true in
    let ka : Keeps (a.base + s) l.rows u.new.rows = copied-keeps a.base s ((l.i - 1) * s) (a.base + s) l.rows u.new.rows (let f = turn-far l.i s lt in omega arith) u.ensures in
    let kb : Keeps (a.base + s) u.new.rows v.new.rows = keeps-less (a.base + s) (a.base + (l.i - 1) * s + s) u.new.rows v.new.rows (omega arith) v.ensures.1 in (
      omega arith,
      omega arith,
      v.ensures.0,
      keeps_then (a.base + s) a.rows.now u.new.rows v.new.rows (keeps_then (a.base + s) a.rows.now l.rows u.new.rows l.invariant.3 ka) kb,
      λ e w. copies-more a.rows.now a.base a.least a.most e a.inner w c.requires.0 (omega arith) all l.rows u.new.rows v.new.rows (l.i - 1) c.moved-one.result l.other v.result (omega arith) l.invariant.3 u.ensures c.moved-one.ensures v.ensures.2
          (subst (λ z. Sums l.rows (a.base + z * s) (times e (a.least - z) (a.most - z)) l.other) j (l.invariant.4 e w)),
    )

pub returns : goal.returns
returns c =
    let a = c.args in
    let s = a.inner.size in
    let l = c.loop-i in
    let v = c.before-2 in
    let j : l.i ≡ 1 = omega arith in
    let all : a.base + a.most * s ≤ states = omega (arith, c.if-base-all-gt-STATES.false) in (
      v.ensures.0,
      keeps-less a.base (a.base + s) a.rows.now v.new.rows (omega arith) (keeps_then (a.base + s) a.rows.now l.rows v.new.rows l.invariant.3 v.ensures.1),
      λ e w h. copies-last a.rows.now a.base a.least a.most e a.inner w c.requires.0 (omega arith) all l.rows v.new.rows l.other v.result l.invariant.3 v.ensures.2
          (subst (λ z. Sums l.rows (a.base + z * s) (times e (a.least - z) (a.most - z)) l.other) j (l.invariant.4 e w)),
    )
