use Rattle.std.proofs.Common.{◌≤◌, ◌+◌, sym, subst, ◌∙◌}
use Rattle.sets.specs.Set.{states, set_of}
use Rattle.text.specs.Exp.{plus}
use Rattle.text_walk.specs.inner.Rows.{cap}
use Rattle.text_walk.proofs.Sum.{keeps-refl, seam-keeps, sum-plus, sum-opt}
use Rattle.text_walk.proofs.Bodies.{often-once, often-star, often-plus, often-maybe, often-between}
use Rattle.text_walk.proofs.repeated.Goals as goal

pub returns-in-Once : goal.returns-in-Once
returns-in-Once c =
    let a = c.args in
    let R = a.rows.now in
    (c.requires.2, keeps-refl a.base R, λ e m u ok h. often-once R R a.base a.x a.x e m u (h ∙ c.in-Once.is))

pub returns-in-Star : goal.returns-in-Star
returns-in-Star c =
    let a = c.args in
    let R = a.rows.now in
    let w = c.again in
    let B = w.new.rows in
    let g = c.maybe.ensures in (
      subst (λ z. z ≤ states) (sym g.0) c.requires.2,
      seam-keeps (set_of a.x.last) (set_of a.x.first) a.base (cap (a.base + a.x.size)) R B w.ensures,
      λ e m u ok h. often-star R B a.base a.x c.maybe.result e m u (h ∙ c.in-Star.is) (λ v. sum-opt B a.base (plus e) a.x c.maybe.result (sum-plus R B a.base e a.x v w.ensures) g),
    )

pub returns-in-Plus : goal.returns-in-Plus
returns-in-Plus c =
    let a = c.args in
    let R = a.rows.now in
    let w = c.again-in-Plus in
    let B = w.new.rows in (
      c.requires.2,
      seam-keeps (set_of a.x.last) (set_of a.x.first) a.base (cap (a.base + a.x.size)) R B w.ensures,
      λ e m u ok h. often-plus R B a.base a.x a.x e m u (h ∙ c.in-Plus.is) (λ v. sum-plus R B a.base e a.x v w.ensures),
    )

pub returns-in-Maybe : goal.returns-in-Maybe
returns-in-Maybe c =
    let a = c.args in
    let R = a.rows.now in
    let r = c.maybe-in-Maybe in (
      subst (λ z. z ≤ states) (sym r.ensures.0) c.requires.2,
      keeps-refl a.base R,
      λ e m u ok h. often-maybe R R a.base a.x r.result e m u (h ∙ c.in-Maybe.is) (λ v. sum-opt R a.base e a.x r.result v r.ensures),
    )

pub returns-in-Between : goal.returns-in-Between
returns-in-Between c =
    let a = c.args in
    let w = c.copies in
    (w.ensures.0, w.ensures.1, λ e m u ok h. often-between a.rows.now w.new.rows a.base a.x w.result e m u c.in-Between.least c.in-Between.most ok (h ∙ c.in-Between.is) (λ v l. w.ensures.2 e v l))
