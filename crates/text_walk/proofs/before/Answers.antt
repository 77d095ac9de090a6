use Rattle.std.proofs.Common.{◌≤◌, ◌+◌, sym, subst, ◌∙◌}
use Rattle.sets.specs.Set.{states, set_of}
use Rattle.text.specs.Exp.{cat}
use Rattle.text_walk.specs.inner.Rows.{cap}
use Rattle.text_walk.proofs.Sum.{cap-most, keeps-refl, seam-keeps, sum-cat, sum-opt}
use Rattle.text_walk.proofs.before.Goals as goal

pub returns-then-must : goal.returns-then-must
returns-then-must c =
    let a = c.args in
    let f = c.then-both.ensures in
    let B = c.then-both.new.rows in (
      subst (λ z. z ≤ states) (sym f.0.0) (cap-most _),
      seam-keeps (set_of a.one.last) (set_of a.other.first) a.low (cap (a.low + a.other.size)) a.rows.now B f.1,
      λ k e t s u g. rw c.if-must.true (sum-cat a.rows.now a.rows.now B k a.low e t a.one a.other c.then-both.result s (keeps-refl a.low a.rows.now) u g f.1 f.0),
    )

pub returns-else-must : goal.returns-else-must
returns-else-must c =
    let a = c.args in
    let f = c.then-both.ensures in
    let r = c.then-both.result in
    let B = c.then-both.new.rows in
    let m = c.maybe.ensures in (
      subst (λ z. z ≤ states) (sym (m.0 ∙ f.0.0)) (cap-most _),
      seam-keeps (set_of a.one.last) (set_of a.other.first) a.low (cap (a.low + a.other.size)) a.rows.now B f.1,
      λ k e t s u g. rw c.if-must.false (sum-opt B k (cat e t) r c.maybe.result (sum-cat a.rows.now a.rows.now B k a.low e t a.one a.other r s (keeps-refl a.low a.rows.now) u g f.1 f.0) m),
    )
