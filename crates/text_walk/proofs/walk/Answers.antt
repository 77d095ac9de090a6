use Rattle.std.proofs.Common.{◌≡◌, ◌∙◌, sym, ap, drop, cond, [], inl, refl, true, false, Bool}
use Rattle.std.specs.Int.{from_bool}
use Rattle.text.specs.Grammar.{reads}
use Rattle.text.proofs.Fronts.{front-body}
use Rattle.text_walk.proofs.Bodies.{unit}
use Rattle.text_walk.proofs.walk.Goals as goal

as_number : (b : Bool) → from_bool b ≡ cond b 1 0
as_number true = refl
as_number false = refl

pub returns : goal.returns
returns c =
    let u = c.alternatives in
    let T = c.args.text.now in (
      u.ensures.2,
      u.ensures.3.long ∙ c.requires,
      λ t ok e.
          let s : c.from-start.result ≡ cond t.bound 1 0 = c.from-start.ensures ∙ ap from_bool (c.is_bound.ensures.bound t ok e) ∙ as_number t.bound in
          (u.ensures.4 t.body [] ok (inl refl) (ap (λ n. drop n T) s ∙ front-body t T e ∙ sym (unit (reads t.body)))).0,
    )
