-- By the record's kind.
use Rattle.std.proofs.Common.{◌≡◌, ◌∙◌, false, refl, sym, ap}
use Rattle.std.specs.Prelude.{is_some}
use Rattle.list_join.specs.Join.{is_shared, spare}
use Rattle.list_join.proofs.Places.{spare-edge, spare-other}
use Rattle.list_join.proofs.Renames.{shared-some}
use Rattle.list_join.proofs.spare.Goals as goal

pub returns-in_default : goal.returns-in_default
unfolding spare
returns-in_default c = let z : is_shared c.args.n ≡ false = ap is_some c.in_default.is in rw z refl

pub returns-then-is_edge : goal.returns-then-is_edge
returns-then-is_edge c =
    let a = c.args in
    let k = shared-some a.n c.in-Some.s c.in-Some.is in
    rw c.tail.ensures (sym (spare-edge a.n a.b.now (λ j. (c.type_inv.b j).fits) a.i c.requires.0 (sym c.is_edge.ensures ∙ c.if-is_edge.true) c.requires.1 ∙ rw (k.0, k.1) refl))

pub returns : goal.returns
returns c =
    let a = c.args in
    let k = shared-some a.n c.in-Some.s c.in-Some.is in
    rw (c.is_start.ensures, c.target.ensures) (sym (spare-other a.n a.b.now a.i (sym c.is_edge.ensures ∙ c.if-is_edge.false) ∙ rw (k.0, k.1) refl))
