-- `put_good` goes by the kind: the tests of that kind alone are what goodness asks, and its numbers are what it names.
use Rattle.std.proofs.Common.{◌≡◌, true, refl, sym, ◌∙◌, rules, None}
use Rattle.list.specs.List.{is_edge, is_start, is_accept}
use Rattle.list.specs.Kinds.{KindIs}
use Rattle.list.proofs.Listed.{good-edge, good-start, good-accept, good-none}
use Rattle.list.proofs.Named.{with-start, with-accept, edge-put}
use Rattle.list.proofs.put_good.Goals as goal

pub returns-in-Some-Edge : goal.returns-in-Some-Edge
returns-in-Some-Edge c =
    let a = c.args in
    let e : is_edge a.list.now a.i ≡ true = rw c.in-Some-Edge.field-0-is at c.in-Some-Edge.ensures in (
      sym c.if-good_edge.true ∙ c.good_edge.ensures ∙ sym (good-edge _ _ e),
      edge-put a.list.now a.i a.w.now _ _ _ _ e (search rules) c.from.ensures c.target.ensures c.put_bit.ensures c.put_bit-in-Some-Edge.ensures,
    )

pub returns-in-Some-Start : goal.returns-in-Some-Start
returns-in-Some-Start c =
    let a = c.args in
    let e : is_start a.list.now a.i ≡ true = rw c.in-Some-Start.field-0-is at c.in-Some-Start.ensures in (
      sym c.if-good_start.true ∙ c.good_start.ensures ∙ sym (good-start _ _ e),
      c.put_bit-in-Some-Start.ensures ∙ rw c.target-in-Some-Start.ensures (sym (with-start _ a.list.now a.i _ e)),
    )

pub returns-in-Some-Accept : goal.returns-in-Some-Accept
returns-in-Some-Accept c =
    let a = c.args in
    let e : is_accept a.list.now a.i ≡ true = rw c.in-Some-Accept.field-0-is at c.in-Some-Accept.ensures in (
      sym c.if-good_accept.true ∙ c.good_accept.ensures ∙ sym (good-accept _ _ e),
      c.put_bit-in-Some-Accept.ensures ∙ rw c.from-in-Some-Accept.ensures (sym (with-accept _ a.list.now a.i _ e)),
    )

pub returns-in_default : goal.returns-in_default
returns-in_default c = (sym c.if-good_edge.false ∙ c.good_edge.ensures ∙ sym (good-edge _ _ (rw c.in-Some-Edge.field-0-is at c.in-Some-Edge.ensures)), refl)

pub returns-in_default-2 : goal.returns-in_default-2
returns-in_default-2 c =
    (sym c.if-good_start.false ∙ c.good_start.ensures ∙ sym (good-start _ _ (rw c.in-Some-Start.field-0-is at c.in-Some-Start.ensures)), refl)

pub returns-in_default-3 : goal.returns-in_default-3
returns-in_default-3 c =
    (sym c.if-good_accept.false ∙ c.good_accept.ensures ∙ sym (good-accept _ _ (rw c.in-Some-Accept.field-0-is at c.in-Some-Accept.ensures)), refl)

pub returns-in_default-4 : goal.returns-in_default-4
returns-in_default-4 c =
    let a = c.args in
    let k : KindIs a.list.now a.i None = rw c.in_default.is at c.kind_of.ensures in (sym (good-none _ _ k.0 k.1 k.2), refl)
