-- It ends at the first record that leads so.
use Rattle.std.proofs.Common.{◌≡◌, ◌≤◌, ◌∙◌, true, false, refl, sym, add-one, arith}
use Rattle.rules.specs.Scan.{some}
use Rattle.list_why.specs.Reason.{links}
use Rattle.list_why.proofs.Finding.{none_more, found_at, found-none, no-byte}
use Rattle.list_why.proofs.first_edge.Goals as goal

pub returns-in_default : goal.returns-in_default
returns-in_default c =
    let a = c.args in
    let h : 256 ≤ a.byte = omega (arith, c.in_default.ensures) in
    found-none _ _ (no-byte a.list.now a.s a.byte a.t h)

pub loop-i-init : goal.loop-i-init
unfolding some
loop-i-init c = refl

pub returns-then-joins : goal.returns-then-joins
returns-then-joins c =
    let a = c.args in
    let h : links a.list.now a.s c.in-Ok.c a.t c.loop-i.i ≡ true = sym c.joins.ensures ∙ c.if-joins.true in
    found_at _ _ c.loop-i.i (omega arith) c.loop-i.invariant (rw c.in-Ok.ensures.1 at h)

pub loop-i-preserved : goal.loop-i-preserved
loop-i-preserved c =
    let a = c.args in
    let h : links a.list.now a.s c.in-Ok.c a.t c.loop-i.i ≡ false = sym c.joins.ensures ∙ c.if-joins.false in
    rw add-one (none_more _ _ c.loop-i.invariant (rw c.in-Ok.ensures.1 at h))
