-- The spare records are taken off all.
use Rattle.std.proofs.Common.{ℕ, ◌≡◌, ◌-◌, ◌∙◌, false, sym, ap, arith}
use Rattle.list.specs.List.{records}
use Rattle.list_join.specs.inner.Found.{overfull}
use Rattle.std.specs.Prelude.{is_some}
use Rattle.list_join.specs.Join.{is_shared, kept}
use Rattle.list.proofs.Listed.{short-list}
use Rattle.list_join.proofs.Places.{kept-shared, kept-alone}
use Rattle.list_join.proofs.Marking.{spare_low}
use Rattle.list_join.proofs.Renames.{shared-some}
use Rattle.list_join.proofs.too_long.Goals as goal

pub overflow_sub-m : goal.overflow_sub-m
overflow_sub-m c =
    let a = c.args in
    let o = c.in-Some.s.own in
    let k = shared-some a.n c.in-Some.s c.in-Some.is in
    omega (arith, c.from.ensures, c.records-m.ensures, c.requires.4 o (rw k.1 at (c.requires.2 k.0)), spare_low a.b.now o (records a.b.now))

pub overfull-requires : goal.overfull-requires
overfull-requires c = (c.requires.0, omega (arith, c.records-m.ensures, short-list c.args.b.now c.requires.1))

pub overfull-requires-in-None : goal.overfull-requires-in-None
overfull-requires-in-None c = (c.requires.0, omega (arith, c.records-m.ensures, short-list c.args.b.now c.requires.1))

pub returns-in-Some : goal.returns-in-Some
returns-in-Some c =
    let a = c.args in
    let m = records a.b.now in
    let o = c.in-Some.s.own in
    let k = shared-some a.n c.in-Some.s c.in-Some.is in
    let e : c.records-m.result - c.from.result ≡ kept a.n a.b.now m =
    omega (arith, c.from.ensures, c.records-m.ensures, c.requires.4 o (rw k.1 at (c.requires.2 k.0)), rw k.1 at (kept-shared a.n a.b.now k.0 m)) in
    c.overfull.ensures ∙ ap (λ (x : ℕ). overfull a.a.now a.lent x) e

pub returns-in-None : goal.returns-in-None
returns-in-None c =
    let a = c.args in
    let z : is_shared a.n ≡ false = ap is_some c.in-None.is in
    c.overfull-in-None.ensures ∙ ap (λ (x : ℕ). overfull a.a.now a.lent x) (c.records-m.ensures ∙ sym (kept-alone a.n a.b.now z (records a.b.now)))
