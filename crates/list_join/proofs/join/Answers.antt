-- It decides on the front of the lent list, and writes behind it.
use Rattle.std.proofs.Common.{◌≡◌, ◌∙◌, true, false, sym, length, take, eqb}
use Rattle.list_join.specs.inner.Found.{Plans}
use Rattle.list_join.specs.Join.{refusal_of}
use Rattle.list_join.proofs.Deciding.{fine, joined_at, front-min}
use Rattle.list_join.proofs.Numbering.{narrow}
use Rattle.list_join.proofs.join.Goals as goal
use borrow.Author.Tests.{eq-eqb, ne_eqb}

pub returns-then-p-ne-PASSED : goal.returns-then-p-ne-PASSED
returns-then-p-ne-PASSED c =
    let a = c.args in
    let p : Plans (take a.used a.list.now) a.used (length a.list.now) a.other.now c.decide-p.result = rw (front-min a.list.now a.used c.min-end.result c.min-end.ensures) at c.decide-p.ensures in
    let n : eqb (refusal_of a.list.now a.used a.other.now) 0 ≡ false = ne_eqb _ 0 (λ e. c.if-p-ne-PASSED.true (p.refusal ∙ e)) in
    record { refusal = p.refusal; long = rw n; left = rw n }

pub add-length-requires : goal.add-length-requires
add-length-requires c =
    let a = c.args in
    let p : Plans (take a.used a.list.now) a.used (length a.list.now) a.other.now c.decide-p.result = rw (front-min a.list.now a.used c.min-end.result c.min-end.ensures) at c.decide-p.ensures in
    let z : refusal_of a.list.now a.used a.other.now ≡ 0 = sym p.refusal ∙ c.if-p-ne-PASSED.false in
    let f = fine (take a.used a.list.now) a.used (length a.list.now) a.other.now z in (
      f.other,
      p.top z,
      rw (p.named z, p.top z) (narrow (take a.used a.list.now) a.other.now f.front f.other),
      rw (p.named z) (joined_at a.list.now a.used a.other.now f).0,
    )

pub returns : goal.returns
returns c =
    let a = c.args in
    let p : Plans (take a.used a.list.now) a.used (length a.list.now) a.other.now c.decide-p.result = rw (front-min a.list.now a.used c.min-end.result c.min-end.ensures) at c.decide-p.ensures in
    let z : refusal_of a.list.now a.used a.other.now ≡ 0 = sym p.refusal ∙ c.if-p-ne-PASSED.false in
    let f = fine (take a.used a.list.now) a.used (length a.list.now) a.other.now z in
    let n : eqb (refusal_of a.list.now a.used a.other.now) 0 ≡ true = eq-eqb _ 0 z in
    let j = joined_at a.list.now a.used a.other.now f in
    let r = c.add-length.ensures in
    record { refusal = sym z; long = rw n (r.0 ∙ rw (p.named z) j.2); left = rw n (r.1 ∙ rw (p.named z) j.1) }
