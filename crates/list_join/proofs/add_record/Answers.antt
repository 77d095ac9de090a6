-- What a record adds, or nothing; the new numbers are looked up.
use Rattle.std.proofs.Common.{◌≡◌, ◌∙◌, refl, sym, arith}
use Rattle.numbers.proofs.Placing.{placed-none}
use Rattle.list_join.specs.Join.{new_from, new_target, renamed_record}
use Rattle.list_join.proofs.Deciding.{adds-in, adds-out}
use Rattle.list_join.proofs.Places.{record-long}
use Rattle.list_join.proofs.Numbering.{from-new, target-new, from-looked, target-looked}
use Rattle.list_join.proofs.add_record.Goals as goal
use borrow.Author.Tests.{not-true}

pub returns-then-spare : goal.returns-then-spare
returns-then-spare c =
    let a = c.args in
    let e = adds-out a.n a.b.now a.i (sym c.spare.ensures ∙ c.if-spare.true) in
    rw e (omega arith, placed-none a.list.now a.at (omega arith))

pub new_number-f-requires : goal.new_number-f-requires
new_number-f-requires c = λ q.
    let a = c.args in
    let m = from-new a.n a.b.now a.i c.requires.1 c.requires.2 (sym c.is_start.ensures ∙ not-true _ q) in
    omega (arith, m.1, c.requires.0.room, c.from.ensures)

pub new_number-t-requires : goal.new_number-t-requires
new_number-t-requires c = λ q.
    let a = c.args in
    let m = target-new a.n a.b.now a.i c.requires.1 c.requires.2 (sym c.is_accept.ensures ∙ not-true _ q) in
    omega (arith, m.1, c.requires.0.room, c.target.ensures)

pub copy_record-requires : goal.copy_record-requires
copy_record-requires c =
    let a = c.args in
    let e = adds-in a.n a.b.now a.i (sym c.spare.ensures ∙ c.if-spare.false) in
    (c.requires.1, omega (arith, record-long a.n a.b.now a.i, rw e at c.requires.3))

pub returns : goal.returns
unfolding renamed_record
returns c =
    let a = c.args in
    let e = adds-in a.n a.b.now a.i (sym c.spare.ensures ∙ c.if-spare.false) in
    let f : c.new_number-f.result ≡ new_from a.n a.b.now a.i = c.new_number-f.ensures ∙ rw (c.is_start.ensures, c.from.ensures) (from-looked a.n a.b.now a.i c.requires.1 c.requires.2 a.new.now c.requires.0) in
    let t : c.new_number-t.result ≡ new_target a.n a.b.now a.i = c.new_number-t.ensures ∙ rw (c.is_accept.ensures, c.target.ensures) (target-looked a.n a.b.now a.i c.requires.1 c.requires.2 a.new.now c.requires.0) in
    rw (e, record-long a.n a.b.now a.i) (refl, c.copy_record.ensures ∙ rw (f, t) refl)
