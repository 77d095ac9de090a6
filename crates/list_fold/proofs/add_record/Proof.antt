-- `add_record` writes what a record gives, or nothing. Assumes nothing.
use mathlib.Core.Path.{refl, sym, ◌∙◌}
use Rattle.numbers.proofs.Placing.{placed-none}
use Rattle.list_fold.specs.Fold.{chief_of}
use Rattle.list_fold.proofs.Folding.{record-long}
use Rattle.list_fold.proofs.Coding.{gives-in, gives-out}
use borrow.Author.Rules.{rules}
use native.Mathlib.Omega.{arith}
use Rattle.list_fold.proofs.add_record.Statement.{statement}
use Rattle.list_fold.proofs.add_record.Tie as tie

stays-requires : tie.Need-stays-requires
stays-requires c κs =
    let p = c.requires in (p.1, p.0.top-is, omega (arith, p.0.low, p.0.long), p.0.chiefs-are)

put-record-requires : tie.Need-put_record-requires
put-record-requires c κs =
    let p = c.requires in
    let a = c.args in
    let L = a.list.now in
    let e = gives-in (chief_of L) L a.i (sym c.stays.ensures ∙ c.if-stays.true) in (
      p.1,
      omega (arith, p.0.top-is, p.0.low, p.0.many),
      λ s h. p.0.numbered s (omega (arith, p.0.top-is, h)),
      omega (arith, record-long (chief_of L) L a.i, rw e at p.2),
    )

add-result : tie.Need-overflow_add-result
add-result c = search rules

same_length : tie.Need-shape_of-out-then-stays
same_length c = search rules

returns : tie.Need-returns-then-stays
returns c =
    let a = c.args in
    let L = a.list.now in
    let e = gives-in (chief_of L) L a.i (sym c.stays.ensures ∙ c.if-stays.true) in
    rw (e, record-long (chief_of L) L a.i) (refl, c.put_record.ensures)

returns-2 : tie.Need-returns
returns-2 c =
    let a = c.args in
    let L = a.list.now in
    let e = gives-out (chief_of L) L a.i (sym c.stays.ensures ∙ c.if-stays.false) in
    rw e (omega arith, placed-none a.out.now a.at (omega (arith, c.requires.2)))

pub add_record_spec : {M : Type 1} → statement M
add_record_spec =
    tie.close
    (tie.spec
    stays-requires
    put-record-requires
    add-result
    same_length
    returns
    returns-2)
