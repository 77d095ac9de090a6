-- `note` goes by the record's kind.
use Rattle.std.proofs.Common.{◌≡◌, true, false, sym, ap, ◌∙◌, ℕ}
use lib.Dec.{eqb}
use mathlib.Core.Bool.{false≢true}
use borrow.Author.Tests.{eqb-true}
use Rattle.list.specs.List.{byte_of, is_edge, is_start, is_accept}
use Rattle.list.proofs.Listed.{good-accept, good-none, accept-good}
use Rattle.list_join.proofs.Marking.{count_low, seen_start, seen-accept}
use Rattle.list_join.proofs.note.Goals as goal

pub note_start-requires : goal.note_start-requires
note_start-requires c =
    let a = c.args in
    let r = c.requires in
    let e : is_start a.list.now a.i ≡ true = rw c.in-Some-Start.field-0-is at c.in-Some-Start.ensures in
    (r.0, e, r.2.marked.0, r.2.long, λ q l. count_low a.list.now a.i a.marks.now a.staying.now a.spares.now r.2 q l r.1)

pub returns-in-Some-Start : goal.returns-in-Some-Start
returns-in-Some-Start c =
    let a = c.args in
    let n = c.note_start.ensures in
    let e : is_start a.list.now a.i ≡ true = rw c.in-Some-Start.field-0-is at c.in-Some-Start.ensures in
    (n.0, λ z. let m = n.1 z in rw (m.1, m.2) (seen_start a.list.now a.i a.marks.now a.staying.now a.spares.now c.requires.2 e m.0))

pub returns-in-Some-Accept : goal.returns-in-Some-Accept
returns-in-Some-Accept c =
    let a = c.args in
    let n = c.note_accept.ensures in
    let k : is_accept a.list.now a.i ≡ true = rw c.in-Some-Accept.field-0-is at c.in-Some-Accept.ensures in
    let three : byte_of a.list.now a.i 0 ≡ 3 = eqb-true (byte_of a.list.now a.i 0) 3 k in
    let e : is_edge a.list.now a.i ≡ false = ap (λ (x : ℕ). eqb x 1) three in
    let d : is_start a.list.now a.i ≡ false = ap (λ (x : ℕ). eqb x 2) three in (
      n.0,
      λ z.
          let m = n.1 z in
          let g = (accept-good a.list.now a.i).0 (sym (good-accept a.list.now a.i k) ∙ sym n.0 ∙ z) in
          rw m.1 (seen-accept a.list.now a.i a.marks.now a.staying.now a.spares.now c.requires.2 e d g.0 m.0),
    )

pub returns-in-None : goal.returns-in-None
returns-in-None c =
    let k = c.in-None.ensures in
    let none = good-none c.args.list.now c.args.i k.0 k.1 k.2 in
    (sym none, λ z. absurd (false≢true z))
