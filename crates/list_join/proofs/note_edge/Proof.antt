-- `note_edge` tests the edge, and marks its states. Assumes nothing.
use Prim.Native.Nat.{◌<◌}
use mathlib.Core.Path.{◌≡◌, sym, ◌∙◌}
use mathlib.Core.Bool.{◌&&◌, true≢false}
use lib.Dec.{leb, ltb}
use borrow.Author.Tests.{not-true, not-false}
use Rattle.sets.specs.Set.{states}
use Rattle.list.specs.List.{from, target, good_record}
use Rattle.list.proofs.Listed.{good-edge, edge-good}
use Rattle.list_join.proofs.Marking.{seen-move}
use native.Mathlib.Omega.{arith}
use borrow.Author.Rules.{rules}
use Rattle.list_join.proofs.note_edge.Statement.{statement}
use Rattle.list_join.proofs.note_edge.Tie as tie

-- the code's test is the definition
good : (c : tie.After-byte_of-3) → let a = c.args in good_record a.list.now a.i ≡ (leb c.byte_of.result c.byte_of-2.result && leb c.byte_of-3.result 1 && ltb c.from-f.result states && ltb c.target-t.result states)
good c =
    good-edge c.args.list.now c.args.i c.requires.2 ∙ rw (c.requires.2, c.byte_of.ensures, c.byte_of-2.ensures, c.byte_of-3.ensures, c.from-f.ensures, c.target-t.ensures)

-- so both states of a good edge are states
fine : (c : tie.Else-not-good) → let a = c.args in (from a.list.now a.i < states) × (target a.list.now a.i < states)
fine c =
    let t = (edge-good c.args.list.now c.args.i).0 (sym (good-edge c.args.list.now c.args.i c.requires.2) ∙ good c.before ∙ not-false _ c.if-not-good.false-raw) in
    (t.3, t.4)

from-requires : tie.Need-from-f-requires
from-requires c κs = search rules

target-requires : tie.Need-target-t-requires
target-requires c κs = search rules

byte-of-requires : tie.Need-byte_of-requires
byte-of-requires c κs = search rules

byte-of-requires-2 : tie.Need-byte_of-requires-2
byte-of-requires-2 c κs = search rules

byte-of-requires-3 : tie.Need-byte_of-requires-3
byte-of-requires-3 c κs = search rules

returns : tie.Need-returns-then-not-good
returns c = (sym (good c.before ∙ not-true _ c.if-not-good.true-raw), λ z. absurd (true≢false (sym z)))

note-loop-requires : tie.Need-note_loop-requires
note-loop-requires c κs =
    (c.requires.0, c.requires.1, c.requires.2, (fine c.before.before.before.before).1, sym c.from-f.ensures ∙ c.if-f-t.true ∙ c.target-t.ensures, c.requires.3)

same_length : tie.Need-shape_of-marks-then-f-t
same_length c = search rules

same-length-2 : tie.Need-shape_of-staying-then-f-t
same-length-2 c = search rules

same-length-3 : tie.Need-shape_of-spares-then-f-t
same-length-3 c = search rules

returns-2 : tie.Need-returns-then-f-t
returns-2 c = (sym (good c.before.before.before.before.before.before.before.before.before.before.before.before ∙ not-false _ c.if-not-good.false-raw), λ _. c.note_loop.ensures)

put-flag-requires : tie.Need-put_flag-requires
put-flag-requires c κs = omega (arith, (fine c.before.before).0, c.from-f.ensures, c.requires.3.marked.0)

put-flag-requires-2 : tie.Need-put_flag-requires-2
put-flag-requires-2 c κs = omega (arith, (fine c.before.before.before.before.before.before).1, c.target-t.ensures, c.requires.3.marked.0, c.marks-2-1.given)

same-length-4 : tie.Need-shape_of-marks
same-length-4 c = search rules

returns-3 : tie.Need-returns
returns-3 c =
    let a = c.args in
    let f = c.from-f.ensures in
    let t = c.target-t.ensures in
    let l = fine c.before.before.before.before.before.before.before.before.before in (
      sym (good c.before.before.before.before.before.before.before.before.before.before ∙ not-false _ c.if-not-good.false-raw),
      λ _.
          rw (c.put_flag-2.ensures, c.put_flag.ensures, f, t)
          (seen-move a.list.now a.i a.marks.now a.staying.now a.spares.now c.requires.3 c.requires.2 l.0 l.1 (λ q. c.if-f-t.false (f ∙ q ∙ sym t))),
    )

pub note_edge_spec : {M : Type 1} → statement M
note_edge_spec =
    tie.close
    (tie.spec
    from-requires
    target-requires
    byte-of-requires
    byte-of-requires-2
    byte-of-requires-3
    returns
    note-loop-requires
    same_length
    same-length-2
    same-length-3
    returns-2
    put-flag-requires
    put-flag-requires-2
    same-length-4
    returns-3)
