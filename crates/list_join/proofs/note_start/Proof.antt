-- `note_start` tests the start, marks its state and counts it. Assumes nothing.
use Prim.Native.Nat.{◌<◌}
use mathlib.Core.Path.{◌≡◌, sym, ◌∙◌}
use mathlib.Core.Bool.{◌&&◌, true≢false}
use lib.Dec.{eqb, ltb}
use borrow.Author.Tests.{not-true, not-false}
use Rattle.sets.specs.Set.{states}
use Rattle.list.specs.List.{target, good_record}
use Rattle.list.proofs.Listed.{good-start, start-good}
use Rattle.list_join.proofs.Marking.{start-as}
use native.Mathlib.Omega.{arith}
use borrow.Author.Rules.{rules}
use Rattle.list_join.proofs.note_start.Statement.{statement}
use Rattle.list_join.proofs.note_start.Tie as tie

-- the code's test is the definition
good : (c : tie.After-from) → let a = c.args in good_record a.list.now a.i ≡ (eqb c.head.result 2 && eqb c.from.result 0 && ltb c.target-t.result states)
good c =
    start-as c.args.list.now (λ j. (c.shared_slice_known-1.given j).fits) c.args.i c.requires.0 c.requires.1 ∙ rw (c.head.ensures, c.from.ensures, c.target-t.ensures)

fine : (c : tie.Else-not-good) → let a = c.args in target a.list.now a.i < states
fine c =
    ((start-good c.args.list.now c.args.i).0 (sym (good-start c.args.list.now c.args.i c.requires.1) ∙ good c.before ∙ not-false _ c.if-not-good.false-raw)).2

target-requires : tie.Need-target-t-requires
target-requires c κs = search rules

head-requires : tie.Need-head-requires
head-requires c κs = search rules

from-requires : tie.Need-from-requires
from-requires c κs = search rules

returns : tie.Need-returns-then-not-good
returns c = (sym (good c.before ∙ not-true _ c.if-not-good.true-raw), λ z. absurd (true≢false (sym z)))

put-flag-requires : tie.Need-put_flag-requires
put-flag-requires c κs = omega (arith, fine c.before, c.target-t.ensures, c.requires.2)

put-spare-requires : tie.Need-put_spare-requires
put-spare-requires c κs =
    let l = fine c.before.before.before.before.before in
    let e = c.target-t.ensures in
    (omega (arith, l, e, c.requires.3), rw e (c.requires.4 (target c.args.list.now c.args.i) l))

same_length : tie.Need-shape_of-marks
same_length c = search rules

same-length-2 : tie.Need-shape_of-spares
same-length-2 c = search rules

returns-2 : tie.Need-returns
returns-2 c =
    let e = c.target-t.ensures in
    (sym (good c.before.before.before.before.before.before.before.before.before ∙ not-false _ c.if-not-good.false-raw), λ _. (fine c.before.before.before.before.before.before.before.before, c.put_flag.ensures ∙ rw e, c.put_spare.ensures ∙ rw e))

pub note_start_spec : {M : Type 1} → statement M
note_start_spec =
    tie.close
    (tie.spec
    target-requires
    head-requires
    from-requires
    returns
    put-flag-requires
    put-spare-requires
    same_length
    same-length-2
    returns-2)
