-- `feed` meets its promise: a refusal, or a loop and its end. Assumes nothing.
use borrow.Author.Rules.{rules}
use mathlib.Core.Path.{◌≡◌, sym, ◌∙◌}
use mathlib.Core.List.{List}
use Prim.Native.Nat.{◌*◌, ◌≤◌}
use native.Mathlib.Omega.{arith}
use Rattle.sets.specs.Set.{states}
use Rattle.rules.specs.Rules.{Rule, verdict}
use Rattle.feed.proofs.Looping.{rows-most, answers-refused}
use Rattle.list_flow.specs.Flow.{flow_layout}
use Rattle.list_flow.proofs.Records.{good-flow}
use Rattle.list_flow.proofs.Ending.{fits, finishes}
use Rattle.table.specs.Table.{Table, table}
use Rattle.table_feed.specs.Split.{split, split_rules}
use Rattle.table_feed.proofs.Stepping.{split-cheap}
use Rattle.table_feed.proofs.Feeding.{split-passes}
use Rattle.table_feed.proofs.feed.Statement.{statement}
use Rattle.table_feed.proofs.feed.Tie as tie

-- the way back from the check to the entry, and from the loop to where no rule refuses
abbrev entry : tie.After-feed_refusal-refusal → tie.Start
entry c = c.before.before.before.before.before.before.before.before.before

abbrev passed : tie.After-feed_bytes-ran → tie.Else-refusal-ne-PASSED
passed c = c.before.before.before

-- the table and the rules that are given
abbrev given : tie.After-feed_refusal-refusal → Table
given c =
    let a = (entry c).args in
    table a.classes.now a.parts.now a.rows.now a.splits.now

abbrev tests : tie.After-feed_refusal-refusal → List Rule
tests c =
    let a = (entry c).args in
    split_rules a.list.now a.bound (given c) a.flow.now a.start a.piece.now

verdict-0 : (c : tie.Else-refusal-ne-PASSED) → verdict (tests c.before) ≡ 0
verdict-0 c = sym c.feed_refusal-refusal.ensures ∙ c.if-refusal-ne-PASSED.false

-- the rows of the loop are at most four for each byte
few : (c : tie.After-feed_bytes-ran) → c.feed_bytes-ran.result.rows ≤ states * c.feed_bytes-ran.result.bytes
few c =
    let s = (passed c).before.before.before in
    omega (arith, rows-most c.feed_bytes-ran.ensures.going 4 (split-cheap (given (passed c).before)) (λ i. (s.shared_slice_known-6-1.given i).fits))

feed-refusal-requires : tie.Need-feed_refusal-refusal-requires
feed-refusal-requires c κs = search rules

refused-requires : tie.Need-refused-requires
refused-requires c κs = search rules

same_length : tie.Need-shape_of-flow-then-refusal-ne-PASSED
same_length c = search rules

returns : tie.Need-returns-then-refusal-ne-PASSED
returns c =
    let check = c.before.before in
    let a = (entry check).args in
    answers-refused (split a.list.now a.bound (given check)) flow_layout a.flow.now a.piece.now a.pairs.now (tests check) _
    (λ z. c.if-refusal-ne-PASSED.true (check.feed_refusal-refusal.ensures ∙ z)) (rw check.feed_refusal-refusal.ensures at c.refused.ensures)

same-length-2 : tie.Need-shape_of-flow
same-length-2 c = search rules

same-length-3 : tie.Need-shape_of-pairs
same-length-3 c = search rules

from-bytes-requires : tie.Need-from_bytes-first-requires
from-bytes-requires c κs =
    let here = c in
    let a = (entry here.before).args in
    let p = split-passes a.list.now a.bound (given here.before) a.flow.now a.start a.piece.now (verdict-0 here) in
    (search rules, omega (arith, (good-flow a.flow.now p.0).0))

feed-bytes-requires : tie.Need-feed_bytes-ran-requires
feed-bytes-requires c κs =
    let here = c.before.before in
    let a = (entry here.before).args in
    let p = split-passes a.list.now a.bound (given here.before) a.flow.now a.start a.piece.now (verdict-0 here) in
    (omega (arith, p.1, p.2), p.3, p.4)

finish-requires : tie.Need-finish-requires
finish-requires c κs =
    let ran = c.before.before.before in
    let a = (entry (passed ran).before).args in
    let p = split-passes a.list.now a.bound (given (passed ran).before) a.flow.now a.start a.piece.now (verdict-0 (passed ran)) in
    fits a.flow.now a.piece.now p.0 ran.feed_bytes-ran.result p.2 ran.feed_bytes-ran.ensures.going.short (few ran)

returns-2 : tie.Need-returns
returns-2 c =
    let end = c.before.before in
    let ran = end.before.before.before.before in
    let a = (entry (passed ran).before).args in
    let p = split-passes a.list.now a.bound (given (passed ran).before) a.flow.now a.start a.piece.now (verdict-0 (passed ran)) in
    finishes a.flow.now a.piece.now p.0 ran.feed_bytes-ran.result (split a.list.now a.bound (given (passed ran).before)) a.pairs.now
    (tests (passed ran).before) _ _ _ (verdict-0 (passed ran)) (rw (ran.from_bytes-first.ensures, p.1) at ran.feed_bytes-ran.ensures) end.finish.ensures

pub feed_spec : {M : Type 1} → statement M
feed_spec =
    tie.close
    (tie.spec
    feed-refusal-requires
    refused-requires
    same_length
    returns
    from-bytes-requires
    feed-bytes-requires
    finish-requires
    same-length-2
    same-length-3
    returns-2)
