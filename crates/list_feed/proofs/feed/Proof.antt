-- `feed` meets its promise: a refusal, or a loop and its end. Assumes nothing.
use borrow.Author.Rules.{rules}
use mathlib.Core.Path.{◌≡◌, sym, ◌∙◌}
use mathlib.Core.Bool.{true, false}
use Prim.Native.Nat.{◌+◌, ◌*◌, ◌≤◌}
use native.Mathlib.Omega.{arith}
use lib.ListN.{length}
use Rattle.sets.specs.Set.{states, within}
use Rattle.rules.specs.Rules.{verdict}
use Rattle.list.specs.Automaton.{named}
use Rattle.feed.specs.Engine.{most_offset}
use Rattle.feed.proofs.Looping.{rows-most, answers-refused}
use Rattle.list_flow.specs.Flow.{frontier_of, offset_of, bad_flow, flow_layout, feed_rules}
use Rattle.list_flow.proofs.Passing.{feed-passes}
use Rattle.list_flow.proofs.Records.{good-flow}
use Rattle.list_flow.proofs.Ending.{fits, finishes}
use Rattle.list_feed.specs.Plain.{plain}
use Rattle.list_feed.proofs.Plain.{plain-cheap}
use Rattle.list_feed.proofs.feed.Statement.{statement}
use Rattle.list_feed.proofs.feed.Tie as tie

-- the way back from the check to the entry, and from the loop to where no rule refuses
abbrev entry : tie.After-feed_refusal-refusal → tie.Start
entry c = c.before.before.before.before.before

abbrev passed : tie.After-feed_bytes-ran → tie.Else-refusal-ne-PASSED
passed c = c.before.before.before

-- there no rule refuses, so the flow is good, the piece begins at its offset and ends at one
verdict-0 : (c : tie.Else-refusal-ne-PASSED)
    → verdict (feed_rules (entry c.before).args.list.now (entry c.before).args.flow.now (entry c.before).args.start (entry c.before).args.piece.now) ≡ 0
verdict-0 c = sym c.feed_refusal-refusal.ensures ∙ c.if-refusal-ne-PASSED.false

passes : (c : tie.Else-refusal-ne-PASSED)
    → (bad_flow (entry c.before).args.flow.now ≡ false)
    × ((entry c.before).args.start ≡ offset_of (entry c.before).args.flow.now)
    × (offset_of (entry c.before).args.flow.now + length (entry c.before).args.piece.now ≤ most_offset)
    × (within (frontier_of (entry c.before).args.flow.now) (named (entry c.before).args.list.now) ≡ true)
passes c =
    let a = (entry c.before).args in
    feed-passes a.list.now a.flow.now a.start a.piece.now (verdict-0 c)

-- the rows of the loop are at most all states for each byte
few : (c : tie.After-feed_bytes-ran) → c.feed_bytes-ran.result.rows ≤ states * c.feed_bytes-ran.result.bytes
few c =
    let s = (passed c).before.before.before in
    rows-most c.feed_bytes-ran.ensures.going states (plain-cheap s.args.list.now) (λ i. (s.shared_slice_known-2-1.given i).fits)

feed-refusal-requires : tie.Need-feed_refusal-refusal-requires
feed-refusal-requires c κs = search rules

refused-requires : tie.Need-refused-requires
refused-requires c κs = search rules

same_length : tie.Need-shape_of-flow-then-refusal-ne-PASSED
same_length c = search rules

returns : tie.Need-returns-then-refusal-ne-PASSED
returns c =
    let check = c.before.before in
    let a = (entry check).args in
    let e = check.feed_refusal-refusal.ensures in
    answers-refused (plain a.list.now) flow_layout a.flow.now a.piece.now a.pairs.now (feed_rules a.list.now a.flow.now a.start a.piece.now) _
    (λ z. c.if-refusal-ne-PASSED.true (e ∙ z)) (rw e at c.refused.ensures)

from-bytes-requires : tie.Need-from_bytes-requires
from-bytes-requires c κs = (search rules, omega (arith, (good-flow (entry c.before).args.flow.now (passes c).0).0))

feed-bytes-requires : tie.Need-feed_bytes-ran-requires
feed-bytes-requires c κs = let p = passes c.before.before in omega (arith, p.1, p.2)

finish-requires : tie.Need-finish-requires
finish-requires c κs =
    let ran = c.before.before.before in
    let a = (entry (passed ran).before).args in
    let p = passes (passed ran) in
    fits a.flow.now a.piece.now p.0 ran.feed_bytes-ran.result p.2 ran.feed_bytes-ran.ensures.going.short (few ran)

same-length-2 : tie.Need-shape_of-flow
same-length-2 c = search rules

same-length-3 : tie.Need-shape_of-pairs
same-length-3 c = search rules

returns-2 : tie.Need-returns
returns-2 c =
    let end = c.before.before in
    let ran = end.before.before.before.before in
    let a = (entry (passed ran).before).args in
    let p = passes (passed ran) in
    finishes a.flow.now a.piece.now p.0 ran.feed_bytes-ran.result (plain a.list.now) a.pairs.now
    (feed_rules a.list.now a.flow.now a.start a.piece.now) _ _ _ (verdict-0 (passed ran))
    (rw (ran.from_bytes.ensures, p.1) at ran.feed_bytes-ran.ensures) end.finish.ensures

pub feed_spec : {M : Type 1} → statement M
feed_spec =
    tie.close
    (tie.spec
    feed-refusal-requires
    refused-requires
    same_length
    returns
    from-bytes-requires
    feed-bytes-requires
    finish-requires
    same-length-2
    same-length-3
    returns-2)
