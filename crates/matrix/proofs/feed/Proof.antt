-- `feed` meets its promise: a refusal, or a loop and its end. Assumes nothing.
use borrow.Author.Rules.{rules}
use mathlib.Core.Path.{◌≡◌, sym, ◌∙◌}
use Prim.Native.Nat.{◌*◌, ◌≤◌}
use native.Mathlib.Omega.{arith}
use Rattle.sets.specs.Set.{states}
use Rattle.rules.specs.Rules.{verdict}
use Rattle.feed.proofs.Looping.{rows-most, answers-refused}
use Rattle.list_flow.specs.Flow.{flow_layout}
use Rattle.list_flow.proofs.Records.{good-flow}
use Rattle.list_flow.proofs.Ending.{fits, finishes}
use Rattle.matrix.specs.Matrix.{matrixed, matrix_rules}
use Rattle.list.proofs.Highest.{highest-state}
use Rattle.matrix.proofs.Feeding.{matrix-cheap, Passes, matrix-passes}
use Rattle.matrix.proofs.feed.Statement.{statement}
use Rattle.matrix.proofs.feed.Tie as tie

-- the way back from the check to the entry, and from the loop to where no rule refuses
abbrev entry : tie.After-feed_refusal-refusal → tie.Start
entry c = c.before.before.before.before.before.before.before

abbrev passed : tie.After-feed_bytes-ran → tie.Else-refusal-ne-PASSED
passed c = c.before.before.before

-- there no rule refuses, so the list and the flow are good, the piece begins at its offset and ends at one, and the matrix has its length
verdict-0 : (c : tie.Else-refusal-ne-PASSED)
    → let a = (entry c.before).args in verdict (matrix_rules a.list.now a.matrix.now a.flow.now a.start a.piece.now) ≡ 0
verdict-0 c = sym c.feed_refusal-refusal.ensures ∙ c.if-refusal-ne-PASSED.false

passes : (c : tie.Else-refusal-ne-PASSED) → let a = (entry c.before).args in Passes a.list.now a.matrix.now a.flow.now a.start a.piece.now
passes c = let a = (entry c.before).args in matrix-passes a.list.now a.matrix.now a.flow.now a.start a.piece.now (verdict-0 c)

-- the rows of the loop are at most all states for each byte
few : (c : tie.After-feed_bytes-ran) → c.feed_bytes-ran.result.rows ≤ states * c.feed_bytes-ran.result.bytes
few c =
    let s = (passed c).before.before.before.before in
    let a = (entry (passed c).before).args in
    rows-most c.feed_bytes-ran.ensures.going states (matrix-cheap a.list.now a.matrix.now) (λ i. (s.shared_slice_known-3-1.given i).fits)

state-count-requires : tie.Need-state_count-n-requires
state-count-requires c κs = search rules

feed-refusal-requires : tie.Need-feed_refusal-refusal-requires
feed-refusal-requires c κs = search rules

refused-requires : tie.Need-refused-requires
refused-requires c κs = search rules

same_length : tie.Need-shape_of-flow-then-refusal-ne-PASSED
same_length c = search rules

returns : tie.Need-returns-then-refusal-ne-PASSED
returns c =
    let check = c.before.before in
    let a = (entry check).args in
    let e = check.feed_refusal-refusal.ensures in
    answers-refused (matrixed a.list.now a.matrix.now) flow_layout a.flow.now a.piece.now a.pairs.now (matrix_rules a.list.now a.matrix.now a.flow.now a.start a.piece.now) _
    (λ z. c.if-refusal-ne-PASSED.true (e ∙ z)) (rw e at c.refused.ensures)

from-bytes-requires : tie.Need-from_bytes-requires
from-bytes-requires c κs = (search rules, omega (arith, (good-flow (entry c.before).args.flow.now (passes c).good).0))

feed-bytes-requires : tie.Need-feed_bytes-ran-requires
feed-bytes-requires c κs =
    let q = c.before.before in
    let p = passes q in
    let n = q.state_count-n.ensures.0 in
    let h = highest-state (entry q.before).args.list.now p.listed in
    (omega (arith, p.begins, p.short), n, omega (arith, n, h), omega (arith, n, p.long))

finish-requires : tie.Need-finish-requires
finish-requires c κs =
    let ran = c.before.before.before in
    let a = (entry (passed ran).before).args in
    let p = passes (passed ran) in
    fits a.flow.now a.piece.now p.good ran.feed_bytes-ran.result p.short ran.feed_bytes-ran.ensures.going.short (few ran)

same-length-2 : tie.Need-shape_of-flow
same-length-2 c = search rules

same-length-3 : tie.Need-shape_of-pairs
same-length-3 c = search rules

returns-2 : tie.Need-returns
returns-2 c =
    let end = c.before.before in
    let ran = end.before.before.before.before in
    let a = (entry (passed ran).before).args in
    let p = passes (passed ran) in
    finishes a.flow.now a.piece.now p.good ran.feed_bytes-ran.result (matrixed a.list.now a.matrix.now) a.pairs.now
    (matrix_rules a.list.now a.matrix.now a.flow.now a.start a.piece.now) _ _ _ (verdict-0 (passed ran))
    (rw (ran.from_bytes.ensures, p.begins) at ran.feed_bytes-ran.ensures) end.finish.ensures

pub feed_spec : {M : Type 1} → statement M
feed_spec =
    tie.close
    (tie.spec
    state-count-requires
    feed-refusal-requires
    refused-requires
    same_length
    returns
    from-bytes-requires
    feed-bytes-requires
    finish-requires
    same-length-2
    same-length-3
    returns-2)
