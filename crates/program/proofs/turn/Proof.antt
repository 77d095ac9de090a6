-- `turn` meets its promise: the last line where nothing is left or the feed is refused, else the lines of its pairs. Assumes nothing.
use borrow.Author.Rules.{rules}
use native.Mathlib.Omega.{arith}
use Rattle.program.proofs.Feeding.{pairs-fit, says-end, says-refused, says-lines}
use Rattle.program.proofs.turn.Statement.{statement}
use Rattle.program.proofs.turn.Tie as tie

put-last-requires : tie.Need-put_last-requires
put-last-requires c κs = search rules

same_length : tie.Need-shape_of-text-then-rest-eq0
same_length c = search rules

returns : tie.Need-returns-then-rest-eq0
returns c =
    let a = c.args in
    let e = c.put_last.ensures in
    says-end a.list.now a.flow.now a.offset a.rest.now _ _ c.if-rest-eq0.true e.0 e.1

slice-aggregate-feed : tie.Need-slice_bounds-feed-end
slice-aggregate-feed c = search rules

feed-requires : tie.Need-feed-fed-requires
feed-requires c κs = search rules

put-last-requires-2 : tie.Need-put_last-requires-then-fed-ne-PASSED
put-last-requires-2 c κs = search rules

same-length-2 : tie.Need-shape_of-flow-then-fed-ne-PASSED
same-length-2 c = search rules

same-length-3 : tie.Need-shape_of-text-then-fed-ne-PASSED
same-length-3 c = search rules

returns-2 : tie.Need-returns-then-fed-ne-PASSED
returns-2 c =
    let refused = c.before.before.before.before in
    let feeding = refused.before.before.before.before.before in
    let a = feeding.args in
    let e = c.put_last-then-fed-ne-PASSED.ensures in
    says-refused a.list.now a.flow.now a.offset a.rest.now _ _ _ feeding.feed-fed.ensures feeding.if-rest-eq0.false _ _ e.0 refused.if-fed-ne-PASSED.true e.1

slice-aggregate-put-pairs : tie.Need-slice_bounds-put_pairs-end
slice-aggregate-put-pairs c = search rules

put-pairs-requires : tie.Need-put_pairs-requires
put-pairs-requires c κs =
    let a = c.args in
    let f = pairs-fit a.list.now a.flow.now a.offset a.rest.now _ _ _ _ c.feed-fed.ensures in
    (omega (arith, f), omega (arith, f, c.requires))

same-length-4 : tie.Need-shape_of-flow
same-length-4 c = search rules

same-length-5 : tie.Need-shape_of-text
same-length-5 c = search rules

returns-3 : tie.Need-returns
returns-3 c =
    let passed = c.before.before.before.before.before in
    let feeding = passed.before.before.before.before.before in
    let a = feeding.args in
    let e = c.put_pairs.ensures in
    says-lines a.list.now a.flow.now a.offset a.rest.now _ _ _ feeding.feed-fed.ensures feeding.if-rest-eq0.false _ _ e.0 passed.if-fed-ne-PASSED.false e.1

pub turn_spec : {M : Type 1} → statement M
turn_spec =
    tie.close
    (tie.spec
    put-last-requires
    same_length
    returns
    slice-aggregate-feed
    feed-requires
    put-last-requires-2
    same-length-2
    same-length-3
    returns-2
    slice-aggregate-put-pairs
    put-pairs-requires
    same-length-4
    same-length-5
    returns-3)
