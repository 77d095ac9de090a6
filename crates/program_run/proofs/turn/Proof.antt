-- `turn` meets its promise: on records that stand alike it says what a turn of 01's program says. Assumes nothing.
use borrow.Author.Rules.{rules}
use native.Mathlib.Omega.{arith}
use Rattle.program_run.proofs.Turning.{spoken-end, spoken-fit, spoken-refused, spoken-lines}
use Rattle.program_run.proofs.turn.Statement.{statement}
use Rattle.program_run.proofs.turn.Tie as tie

put-last-requires : tie.Need-put_last-requires
put-last-requires c κs = search rules

same_length : tie.Need-shape_of-text-then-rest-eq0
same_length c = search rules

returns : tie.Need-returns-then-rest-eq0
returns c =
    let start = c in
    let e = c.put_last.ensures in
    λ R a. spoken-end _ _ _ _ start.args.split start.requires.1 R _ a _ _ _ _ c.if-rest-eq0.true e.0 e.1

slice-aggregate-feed-by : tie.Need-slice_bounds-feed_by-end
slice-aggregate-feed-by c = search rules

feed-by-requires : tie.Need-feed_by-stood-requires
feed-by-requires c κs = search rules

put-last-requires-2 : tie.Need-put_last-requires-then-stood-ne-PASSED
put-last-requires-2 c κs = search rules

same-length-2 : tie.Need-shape_of-flow-then-stood-ne-PASSED
same-length-2 c = search rules

same-length-3 : tie.Need-shape_of-text-then-stood-ne-PASSED
same-length-3 c = search rules

returns-2 : tie.Need-returns-then-stood-ne-PASSED
returns-2 c =
    let feeding = c in
    let start = c in
    let e = c.put_last-then-stood-ne-PASSED.ensures in
    λ R a. spoken-refused _ _ _ _ start.args.split start.requires.1 R _ a _ _ (λ i. (c.shared_slice_known-4-1.given i).fits) _ _ _ feeding.feed_by-stood.ensures c.if-rest-eq0.false _ _ e.0 c.if-stood-ne-PASSED.true e.1

slice-aggregate-put-pairs : tie.Need-slice_bounds-put_pairs-end
slice-aggregate-put-pairs c = search rules

put-pairs-requires : tie.Need-put_pairs-requires
put-pairs-requires c κs =
    let a = c.args in
    let f = spoken-fit a.list.now a.splits.now a.index.now a.by a.split a.flow.now a.offset a.rest.now _ _ _ c.feed_by-stood.ensures in
    (omega (arith, f), omega (arith, f, c.requires.0))

same-length-4 : tie.Need-shape_of-flow
same-length-4 c = search rules

same-length-5 : tie.Need-shape_of-text
same-length-5 c = search rules

returns-3 : tie.Need-returns
returns-3 c =
    let feeding = c in
    let start = c in
    let e = c.put_pairs.ensures in
    λ R a. spoken-lines _ _ _ _ start.args.split start.requires.1 R _ a _ _ (λ i. (c.shared_slice_known-4-1.given i).fits) _ _ _ feeding.feed_by-stood.ensures c.if-rest-eq0.false _ _ e.0 c.if-stood-ne-PASSED.false e.1

pub turn_spec : {M : Type 1} → statement M
turn_spec =
    tie.close
    (tie.spec
    put-last-requires
    same_length
    returns
    slice-aggregate-feed-by
    feed-by-requires
    put-last-requires-2
    same-length-2
    same-length-3
    returns-2
    slice-aggregate-put-pairs
    put-pairs-requires
    same-length-4
    same-length-5
    returns-3)
