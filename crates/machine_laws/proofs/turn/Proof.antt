-- `turn` meets its promise: a feed of a part of the stream, with a part of the words, is a turn. Assumes nothing.
use borrow.Author.Rules.{rules}
use native.Mathlib.Omega.{arith}
use Prim.Native.Nat.{◌+◌, ◌*◌, ◌≤◌}
use lib.ListN.{length}
use Rattle.machine_laws.proofs.Driving.{turned-fits, turned}
use Rattle.machine_laws.proofs.turn.Statement.{statement}
use Rattle.machine_laws.proofs.turn.Tie as tie

abbrev entry : tie.After-feed-fed → tie.Start
entry c = c.before.before.before.before.before.before.before.before.before.before

-- what is consumed and told fits the stream and the words
fits : (c : tie.After-feed-fed)
    → ((entry c).args.so.bytes + c.feed-fed.result.bytes ≤ length (entry c).args.stream.now) × ((entry c).args.so.words + 2 * c.feed-fed.result.pairs ≤ length (entry c).args.pairs.now)
fits c =
    let e = entry c in
    let a = e.args in
    turned-fits a.moves.now a.programs.now a.flow.now a.start a.stream.now a.so a.e a.pairs.now a.v e.requires.0 e.requires.1 e.requires.2 e.requires.3 _ _ _ c.feed-fed.ensures

sub-feed : tie.Need-slice_bounds-feed-count
sub-feed c = search rules

part-feed-start : tie.Need-slice_bounds-feed-start
part-feed-start c = search rules

part-feed-end : tie.Need-slice_bounds-feed-end
part-feed-end c = search rules

mul-feed : tie.Need-offset_bounds-pairs-w
mul-feed c = search rules

sub-feed-2 : tie.Need-slice_bounds-feed-count-2
sub-feed-2 c = search rules

part-feed-start-2 : tie.Need-slice_bounds-feed-start-2
part-feed-start-2 c = search rules

part-feed-end-2 : tie.Need-slice_bounds-feed-end-2
part-feed-end-2 c = search rules

feed-requires : tie.Need-feed-fed-requires
feed-requires c κs = search rules

note-requires : tie.Need-note-requires
note-requires c κs = search rules

add-t18 : tie.Need-overflow_add-result
add-t18 c = let fed = c.before.before.before.before.before.before.before.before.before in omega (arith, (fits fed).0, (entry fed).well_formed.1.1.1.1.0.0)

mul-t21 : tie.Need-overflow_mul-result
mul-t21 c = let fed = c.before.before.before.before.before.before.before.before.before.before in omega (arith, (fits fed).1, (entry fed).well_formed.1.1.1.1.1.1.1.0.0)

add-t23 : tie.Need-overflow_add-result-2
add-t23 c = let fed = c.before.before.before.before.before.before.before.before.before.before in omega (arith, (fits fed).1, (entry fed).well_formed.1.1.1.1.1.1.1.0.0)

same_length : tie.Need-shape_of-flow
same_length c = search rules

same-length-2 : tie.Need-shape_of-pairs
same-length-2 c = search rules

same-length-3 : tie.Need-shape_of-numbers
same-length-3 c = search rules

returns : tie.Need-returns
returns c =
    let fed = c.before.before.before.before.before.before.before.before.before.before in
    let e = entry fed in
    let a = e.args in
    turned a.moves.now a.programs.now a.flow.now a.start a.stream.now a.so a.e a.pairs.now a.v e.requires.0 e.requires.1 e.requires.2 e.requires.3
    a.i _ _ _ _ _ fed.feed-fed.ensures c.note.ensures

pub turn_spec : {M : Type 1} → statement M
turn_spec =
    tie.close
    (tie.spec
    sub-feed
    part-feed-start
    part-feed-end
    mul-feed
    sub-feed-2
    part-feed-start-2
    part-feed-end-2
    feed-requires
    note-requires
    add-t18
    mul-t21
    add-t23
    same_length
    same-length-2
    same-length-3
    returns)
