-- `begin` meets its promise: the last line where the opening is refused, else the lines of its pairs. Assumes nothing.
use borrow.Author.Rules.{rules}
use native.Mathlib.Omega.{arith}
use Rattle.program.proofs.Feeding.{open-pairs-fit, says-unopened, says-opened}
use Rattle.program.proofs.begin.Statement.{statement}
use Rattle.program.proofs.begin.Tie as tie

slice-aggregate-open-flow : tie.Need-slice_bounds-open_flow-end
slice-aggregate-open-flow c = search rules

open-flow-requires : tie.Need-open_flow-opened-requires
open-flow-requires c κs = search rules

put-last-requires : tie.Need-put_last-requires
put-last-requires c κs = search rules

same_length : tie.Need-shape_of-flow-then-opened-ne-PASSED
same_length c = search rules

same-length-2 : tie.Need-shape_of-text-then-opened-ne-PASSED
same-length-2 c = search rules

returns : tie.Need-returns-then-opened-ne-PASSED
returns c =
    let refused = c.before.before.before.before in
    let opening = refused.before.before.before.before.before in
    let a = opening.args in
    let e = c.put_last.ensures in
    says-unopened a.list.now a.flow.now _ _ _ opening.open_flow-opened.ensures _ _ e.0 refused.if-opened-ne-PASSED.true e.1

slice-aggregate-put-pairs : tie.Need-slice_bounds-put_pairs-end
slice-aggregate-put-pairs c = search rules

put-pairs-requires : tie.Need-put_pairs-requires
put-pairs-requires c κs =
    let opening = c.before.before.before.before.before.before.before in
    let entry = opening.before.before.before.before.before.before in
    let f = open-pairs-fit entry.args.list.now entry.args.flow.now _ _ _ opening.open_flow-opened.ensures in
    (omega (arith, f), omega (arith, f, entry.requires))

same-length-3 : tie.Need-shape_of-flow
same-length-3 c = search rules

same-length-4 : tie.Need-shape_of-text
same-length-4 c = search rules

returns-2 : tie.Need-returns
returns-2 c =
    let passed = c.before.before.before.before.before in
    let opening = passed.before.before.before.before.before in
    let a = opening.args in
    let e = c.put_pairs.ensures in
    says-opened a.list.now a.flow.now _ _ _ opening.open_flow-opened.ensures _ _ e.0 passed.if-opened-ne-PASSED.false e.1

pub begin_spec : {M : Type 1} → statement M
begin_spec =
    tie.close
    (tie.spec
    slice-aggregate-open-flow
    open-flow-requires
    put-last-requires
    same_length
    same-length-2
    returns
    slice-aggregate-put-pairs
    put-pairs-requires
    same-length-3
    same-length-4
    returns-2)
