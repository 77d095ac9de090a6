-- `bad_lengths` tests the lists in turn; the product of the last test is bounded by the tests before. Assumes nothing.
use borrow.Author.Rules.{rules}
use mathlib.Core.Path.{◌≡◌, sym, ◌∙◌}
use mathlib.Core.Bool.{true, false}
use native.Mathlib.Omega.{arith}
use Rattle.sets.specs.Set.{set_size}
use Rattle.table.specs.Table.{split_size, most_parts, most_splits, bad_classes, bad_count, bad_lengths}
use Rattle.table.proofs.Verdict.{count_fits}
use Rattle.table.proofs.bad_lengths.Statement.{statement}
use Rattle.table.proofs.bad_lengths.Tie as tie

bad-classes-requires : tie.Need-bad_classes-requires
bad-classes-requires c κs = search rules

returns : tie.Need-returns-then-bad_classes
unfolding bad_lengths
returns c =
    let e1 : bad_classes c.args.classes.now ≡ true = sym c.bad_classes.ensures ∙ c.if-bad_classes.true in
    rw e1

bad-count-requires : tie.Need-bad_count-requires
bad-count-requires c κs = search rules

returns-2 : tie.Need-returns-then-bad_count
unfolding bad_lengths
returns-2 c =
    let a = c.args in
    let e1 : bad_classes a.classes.now ≡ false = sym c.bad_classes.ensures ∙ c.if-bad_classes.false in
    let e2 : bad_count set_size most_parts a.parts.now ≡ true = sym c.bad_count.ensures ∙ c.if-bad_count.true in
    rw (e1, e2)

bad-count-requires-2 : tie.Need-bad_count-requires-2
bad-count-requires-2 c κs = search rules

returns-3 : tie.Need-returns-then-bad_count-2
unfolding bad_lengths
returns-3 c =
    let a = c.args in
    let e1 : bad_classes a.classes.now ≡ false = sym c.bad_classes.ensures ∙ c.if-bad_classes.false in
    let e2 : bad_count set_size most_parts a.parts.now ≡ false = sym c.bad_count.ensures ∙ c.if-bad_count.false in
    let e3 : bad_count split_size most_splits a.splits.now ≡ true = sym c.bad_count-2.ensures ∙ c.if-bad_count-2.true in
    rw (e1, e2, e3)

bad-rows-length-requires : tie.Need-bad_rows_length-requires
bad-rows-length-requires c κs =
    let P = c.args.parts.now in
    omega (arith, count_fits set_size most_parts P (sym c.bad_count.ensures ∙ c.if-bad_count.false))

returns-4 : tie.Need-returns
unfolding bad_lengths
returns-4 c =
    let a = c.args in
    let e1 : bad_classes a.classes.now ≡ false = sym c.bad_classes.ensures ∙ c.if-bad_classes.false in
    let e2 : bad_count set_size most_parts a.parts.now ≡ false = sym c.bad_count.ensures ∙ c.if-bad_count.false in
    let e3 : bad_count split_size most_splits a.splits.now ≡ false = sym c.bad_count-2.ensures ∙ c.if-bad_count-2.false in
    rw (e1, e2, e3) c.bad_rows_length.ensures

pub bad_lengths_spec : {M : Type 1} → statement M
bad_lengths_spec =
    tie.close
    (tie.spec
    bad-classes-requires
    returns
    bad-count-requires
    returns-2
    bad-count-requires-2
    returns-3
    bad-rows-length-requires
    returns-4)
