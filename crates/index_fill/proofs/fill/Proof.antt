-- `fill` writes the index once no rule refuses. Assumes nothing.
use borrow.Author.Rules.{rules}
use borrow.Author.Tests.{eq-eqb, ne_eqb}
use mathlib.Core.Path.{◌≡◌, sym, ◌∙◌}
use native.Mathlib.Omega.{arith}
use lib.ListN.{length}
use Rattle.numbers.proofs.Placing.{placed-all}
use Rattle.table.specs.Table.{Table, table, split_count}
use Rattle.index.specs.Entry.{entry_place}
use Rattle.index_fill.specs.Filled.{index_of, index_refusal}
use Rattle.index_fill.proofs.Reading.{index-length}
use Rattle.index_fill.proofs.Refusing.{Fillable, fillable, fill-passes}
use Rattle.index_fill.proofs.fill.Statement.{statement}
use Rattle.index_fill.proofs.fill.Tie as tie

-- the way back from the check to the entry, and the table that is given
abbrev start : tie.After-fill_refusal-refusal → tie.Start
start c = c.before.before.before.before.before.before.before

abbrev given : tie.After-fill_refusal-refusal → Table
given c =
    let a = (start c).args in
    table a.classes.now a.parts.now a.rows.now a.splits.now

-- where no rule refuses, the check accepts the table, and the index has an entry for each split
refusal-0 : (c : tie.Else-refusal-ne-PASSED) → let a = (start c.before).args in index_refusal a.list.now a.bound (given c.before) a.index.now ≡ 0
refusal-0 c = sym c.fill_refusal-refusal.ensures ∙ c.if-refusal-ne-PASSED.false

long : (c : tie.Else-refusal-ne-PASSED) → length (start c.before).args.index.now ≡ entry_place (split_count (start c.before).args.splits.now)
long c =
    let a = (start c.before).args in
    (fill-passes a.list.now a.bound (given c.before) a.index.now (refusal-0 c)).1

good : (c : tie.Else-refusal-ne-PASSED) → Fillable (start c.before).args.list.now (given c.before)
good c =
    let a = (start c.before).args in
    fillable a.list.now a.bound (given c.before) (fill-passes a.list.now a.bound (given c.before) a.index.now (refusal-0 c)).0

fill-refusal-requires : tie.Need-fill_refusal-refusal-requires
fill-refusal-requires c κs = search rules

same_length : tie.Need-shape_of-index-then-refusal-ne-PASSED
same_length c = search rules

returns : tie.Need-returns-then-refusal-ne-PASSED
returns c =
    let e = c.fill_refusal-refusal.ensures in
    record { refused = e; wrote = sym (rw (ne_eqb _ 0 (λ z. c.if-refusal-ne-PASSED.true (e ∙ z)))) }

slice-aggregate-fill-entries : tie.Need-slice_bounds-fill_entries-end
slice-aggregate-fill-entries c = search rules

fill-entries-requires : tie.Need-fill_entries-requires
fill-entries-requires c κs =
    let pass = c.before.before in
    let g = good pass in
    (g.few, g.ordered, g.classes, omega arith, omega (arith, long pass), omega arith, g.alike)

same-length-2 : tie.Need-shape_of-index
same-length-2 c = search rules

returns-2 : tie.Need-returns
returns-2 c =
    let filled = c.before.before.before in
    let pass = filled.before.before.before in
    let a = (start pass.before).args in
    let v = refusal-0 pass in
    let n = split_count a.splits.now in
    record {
      refused = sym v;
      wrote = filled.fill_entries.ensures.1 ∙ placed-all a.index.now (index_of a.list.now 0 a.splits.now n) (index-length a.list.now 0 a.splits.now n ∙ sym (long pass)) ∙ sym (rw (eq-eqb _ 0 v));
    }

pub fill_spec : {M : Type 1} → statement M
fill_spec = tie.close (tie.spec fill-refusal-requires same_length returns slice-aggregate-fill-entries fill-entries-requires same-length-2 returns-2)
