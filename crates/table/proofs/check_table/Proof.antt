-- `check_table` tests the list, then the sizes, then the entries. Assumes nothing.
use borrow.Author.Rules.{rules}
use mathlib.Core.Path.{sym, ◌∙◌}
use Rattle.table.specs.Table.{Table}
use Rattle.table.proofs.Verdict.{list-first, size-first}
use Rattle.table.proofs.check_table.Statement.{statement}
use Rattle.table.proofs.check_table.Tie as tie

-- the four lists
abbrev table : tie.Start → Table
table s = record { classes = s.args.classes.now; parts = s.args.parts.now; rows = s.args.rows.now; splits = s.args.splits.now }

check-list-requires : tie.Need-check_list-listed-requires
check-list-requires c κs = search rules

returns : tie.Need-returns-then-listed-ne-PASSED
returns c =
    let s = c.before.before.before.before.before.before.before in
    list-first s.args.list.now s.args.bound (table s) c.check_list-listed.result c.check_list-listed.ensures c.if-listed-ne-PASSED.true

size-refusal-requires : tie.Need-size_refusal-sized-requires
size-refusal-requires c κs = search rules

returns-2 : tie.Need-returns-then-sized-ne-PASSED
returns-2 c =
    let s = c.before.before.before.before.before.before.before.before.before in
    size-first s.args.list.now s.args.bound (table s) (sym c.check_list-listed.ensures ∙ c.if-listed-ne-PASSED.false) c.size_refusal-sized.result c.size_refusal-sized.ensures c.if-sized-ne-PASSED.true

entries-refusal-requires : tie.Need-entries_refusal-requires
entries-refusal-requires c κs = (sym c.check_list-listed.ensures ∙ c.if-listed-ne-PASSED.false, sym c.size_refusal-sized.ensures ∙ c.if-sized-ne-PASSED.false)

returns-3 : tie.Need-returns
returns-3 c = c.entries_refusal.ensures

pub check_table_spec : {M : Type 1} → statement M
check_table_spec =
    tie.close
    (tie.spec
    check-list-requires
    returns
    size-refusal-requires
    returns-2
    entries-refusal-requires
    returns-3)
