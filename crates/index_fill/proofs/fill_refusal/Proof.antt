-- `fill_refusal` tests the list, the sizes, the index and the table, so each return is the verdict of their rules. Assumes nothing.
use borrow.Author.Rules.{rules}
use mathlib.Core.Path.{◌≡◌, sym, ◌∙◌}
use Rattle.rules.specs.Rules.{verdict}
use Rattle.rules.proofs.Rules.{verdict-refused}
use Rattle.list.specs.List.{list_rules}
use Rattle.table.specs.Table.{Table, table, size_rules}
use Rattle.index_fill.proofs.Refusing.{sizes-few, refused-sizes, refused-index, table-left}
use Rattle.index_fill.proofs.fill_refusal.Statement.{statement}
use Rattle.index_fill.proofs.fill_refusal.Tie as tie

-- the way back from the check of the list to the entry, and the table that is given
abbrev entry : tie.After-check_list-listed → tie.Start
entry c = c.before.before.before.before.before.before.before

abbrev given : tie.After-check_list-listed → Table
given c =
    let a = (entry c).args in
    table a.classes.now a.parts.now a.rows.now a.splits.now

-- the list passes; the sizes pass
list-0 : (c : tie.Else-listed-ne-PASSED) → verdict (list_rules (entry c.before).args.list.now) ≡ 0
list-0 c = sym c.check_list-listed.ensures ∙ c.if-listed-ne-PASSED.false

sizes-0 : (c : tie.Else-sized-ne-PASSED) → verdict (size_rules (entry c.before.before.before).args.bound (given c.before.before.before)) ≡ 0
sizes-0 c = sym c.size_refusal-sized.ensures ∙ c.if-sized-ne-PASSED.false

check-list-requires : tie.Need-check_list-listed-requires
check-list-requires c κs = search rules

returns : tie.Need-returns-then-listed-ne-PASSED
returns c =
    let e = c.check_list-listed.ensures in
    e ∙ sym (verdict-refused (list_rules (entry c.before).args.list.now) _ (λ z. c.if-listed-ne-PASSED.true (e ∙ z)))

size-refusal-requires : tie.Need-size_refusal-sized-requires
size-refusal-requires c κs = search rules

returns-2 : tie.Need-returns-then-sized-ne-PASSED
returns-2 c =
    let pass = c.before.before in
    let a = (entry pass.before).args in
    let e = c.size_refusal-sized.ensures in
    e ∙ refused-sizes a.list.now a.bound (given pass.before) a.index.now (list-0 pass) (λ z. c.if-sized-ne-PASSED.true (e ∙ z))

wrong-index-requires : tie.Need-wrong_index-requires
wrong-index-requires c κs = let listed = c.before.before.before in sizes-few (entry listed).args.bound (given listed) (sizes-0 c)

returns-3 : tie.Need-returns-then-wrong_index
returns-3 c =
    let sized = c.before.before in
    let pass = sized.before.before in
    let a = (entry pass.before).args in
    refused-index a.list.now a.bound (given pass.before) a.index.now (list-0 pass) (sizes-0 sized) (sym c.wrong_index.ensures ∙ c.if-wrong_index.true)

check-table-requires : tie.Need-check_table-requires
check-table-requires c κs = search rules

returns-4 : tie.Need-returns
returns-4 c =
    let sized = c.before.before.before in
    let pass = sized.before.before in
    let a = (entry pass.before).args in
    c.check_table.ensures
    ∙ table-left a.list.now a.bound (given pass.before) a.index.now (list-0 pass) (sizes-0 sized) (sym c.wrong_index.ensures ∙ c.if-wrong_index.false)

pub fill_refusal_spec : {M : Type 1} → statement M
fill_refusal_spec =
    tie.close
    (tie.spec
    check-list-requires
    returns
    size-refusal-requires
    returns-2
    wrong-index-requires
    returns-3
    check-table-requires
    returns-4)
