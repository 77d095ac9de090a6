-- `rising_refusal` tests the sizes, and then the order of the splits. Assumes nothing.
use borrow.Author.Rules.{rules}
use borrow.Author.Tests.{not-true, not-false}
use mathlib.Core.Path.{sym, ◌∙◌}
use Rattle.table.specs.Table.{Table}
use Rattle.table.proofs.Verdict.{size-refuses, unordered-refuses, ordered-passes}
use Rattle.table.proofs.rising_refusal.Statement.{statement}
use Rattle.table.proofs.rising_refusal.Tie as tie

-- the four lists
abbrev table : tie.Start → Table
table s = record { classes = s.args.classes.now; parts = s.args.parts.now; rows = s.args.rows.now; splits = s.args.splits.now }

size-refusal-requires : tie.Need-size_refusal-sized-requires
size-refusal-requires c κs = search rules

returns : tie.Need-returns-then-sized-ne-PASSED
returns c =
    let s = c.before.before.before.before.before.before in
    size-refuses s.args.bound (table s) _ c.size_refusal-sized.ensures c.if-sized-ne-PASSED.true

ordered-requires : tie.Need-ordered-requires
ordered-requires c κs = search rules

returns-2 : tie.Need-returns-then-not-ordered
returns-2 c =
    let e = c.before.before in
    let s = e.before.before.before.before.before.before in
    unordered-refuses s.args.bound (table s) (sym e.size_refusal-sized.ensures ∙ e.if-sized-ne-PASSED.false) (sym c.ordered.ensures ∙ not-true _ c.if-not-ordered.true-raw)

returns-3 : tie.Need-returns
returns-3 c =
    let e = c.before.before in
    let s = e.before.before.before.before.before.before in
    ordered-passes s.args.bound (table s) (sym e.size_refusal-sized.ensures ∙ e.if-sized-ne-PASSED.false) (sym c.ordered.ensures ∙ not-false _ c.if-not-ordered.false-raw)

pub rising_refusal_spec : {M : Type 1} → statement M
rising_refusal_spec = tie.close (tie.spec size-refusal-requires returns ordered-requires returns-2 returns-3)
