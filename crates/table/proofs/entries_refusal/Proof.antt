-- `entries_refusal` tests the rules in their order; rule 13 goes through the rows, which the rules before make steps. Assumes nothing.
use borrow.Author.Rules.{rules}
use borrow.Author.Tests.{not-true, not-false}
use mathlib.Core.Path.{◌≡◌, sym, ap, ◌∙◌}
use mathlib.Core.Bool.{true, not, ◌&&◌}
use Prim.Native.Nat.{ℕ}
use Rattle.rules.specs.Scan.{every}
use Rattle.list.specs.Automaton.{start}
use Rattle.table.specs.Table.{Table, split_count, slots, is_split, good_slots, in_order}
use Rattle.table.proofs.Found.{said}
use Rattle.table.proofs.Verdict.{refused-9, refused-10, refused-11, refused-12, refused-13, passed, few-parts, splits-ordered, splits-below, rows-closed, good_splits, good_rows, good_unions, closed}
use Rattle.table.proofs.entries_refusal.Statement.{statement}
use Rattle.table.proofs.entries_refusal.Tie as tie

-- the four lists
abbrev table : tie.Start → Table
table s = record { classes = s.args.classes.now; parts = s.args.parts.now; rows = s.args.rows.now; splits = s.args.splits.now }

-- the way back to the entry from the first test, and from behind each rule by way of the rule before
abbrev entry : tie.After-splits_good → tie.Start
entry c = c.before.before.before.before.before.before.before.before

abbrev entry-9 : tie.Else-not-splits_good → tie.Start
entry-9 c = entry c.before

abbrev behind-9 : tie.Else-not-rows_good → tie.Else-not-splits_good
behind-9 c = c.before.before

abbrev entry-10 : tie.Else-not-rows_good → tie.Start
entry-10 c = entry-9 (behind-9 c)

abbrev behind-10 : tie.Else-not-unions_good → tie.Else-not-rows_good
behind-10 c = c.before.before

abbrev entry-11 : tie.Else-not-unions_good → tie.Start
entry-11 c = entry-10 (behind-10 c)

abbrev behind-11 : tie.After-is_none → tie.Else-not-unions_good
behind-11 c = c.before.before.before.before

abbrev entry-12 : tie.Else-is_none → tie.Start
entry-12 c = entry-11 (behind-11 c.before)

-- what each test says, and what it has passed
said-9 : (c : tie.After-splits_good) → c.splits_good.result ≡ good_splits (entry c).args.bound (table (entry c))
said-9 c =
    let a = (entry c).args in
    c.splits_good.ensures
    ∙ ap (λ (n : ℕ). every (split_count a.splits.now) (λ i. good_slots n a.bound (slots a.splits.now i) && in_order a.splits.now i)) c.part_count.ensures

passed-9 : (c : tie.Else-not-splits_good) → good_splits (entry-9 c).args.bound (table (entry-9 c)) ≡ true
passed-9 c = sym (said-9 c.before) ∙ not-false _ c.if-not-splits_good.false-raw

passed-10 : (c : tie.Else-not-rows_good) → good_rows (entry-10 c).args.list.now (table (entry-10 c)) ≡ true
passed-10 c = sym c.rows_good.ensures ∙ not-false _ c.if-not-rows_good.false-raw

passed-11 : (c : tie.Else-not-unions_good) → good_unions (table (entry-11 c)) ≡ true
passed-11 c = sym c.unions_good.ensures ∙ not-false _ c.if-not-unions_good.false-raw

said-12 : (c : tie.After-is_none) → is_split (entry-11 (behind-11 c)).args.splits.now (start (entry-11 (behind-11 c)).args.list.now) ≡ not c.is_none.result
said-12 c =
    let a = (entry-11 (behind-11 c)).args in
    ap (is_split a.splits.now) (sym c.start_set.ensures) ∙ said a.splits.now _ c.find_sorted.result c.find_sorted.ensures.0 c.find_sorted.ensures.1 ∙ c.is_none.ensures

passed-12 : (c : tie.Else-is_none) → is_split (entry-12 c).args.splits.now (start (entry-12 c).args.list.now) ≡ true
passed-12 c = said-12 c.before ∙ ap not c.if-is_none.false

said-13 : (c : tie.After-leads) → c.leads.result ≡ closed (entry-12 c.before).args.list.now (table (entry-12 c.before))
said-13 c =
    let s = entry-12 c.before in
    let e = behind-11 c.before.before in
    c.leads.ensures ∙ rows-closed s.args.bound (table s) (passed-9 (behind-9 (behind-10 e))) s.args.list.now (passed-10 (behind-10 e)) (passed-11 e)

class-count-requires : tie.Need-class_count-k-requires
class-count-requires c κs = search rules

part-count-requires : tie.Need-part_count-requires
part-count-requires c κs = search rules

splits-good-requires : tie.Need-splits_good-requires
splits-good-requires c κs = search rules

returns : tie.Need-returns-then-not-splits_good
returns c =
    let s = entry c.before in
    refused-9 s.args.list.now s.args.bound (table s) s.requires.0 s.requires.1 (sym (said-9 c.before) ∙ not-true _ c.if-not-splits_good.true-raw)

rows-good-requires : tie.Need-rows_good-requires
rows-good-requires c κs =
    let s = entry-9 c in
    (c.class_count-k.ensures, few-parts s.args.bound (table s) s.requires.1)

returns-2 : tie.Need-returns-then-not-rows_good
returns-2 c =
    let e = c.before.before in
    let s = entry-9 e in
    refused-10 s.args.list.now s.args.bound (table s) s.requires.0 s.requires.1 (passed-9 e) (sym c.rows_good.ensures ∙ not-true _ c.if-not-rows_good.true-raw)

unions-good-requires : tie.Need-unions_good-requires
unions-good-requires c κs = search rules

returns-3 : tie.Need-returns-then-not-unions_good
returns-3 c =
    let e = c.before.before in
    let s = entry-10 e in
    refused-11 s.args.list.now s.args.bound (table s) s.requires.0 s.requires.1 (passed-9 (behind-9 e)) (passed-10 e) (sym c.unions_good.ensures ∙ not-true _ c.if-not-unions_good.true-raw)

start-set-requires : tie.Need-start_set-requires
start-set-requires c κs = search rules

find-sorted-requires : tie.Need-find_sorted-requires
find-sorted-requires c κs =
    let e = c.before in
    let s = entry-11 e in
    splits-ordered s.args.bound (table s) (passed-9 (behind-9 (behind-10 e)))

is-none-requires : tie.Need-is_none-requires
is-none-requires c κs = search rules

returns-4 : tie.Need-returns-then-is_none
returns-4 c =
    let f = c.before in
    let e = behind-11 f in
    let s = entry-11 e in
    refused-12 s.args.list.now s.args.bound (table s) s.requires.0 s.requires.1 (passed-9 (behind-9 (behind-10 e))) (passed-10 (behind-10 e)) (passed-11 e)
    (said-12 f ∙ ap not c.if-is_none.true)

leads-requires : tie.Need-leads-requires
leads-requires c κs =
    let s = entry-12 c in
    let first = behind-9 (behind-10 (behind-11 c.before)) in
    (first.class_count-k.ensures, splits-below s.args.bound (table s) (passed-9 first) (few-parts s.args.bound (table s) s.requires.1), splits-ordered s.args.bound (table s) (passed-9 first))

returns-5 : tie.Need-returns-then-not-leads
returns-5 c =
    let e = c.before.before in
    let f = behind-11 e.before in
    let s = entry-12 e in
    refused-13 s.args.list.now s.args.bound (table s) s.requires.0 s.requires.1 (passed-9 (behind-9 (behind-10 f))) (passed-10 (behind-10 f)) (passed-11 f) (passed-12 e) (sym (said-13 c.before) ∙ not-true _ c.if-not-leads.true-raw)

returns-6 : tie.Need-returns
returns-6 c =
    let e = c.before.before in
    let f = behind-11 e.before in
    let s = entry-12 e in
    passed s.args.list.now s.args.bound (table s) s.requires.0 s.requires.1 (passed-9 (behind-9 (behind-10 f))) (passed-10 (behind-10 f)) (passed-11 f) (passed-12 e) (sym (said-13 c.before) ∙ not-false _ c.if-not-leads.false-raw)

pub entries_refusal_spec : {M : Type 1} → statement M
entries_refusal_spec =
    tie.close
    (tie.spec
    class-count-requires
    part-count-requires
    splits-good-requires
    returns
    rows-good-requires
    returns-2
    unions-good-requires
    returns-3
    start-set-requires
    find-sorted-requires
    is-none-requires
    returns-4
    leads-requires
    returns-5
    returns-6)
