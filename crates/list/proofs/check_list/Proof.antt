-- `check_list` tests the rules in their order, so each return is the table's verdict. Assumes nothing.
use borrow.Author.Rules.{rules}
use mathlib.Core.Path.{sym, ◌∙◌}
use Rattle.rules.proofs.Rules.{skip, stop, last}
use Rattle.list.proofs.check_list.Statement.{statement}
use Rattle.list.proofs.check_list.Tie as tie

bad-length-requires : tie.Need-bad_length-requires
bad-length-requires c κs = search rules

returns : tie.Need-returns-then-bad_length
returns c = sym (stop 1 _ (sym c.bad_length.ensures ∙ c.if-bad_length.true))

bad-record-requires : tie.Need-bad_record-requires
bad-record-requires c κs = search rules

returns-2 : tie.Need-returns-then-bad_record
returns-2 c = sym (skip 1 _ (sym c.bad_length.ensures ∙ c.if-bad_length.false) ∙ stop 2 _ (sym c.bad_record.ensures ∙ c.if-bad_record.true))

no-start-requires : tie.Need-no_start-requires
no-start-requires c κs = search rules

returns-3 : tie.Need-returns-then-no_start
returns-3 c =
    sym (
    skip 1 _ (sym c.bad_length.ensures ∙ c.if-bad_length.false)
    ∙ skip 2 _ (sym c.bad_record.ensures ∙ c.if-bad_record.false)
    ∙ stop 3 _ (sym c.no_start.ensures ∙ c.if-no_start.true))

returns-4 : tie.Need-returns
returns-4 c =
    sym (
    skip 1 _ (sym c.bad_length.ensures ∙ c.if-bad_length.false)
    ∙ skip 2 _ (sym c.bad_record.ensures ∙ c.if-bad_record.false)
    ∙ last 3 (sym c.no_start.ensures ∙ c.if-no_start.false))

pub check_list_spec : {M : Type 1} → statement M
check_list_spec =
    tie.close
    (tie.spec
    bad-length-requires
    returns
    bad-record-requires
    returns-2
    no-start-requires
    returns-3
    returns-4)
