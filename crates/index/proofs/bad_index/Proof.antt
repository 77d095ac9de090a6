-- `bad_index` tests one list after the other, so each return is the definition where the test before it passed. Assumes nothing.
use mathlib.Core.Path.{sym, ◌∙◌}
use native.Mathlib.Omega.{arith}
use Rattle.index.specs.Entry.{bad_index}
use Rattle.index.proofs.Sizes.{few-splits}
use Rattle.index.proofs.bad_index.Statement.{statement}
use Rattle.index.proofs.bad_index.Tie as tie

bad-count-requires : tie.Need-bad_count-requires
bad-count-requires c κs = (omega arith, omega arith)

returns : tie.Need-returns-then-bad_count
unfolding bad_index
returns c = sym (rw (sym c.bad_count.ensures ∙ c.if-bad_count.true))

wrong-index-requires : tie.Need-wrong_index-requires
wrong-index-requires c κs = few-splits _ (sym c.bad_count.ensures ∙ c.if-bad_count.false)

returns-2 : tie.Need-returns
unfolding bad_index
returns-2 c = c.wrong_index.ensures ∙ sym (rw (sym c.bad_count.ensures ∙ c.if-bad_count.false))

pub bad_index_spec : {M : Type 1} → statement M
bad_index_spec = tie.close (tie.spec bad-count-requires returns wrong-index-requires returns-2)
