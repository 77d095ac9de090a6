-- A refusal of 1 to 3, 26, or the first record.
use Rattle.std.proofs.Common.{refl, sym, ◌∙◌}
use Rattle.list_why.proofs.Finding.{list-finds, none-finds, first_finds}
use Rattle.list_why.proofs.find_edge.Goals as goal

pub returns-then-listed-ne-PASSED : goal.returns-then-listed-ne-PASSED
returns-then-listed-ne-PASSED c = list-finds _ _ _ _ _ c.check_list-listed.ensures c.if-listed-ne-PASSED.true refl

pub returns-in-Some : goal.returns-in-Some
returns-in-Some c = first_finds _ _ _ _ _ (sym c.check_list-listed.ensures ∙ c.if-listed-ne-PASSED.false) (sym c.first_edge.ensures ∙ c.in-Some.is) refl

pub returns-in-None : goal.returns-in-None
returns-in-None c = none-finds _ _ _ _ _ (sym c.check_list-listed.ensures ∙ c.if-listed-ne-PASSED.false) (sym c.first_edge.ensures ∙ c.in-None.is) refl refl
