-- The rules are tested in their order, so each return is the table's verdict.
use Rattle.std.proofs.Common.{sym, ◌∙◌}
use Rattle.rules.proofs.Rules.{skip, stop, last}
use Rattle.feed.proofs.piece_refusal.Goals as goal

pub returns-then-other_start : goal.returns-then-other_start
returns-then-other_start c = sym (stop 5 _ (sym c.other_start.ensures ∙ c.if-other_start.true))

pub returns-then-too_long : goal.returns-then-too_long
returns-then-too_long c =
    sym (skip 5 _ (sym c.other_start.ensures ∙ c.if-other_start.false) ∙ stop 6 _ (sym c.too_long.ensures ∙ c.if-too_long.true))

pub returns : goal.returns
returns c =
    sym (skip 5 _ (sym c.other_start.ensures ∙ c.if-other_start.false) ∙ last 6 (sym c.too_long.ensures ∙ c.if-too_long.false))
