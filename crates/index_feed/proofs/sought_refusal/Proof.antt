-- `sought_refusal` reads the record's set and asks the index, tests the flow, then the lists, so each return is the verdict of their rules. Assumes nothing.
use borrow.Author.Rules.{rules}
use mathlib.Core.Path.{◌≡◌, refl, sym, ap, ◌∙◌}
use mathlib.Core.Bool.{Bool}
use mathlib.Core.List.{List, [], ◌∷◌, ◌++◌}
use Rattle.rules.specs.Rules.{Rule, verdict}
use Rattle.rules.proofs.Rules.{verdict-then, verdict-refused, stop, last}
use Rattle.list_flow.specs.Flow.{frontier_of, flow_rules}
use Rattle.index.specs.Entry.{known_in, bad_index}
use Rattle.index_feed.proofs.sought_refusal.Statement.{statement}
use Rattle.index_feed.proofs.sought_refusal.Tie as tie

-- the way back from the check of the flow to the entry; its rules
abbrev entry : tie.After-flow_refusal-met → tie.Start
entry c = c.before.before.before.before.before.before.before

abbrev its-rules : tie.After-flow_refusal-met → List Rule
its-rules c = let a = (entry c).args in flow_rules (known_in a.index.now (frontier_of a.flow.now)) a.flow.now a.start a.piece.now

said : (c : tie.After-flow_refusal-met) → c.flow_refusal-met.result ≡ verdict (its-rules c)
said c =
    let a = (entry c).args in
    c.flow_refusal-met.ensures
    ∙ ap (λ (k : Bool). verdict (flow_rules k a.flow.now a.start a.piece.now)) (c.known-known.ensures ∙ ap (known_in a.index.now) c.from_bytes.ensures)

from-bytes-requires : tie.Need-from_bytes-requires
from-bytes-requires c κs = search rules

known-requires : tie.Need-known-known-requires
known-requires c κs = search rules

flow-refusal-requires : tie.Need-flow_refusal-met-requires
flow-refusal-requires c κs = search rules

returns : tie.Need-returns-then-met-ne-PASSED
returns c = let e = said c.before in e ∙ sym (verdict-refused (its-rules c.before) _ (λ z. c.if-met-ne-PASSED.true (e ∙ z)))

-- where the flow passes, rule 8 is left
left : (c : tie.Else-met-ne-PASSED) → let a = (entry c.before).args in
    verdict ((8, bad_index a.splits.now a.index.now) ∷ []) ≡ verdict (its-rules c.before ++ ((8, bad_index a.splits.now a.index.now) ∷ []))
left c = sym (verdict-then (its-rules c.before) _ refl (sym (said c.before) ∙ c.if-met-ne-PASSED.false))

bad-index-requires : tie.Need-bad_index-requires
bad-index-requires c κs = search rules

returns-2 : tie.Need-returns-then-bad_index
returns-2 c = sym (stop 8 [] (sym c.bad_index.ensures ∙ c.if-bad_index.true)) ∙ left c.before.before

returns-3 : tie.Need-returns
returns-3 c = sym (last 8 (sym c.bad_index.ensures ∙ c.if-bad_index.false)) ∙ left c.before.before

pub sought_refusal_spec : {M : Type 1} → statement M
sought_refusal_spec =
    tie.close (tie.spec from-bytes-requires known-requires flow-refusal-requires returns bad-index-requires returns-2 returns-3)
