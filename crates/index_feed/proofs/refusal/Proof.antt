-- `refusal` refuses a record of another size with 4, and tests the others as the feed does. Assumes nothing.
use native.Mathlib.Omega.{arith}
use mathlib.Core.Path.{sym, ◌∙◌}
use Rattle.list_flow.specs.Flow.{frontier_of}
use Rattle.index_feed.proofs.Finding.{entry_whole, held-rules, sought-rules}
use Rattle.index_feed.proofs.Saving.{unsized}
use Rattle.index_feed.proofs.refusal.Statement.{statement}
use Rattle.index_feed.proofs.refusal.Tie as tie

-- the way back from the hint's test to the entry
abbrev entry : tie.After-holds_at → tie.Start
entry c = c.before.before.before.before.before.before

returns : tie.Need-returns-then-flow-ne-FLOW_SIZE
returns c =
    let a = c.args in
    sym (unsized a.splits.now a.index.now a.hint a.flow.now a.start a.piece.now c.if-flow-ne-FLOW_SIZE.true)

holds-at-requires : tie.Need-holds_at-requires
holds-at-requires c κs = omega (arith, c.if-flow-ne-FLOW_SIZE.false)

held-refusal-requires : tie.Need-held_refusal-requires
held-refusal-requires c κs =
    let a = (entry c.before).args in
    entry_whole a.splits.now a.index.now a.hint (frontier_of a.flow.now) (sym c.holds_at.ensures ∙ c.if-holds_at.true)

returns-2 : tie.Need-returns-then-holds_at
returns-2 c =
    let t = c.before in
    let a = (entry t.before).args in
    c.held_refusal.ensures ∙ held-rules a.splits.now a.index.now a.hint a.flow.now a.start a.piece.now (sym t.holds_at.ensures ∙ t.if-holds_at.true)

sought-refusal-requires : tie.Need-sought_refusal-requires
sought-refusal-requires c κs = omega (arith, c.if-flow-ne-FLOW_SIZE.false)

returns-3 : tie.Need-returns
returns-3 c =
    let t = c.before in
    let a = (entry t.before).args in
    c.sought_refusal.ensures ∙ sought-rules a.splits.now a.index.now a.hint a.flow.now a.start a.piece.now (sym t.holds_at.ensures ∙ t.if-holds_at.false)

pub refusal_spec : {M : Type 1} → statement M
refusal_spec =
    tie.close (tie.spec returns holds-at-requires held-refusal-requires returns-2 sought-refusal-requires returns-3)
