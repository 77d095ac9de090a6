-- `checked` tests a hint that holds by its flag, and one that fails by all states and the lists. Assumes nothing.
use mathlib.Core.Path.{sym, ◌∙◌}
use Rattle.list_flow.specs.Flow.{frontier_of}
use Rattle.index_feed.proofs.Finding.{entry_whole, held-rules, sought-rules}
use Rattle.index_feed.proofs.checked.Statement.{statement}
use Rattle.index_feed.proofs.checked.Tie as tie

held-refusal-requires : tie.Need-held_refusal-requires
held-refusal-requires c κs =
    let s = c.before.before.before.before.before in
    let a = s.args in
    entry_whole a.splits.now a.index.now a.hint (frontier_of a.flow.now) (sym s.requires.0 ∙ c.if-held.true)

returns : tie.Need-returns-then-held
returns c =
    let t = c.before in
    let s = t.before.before.before.before.before in
    let a = s.args in
    c.held_refusal.ensures ∙ held-rules a.splits.now a.index.now a.hint a.flow.now a.start a.piece.now (sym s.requires.0 ∙ t.if-held.true)

unheld-refusal-requires : tie.Need-unheld_refusal-requires
unheld-refusal-requires c κs = c.requires.1

returns-2 : tie.Need-returns
returns-2 c =
    let t = c.before in
    let s = t.before.before.before.before.before in
    let a = s.args in
    c.unheld_refusal.ensures ∙ sought-rules a.splits.now a.index.now a.hint a.flow.now a.start a.piece.now (sym s.requires.0 ∙ t.if-held.false)

pub checked_spec : {M : Type 1} → statement M
checked_spec = tie.close (tie.spec held-refusal-requires returns unheld-refusal-requires returns-2)
