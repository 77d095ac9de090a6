-- `feed` meets its promise: a refusal, or a run and its end. Assumes nothing.
use borrow.Author.Rules.{rules}
use mathlib.Core.Path.{◌≡◌, sym, ◌∙◌}
use mathlib.Core.List.{List}
use native.Mathlib.Omega.{arith}
use Rattle.rules.specs.Rules.{Rule, verdict}
use Rattle.feed.proofs.Looping.{answers-refused}
use Rattle.index.specs.Stand.{indexed, stand_layout, stand_rules}
use Rattle.index_feed.proofs.Feeding.{hint-kept}
use Rattle.index_feed.proofs.Saving.{unsized}
use Rattle.index_feed.proofs.feed.Statement.{statement}
use Rattle.index_feed.proofs.feed.Tie as tie

-- the way back from the check to the entry; the rules that are given
abbrev entry : tie.After-checked-refusal → tie.Start
entry c = c.before.before.before.before.before.before.before.before

abbrev its-rules : tie.After-checked-refusal → List Rule
its-rules c =
    let a = (entry c).args in
    stand_rules a.splits.now a.index.now a.hint a.flow.now a.start a.piece.now

refused-requires : tie.Need-refused-requires
refused-requires c κs = search rules

returns : tie.Need-returns-then-flow-ne-FLOW_SIZE
returns c =
    let a = c.args in
    let e = unsized a.splits.now a.index.now a.hint a.flow.now a.start a.piece.now c.if-flow-ne-FLOW_SIZE.true in
    let n : verdict (stand_rules a.splits.now a.index.now a.hint a.flow.now a.start a.piece.now) ≡ 0 → ⊥ = λ z. omega (arith, z, e) in (
      answers-refused (indexed a.splits.now a.index.now) (stand_layout a.splits.now a.index.now a.hint) a.flow.now a.piece.now a.pairs.now
          (stand_rules a.splits.now a.index.now a.hint a.flow.now a.start a.piece.now) _ n (rw (← e) at c.refused.ensures.0),
      c.refused.ensures.1 ∙ hint-kept a.splits.now a.index.now a.hint a.flow.now a.start a.piece.now a.pairs.now n,
    )

holds-at-requires : tie.Need-holds_at-held-requires
holds-at-requires c κs = omega (arith, c.if-flow-ne-FLOW_SIZE.false)

checked-requires : tie.Need-checked-refusal-requires
checked-requires c κs = (c.holds_at-held.ensures, omega (arith, c.if-flow-ne-FLOW_SIZE.false))

refused-requires-2 : tie.Need-refused-requires-then-refusal-ne-PASSED
refused-requires-2 c κs = search rules

same_length : tie.Need-shape_of-flow-then-refusal-ne-PASSED
same_length c = search rules

returns-2 : tie.Need-returns-then-refusal-ne-PASSED
returns-2 c =
    let check = c.before.before in
    let a = (entry check).args in
    let n : verdict (its-rules check) ≡ 0 → ⊥ = λ z. c.if-refusal-ne-PASSED.true (check.checked-refusal.ensures ∙ z) in (
      answers-refused (indexed a.splits.now a.index.now) (stand_layout a.splits.now a.index.now a.hint) a.flow.now a.piece.now a.pairs.now (its-rules check) _ n
          (rw check.checked-refusal.ensures at c.refused-then-refusal-ne-PASSED.ensures.0),
      c.refused-then-refusal-ne-PASSED.ensures.1 ∙ hint-kept a.splits.now a.index.now a.hint a.flow.now a.start a.piece.now a.pairs.now n,
    )

go-requires : tie.Need-go-requires
go-requires c κs = let e = c.before.before in (e.holds_at-held.ensures, sym e.checked-refusal.ensures ∙ e.if-refusal-ne-PASSED.false)

same-length-2 : tie.Need-shape_of-flow
same-length-2 c = search rules

same-length-3 : tie.Need-shape_of-pairs
same-length-3 c = search rules

returns-3 : tie.Need-returns
returns-3 c = c.go.ensures

pub feed_spec : {M : Type 1} → statement M
feed_spec =
    tie.close
    (tie.spec
    refused-requires
    returns
    holds-at-requires
    checked-requires
    refused-requires-2
    same_length
    returns-2
    go-requires
    same-length-2
    same-length-3
    returns-3)
