-- `go` runs from where the call begins, and answers where that ends. Assumes nothing.
use Rattle.std.proofs.Common.{◌≡◌, ℕ, ◌+◌, Bool, cond, eqb, refl, ap, ap₂, ◌∙◌, arith}
use Rattle.list_flow.specs.Flow.{frontier_of, rows_of, flow_bytes}
use Rattle.list_flow.proofs.Records.{good-flow}
use Rattle.table.specs.Table.{split_set}
use Rattle.index.specs.Entry.{split_at}
use Rattle.index.specs.Stand.{began}
use Rattle.index.proofs.Sizes.{lists-said, short}
use Rattle.index.proofs.Lawful.{stand-passes}
use Rattle.index_feed.proofs.Feeding.{begins, some-entry, at_place, stood, ends}
use Rattle.index_feed.proofs.Saving.{kept}
use Rattle.index_feed.proofs.go.Goals as goal

pub begin-first-requires : goal.begin-first-requires
begin-first-requires c =
    let a = c.args in
    let S = a.splits.now in
    let X = a.index.now in
    let R = a.flow.now in
    let k = stand-passes S X a.hint R a.start a.piece.now c.requires.1 in
    omega (arith, (good-flow R k.0).0)

pub run_from-strode-requires : goal.run_from-strode-requires
run_from-strode-requires c =
    let a = c.args in
    let S = a.splits.now in
    let X = a.index.now in
    let R = a.flow.now in
    let k = stand-passes S X a.hint R a.start a.piece.now c.requires.1 in
    let b = begins S X a.hint (frontier_of R) a.held c.begin-first.result c.requires.0 c.begin-first.ensures k.3 in
    (omega (arith, k.1, k.2), short S X (lists-said S X k.3), b.1)

pub split_at-split-requires : goal.split_at-split-requires
split_at-split-requires c =
    let a = c.args in
    let S = a.splits.now in
    let X = a.index.now in
    let R = a.flow.now in
    let k = stand-passes S X a.hint R a.start a.piece.now c.requires.1 in
    some-entry S X k.3

pub overflow_add-start : goal.overflow_add-start
overflow_add-start c =
    let a = c.args in
    let S = a.splits.now in
    let X = a.index.now in
    let R = a.flow.now in
    let k = stand-passes S X a.hint R a.start a.piece.now c.requires.1 in
    let b = begins S X a.hint (frontier_of R) a.held c.begin-first.result c.requires.0 c.begin-first.ensures k.3 in
    let r = rw (b.0, ← c.stands_of-stands.ensures) at c.run_from-strode.ensures in
    omega (arith, k.1, k.2, r.upto)

pub save-requires : goal.save-requires
save-requires c =
    let a = c.args in
    let S = a.splits.now in
    let X = a.index.now in
    let R = a.flow.now in
    let k = stand-passes S X a.hint R a.start a.piece.now c.requires.1 in
    let b = begins S X a.hint (frontier_of R) a.held c.begin-first.result c.requires.0 c.begin-first.ensures k.3 in
    let r = rw (b.0, ← c.stands_of-stands.ensures) at c.run_from-strode.ensures in
    (omega (arith, c.split_count-n.ensures), (good-flow R k.0).0, omega (arith, k.2, r.upto, r.few, (good-flow R k.0).2))

pub halted-requires : goal.halted-requires
halted-requires c =
    let a = c.args in
    let S = a.splits.now in
    let X = a.index.now in
    let R = a.flow.now in
    let k = stand-passes S X a.hint R a.start a.piece.now c.requires.1 in
    some-entry S X k.3

pub returns : goal.returns
returns c =
    let a = c.args in
    let S = a.splits.now in
    let X = a.index.now in
    let R = a.flow.now in
    let k = stand-passes S X a.hint R a.start a.piece.now c.requires.1 in
    let b = begins S X a.hint (frontier_of R) a.held c.begin-first.result c.requires.0 c.begin-first.ensures k.3 in
    let r = rw (b.0, ← c.stands_of-stands.ensures) at c.run_from-strode.ensures in
    let s = c.stands_of-stands.result in
    let F = frontier_of R in
    let n = rows_of R + s.rows in
    let i = c.split_at-split.result in
    let at : i ≡ split_at S X s.place = at_place S X c.split_count-n.result s.place i c.split_count-n.ensures c.split_at-split.ensures in
    let saved =
    ap₂ (λ (G k : ℕ). flow_bytes G (k + s.bytes) n)
    (ap (λ (m : Bool). cond m (split_set S i) F) c.moves-moved.ensures
    ∙ kept S X a.hint F i s.bytes a.held c.requires.0
    ∙ ap (λ (i : ℕ). cond (eqb s.bytes 0) F (split_set S i)) at) k.1 in (
      ends S X a.hint R a.start a.piece.now a.pairs.now k.1 (began S X a.hint F) refl _ s _ r c.requires.1 _
          c.halted.ensures refl refl refl _ (c.save.ensures ∙ saved),
      at ∙ stood S X a.hint R a.start a.piece.now a.pairs.now k.1 (began S X a.hint F) refl _ s _ r c.requires.1,
    )
