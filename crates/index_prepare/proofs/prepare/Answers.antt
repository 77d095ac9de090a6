-- `prepare` meets its promise.
use Rattle.std.proofs.Common.{◌≡◌, refl, sym, ◌∙◌, false, [], arith}
use Rattle.list.specs.List.{list_refusal}
use Rattle.table_build.specs.inner.Loops.{sets_of}
use Rattle.table_build.proofs.Exploring.{sets-length}
use Rattle.index_prepare.specs.Prepare.{splits_of, made_index, too_short}
use Rattle.index_prepare.proofs.Found.{over-same, bare-length, made-length}
use Rattle.index_prepare.proofs.Ends.{refused-list, refused-short, refused-limit, prepared}
use Rattle.index_prepare.proofs.prepare.Goals.{Else-too_short}
use Rattle.index_prepare.proofs.prepare.Goals as goal

-- past the first two tests
good : (c : Else-too_short) → list_refusal c.args.list.now ≡ 0
good c = sym c.check_list-listed.ensures ∙ c.if-listed-ne-PASSED.false

long : (c : Else-too_short) → too_short c.args.splits.now c.args.index.now ≡ false
unfolding too_short
long c = sym c.too_short.ensures ∙ c.if-too_short.false

pub returns-then-listed-ne-PASSED : goal.returns-then-listed-ne-PASSED
returns-then-listed-ne-PASSED c =
    let a = c.args in
    rw c.refused.ensures (refused-list a.list.now a.splits.now a.index.now c.check_list-listed.result c.check_list-listed.ensures c.if-listed-ne-PASSED.true)

pub returns-then-too_short : goal.returns-then-too_short
unfolding too_short
returns-then-too_short c =
    let a = c.args in
    rw c.refused-then-too_short.ensures (refused-short a.list.now a.splits.now a.index.now (sym c.check_list-listed.ensures ∙ c.if-listed-ne-PASSED.false) (sym c.too_short.ensures ∙ c.if-too_short.true))

pub returns-in_default : goal.returns-in_default
returns-in_default c =
    let a = c.args in
    let g = c.in_default.ensures.2 in
    let e = (goal.at.returns-in_default c).Else-too_short in
    rw c.refused-in_default.ensures (refused-limit a.list.now a.splits.now a.index.now (good e) (long e) (g.many refl) _ _
    (c.clear.ensures ∙ over-same [] c.seek.new.splits a.splits.now g.splits)
    (c.clear-in_default.ensures ∙ over-same [] c.seek.new.index a.index.now g.index))

pub returns : goal.returns
returns c =
    let a = c.args in
    let g = c.in-Some.ensures.2 in
    let f = c.finish.ensures in
    let e = (goal.at.returns c).Else-too_short in
    let P = c.seek.new.index in
    let n = c.in-Some.n in
    let xs = sets_of P n in
    prepared a.list.now a.splits.now a.index.now (good e) (long e) xs (omega (arith, sets-length P n, g.few refl)) (g.reached refl) _ _ (sym (bare-length P n)) (c.entry_place.ensures ∙ sym (made-length P n a.list.now)) _ _
    (f.1 ∙ over-same (splits_of xs) c.seek.new.splits a.splits.now g.splits)
    (f.2 ∙ over-same (made_index a.list.now xs) P a.index.now g.index)
