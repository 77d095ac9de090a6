-- `finish` meets its promise.
use Rattle.std.proofs.Common.{rules, ℕ, ◌≡◌, ap, ◌∙◌, ◌++◌, ◌-◌, ◌*◌, length, take, replicate, arith}
use Rattle.numbers.specs.Number.{digits}
use Rattle.table.specs.Table.{split_size}
use Rattle.table_build.specs.Build.{over}
use Rattle.table_build.specs.inner.Loops.{sets_of}
use Rattle.index_prepare.specs.Prepare.{splits_of}
use Rattle.index_prepare.proofs.Right.{unused}
use Rattle.index_prepare.proofs.Found.{bare-over, bare-front, made-over, fillable}
use Rattle.index_prepare.proofs.finish.Goals as goal

pub fill_all-requires : goal.fill_all-requires
fill_all-requires c =
    let a = c.args in
    let w = c.fill_splits in
    let e : c.clear.new.b ≡ over (splits_of (sets_of a.index.now a.n)) a.splits.now =
    c.clear.ensures ∙ bare-over a.index.now a.n w.new.splits a.splits.now w.ensures.0 (w.ensures.1 (λ i. replicate 8 255) (λ i x l p. let d : x ≡ 18446744073709551615 = search rules in ap (λ (y : ℕ). digits 8 8 y) d ∙ unused)) in
    let f = fillable a.index.now a.n a.list.now a.lows.now (take (split_size * a.n) c.clear.new.b) (bare-front a.index.now a.n c.clear.new.b a.splits.now e) c.requires.5 c.requires.4 c.requires.6 in
    (omega (arith, f.0, c.requires.4), f.1, c.requires.0, omega arith, omega (arith, f.0, c.requires.3, c.requires.4), c.requires.1, f.2)

pub returns : goal.returns
returns c =
    let a = c.args in
    let w = c.fill_splits in
    let e : c.clear.new.b ≡ over (splits_of (sets_of a.index.now a.n)) a.splits.now =
    c.clear.ensures ∙ bare-over a.index.now a.n w.new.splits a.splits.now w.ensures.0 (w.ensures.1 (λ i. replicate 8 255) (λ i x l p. let d : x ≡ 18446744073709551615 = search rules in ap (λ (y : ℕ). digits 8 8 y) d ∙ unused)) in
    let t = bare-front a.index.now a.n c.clear.new.b a.splits.now e in
    let f = fillable a.index.now a.n a.list.now a.lows.now (take (split_size * a.n) c.clear.new.b) t c.requires.5 c.requires.4 c.requires.6 in (
      c.fill_all.ensures.0,
      e,
      c.clear-2.ensures
          ∙ ap (λ (p : ℕ). take p c.fill_all.new.index ++ replicate (length c.fill_all.new.index - p) 0) c.entry_place.ensures
          ∙ made-over a.index.now a.n a.list.now c.fill_all.new.index a.index.now (take (split_size * a.n) c.clear.new.b) _ t f.0 (omega (arith, c.requires.3, c.requires.4)) c.fill_all.ensures.1,
    )
