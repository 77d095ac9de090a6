-- So many halvings as are left lead from `lo` and `hi` to where all of them lead.
use Rattle.std.proofs.Common.{◌≡◌, ℕ, ◌+◌, ◌*◌, ◌/◌, ◌^◌, ◌<◌, sym, ◌∙◌, arith}
use Rattle.std.specs.declared.cmp.Ordering.TheVariants.{Less, Equal, Greater}
use borrow.Author.Tests.{eq-eqb}
use Rattle.numbers.specs.Number.{compare}
use Rattle.sets.specs.Set.{set_words, set_size, set_of, set_bytes}
use Rattle.sets.proofs.Sets.{words-lt}
use Rattle.sets.proofs.Whole.{valid-of}
use Rattle.table.specs.Table.{split_set}
use Rattle.table.proofs.Halving.{split-lt, compared_same, compared-before}
use Rattle.index.proofs.Halving.{other-here, not-less, seeking-start, seeking-here, seeking-right, seeking-left, seeking-none, found-some, found-none}
use Rattle.index.proofs.find.Goals as goal

pub loop-lo-init : goal.loop-lo-init
loop-lo-init c = seeking-start c.args.splits.now (set_of c.args.f) c.split_count-hi.result c.split_count-hi.ensures

pub returns-in-Equal : goal.returns-in-Equal
unfolding split_set
returns-in-Equal c =
    let S = c.args.splits.now in
    let F = set_of c.args.f in
    let m : ℕ = (c.loop-lo.lo + c.loop-lo.hi) / 2 in
    let small : F < 2 ^ (8 * set_size) = words-lt set_words c.args.f.words (valid-of c.args.f _ c.well_formed.1.0) in
    found-some S F m (omega (arith, c.loop-lo.invariant.order, c.loop-lo.invariant.most))
    (seeking-here S F c.loop-lo.lo c.loop-lo.hi c.loop-lo.invariant c.loop-lo-test.true
    (eq-eqb _ _ (compared_same (split_set S m) F (split-lt S (λ i. (c.type_inv.splits i).fits) m) small (sym c.in-Equal.ensures))))

pub loop-lo-preserved-in-Less : goal.loop-lo-preserved-in-Less
unfolding split_set
loop-lo-preserved-in-Less c =
    let S = c.args.splits.now in
    let F = set_of c.args.f in
    let m = (c.loop-lo.lo + c.loop-lo.hi) / 2 in
    let small : F < 2 ^ (8 * set_size) = words-lt set_words c.args.f.words (valid-of c.args.f _ c.well_formed.1.0) in
    let met : compare (set_bytes (split_set S m)) (set_bytes F) ≡ Less = sym c.in-Less.ensures in
    seeking-right S F c.loop-lo.lo c.loop-lo.hi c.loop-lo.invariant c.loop-lo-test.true (other-here S F c.loop-lo.lo c.loop-lo.hi (λ z. let e : Less ≡ Equal = sym met ∙ z in cc))
    (compared-before (split_set S m) F (split-lt S (λ i. (c.type_inv.splits i).fits) m) small met)

pub loop-lo-preserved : goal.loop-lo-preserved
unfolding split_set
loop-lo-preserved c =
    let S = c.args.splits.now in
    let F = set_of c.args.f in
    let m = (c.loop-lo.lo + c.loop-lo.hi) / 2 in
    let met : compare (set_bytes (split_set S m)) (set_bytes F) ≡ Greater = sym c.in-Greater.ensures in
    seeking-left S F c.loop-lo.lo c.loop-lo.hi c.loop-lo.invariant c.loop-lo-test.true (other-here S F c.loop-lo.lo c.loop-lo.hi (λ z. let e : Greater ≡ Equal = sym met ∙ z in cc))
    (not-less S F c.loop-lo.lo c.loop-lo.hi (λ z. let e : Greater ≡ Less = sym met ∙ z in cc))

pub returns : goal.returns
returns c =
    found-none c.args.splits.now (set_of c.args.f) (seeking-none c.args.splits.now (set_of c.args.f) c.loop-lo.lo c.loop-lo.hi c.loop-lo.invariant (omega arith))
