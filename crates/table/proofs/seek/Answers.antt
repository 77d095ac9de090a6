-- `seek` halves: all sets below `lo` come before the one sought, and it comes before all from `hi` on.
use Rattle.std.proofs.Common.{◌≡◌, ℕ, refl, sym, ◌∙◌, ◌+◌, ◌*◌, ◌/◌, ◌≤◌, ◌<◌, ◌^◌, length, get_or, Fits, w64, rules, arith}
use native.Mathlib.Nat.{mul-le-mul_left}
use Rattle.std.specs.declared.cmp.Ordering.TheVariants.{Less, Equal, Greater}
use Rattle.numbers.specs.Number.{compare}
use Rattle.sets.specs.Set.{set_words, set_size, set_of, set_at, set_bytes}
use Rattle.sets.proofs.Sets.{words-lt, set-at-lt}
use Rattle.numbers.proofs.Halving.{between_start, compared-right, compared-left}
use Rattle.table.proofs.Halving.{set_strings, compared_same, same_length}
use Rattle.table.proofs.seek.Goals.{In-loop-lo, After-compare_whole}
use Rattle.table.proofs.seek.Goals as goal

-- the place in the middle, which has a set
abbrev middle : In-loop-lo → ℕ
middle c = (c.loop-lo.lo + c.loop-lo.hi) / 2

inside : (c : In-loop-lo) → middle c < c.args.n
inside c = omega (arith, c.loop-lo.invariant.order, c.loop-lo.invariant.most, c.loop-lo-test.true)

room : (c : In-loop-lo) → c.args.size * middle c + set_size ≤ length c.args.b.now
room c = omega (arith, c.requires.0, c.requires.1, mul-le-mul_left c.args.size (inside c))

few : (c : In-loop-lo) → set_size * c.args.n ≤ length c.args.b.now
few c = omega (arith, c.requires.1, mul-le-mul_left c.args.n c.requires.0)

-- the set that is sought is one
small : (c : After-compare_whole) → set_of c.args.f < 2 ^ (8 * set_size)
small c =
    let ws = c.args.f.words in
    words-lt set_words ws (record { long = (let l : length ws ≡ set_words = search rules in l); small = λ i. let f : Fits w64 (get_or ws i 0) = search rules in f.fits })

pub loop-lo-init : goal.loop-lo-init
loop-lo-init c = between_start (set_strings c.args.b.now c.args.size) c.args.n (set_bytes (set_of c.args.f)) c.args.n refl

pub overflow_add-mid : goal.overflow_add-mid
overflow_add-mid c = omega (arith, few (goal.at.overflow_add-mid c).In-loop-lo, c.loop-lo.invariant.order, c.loop-lo.invariant.most)

pub overflow_mul-size : goal.overflow_mul-size
overflow_mul-size c = omega (arith, room (goal.at.overflow_mul-size c).In-loop-lo)

pub compare_whole-requires : goal.compare_whole-requires
compare_whole-requires c = room (goal.at.compare_whole-requires c).In-loop-lo

pub returns-in-Equal : goal.returns-in-Equal
returns-in-Equal c =
    let i = goal.at.returns-in-Equal c in
    let S = set_at c.args.b.now (c.args.size * middle i.In-loop-lo) in
    record {
      there = (inside i.In-loop-lo, compared_same S (set_of c.args.f) (set-at-lt c.args.b.now _ (λ k. (c.type_inv.b k).fits)) (small i.After-compare_whole) (sym c.in-Equal.ensures));
      none = tt;
    }

pub overflow_add-lo : goal.overflow_add-lo
overflow_add-lo c = let i = (goal.at.overflow_add-lo c).In-loop-lo in omega (arith, inside i, few i)

pub loop-lo-preserved-in-Less : goal.loop-lo-preserved-in-Less
loop-lo-preserved-in-Less c =
    let i = (goal.at.loop-lo-preserved-in-Less c).In-loop-lo in
    let a = c.args in
    let l = c.loop-lo in
    compared-right (set_strings a.b.now a.size) a.n c.requires.2 (set_bytes (set_of a.f)) l.lo l.hi (middle i) l.invariant
    (omega arith) (omega arith) (same_length (set_at a.b.now (a.size * middle i)) (set_of a.f)) (sym c.in-Less.ensures)

pub loop-lo-preserved : goal.loop-lo-preserved
loop-lo-preserved c =
    let i = (goal.at.loop-lo-preserved c).In-loop-lo in
    let a = c.args in
    let l = c.loop-lo in
    let met : compare (set_strings a.b.now a.size (middle i)) (set_bytes (set_of a.f)) ≡ Greater = sym c.in-Greater.ensures in
    compared-left (set_strings a.b.now a.size) a.n c.requires.2 (set_bytes (set_of a.f)) l.lo l.hi (middle i) l.invariant
    (omega arith) (omega arith) (same_length (set_at a.b.now (a.size * middle i)) (set_of a.f)) (λ z. let e : Greater ≡ Equal = sym met ∙ z in cc) (λ z. let e : Greater ≡ Less = sym met ∙ z in cc)

pub returns : goal.returns
returns c =
    let b = c.loop-lo.invariant in
    record { there = tt; none = (omega (arith, b.order, b.most), b.below, λ j l h. b.above j (omega (arith, c.loop-lo-test.false)) h) }
