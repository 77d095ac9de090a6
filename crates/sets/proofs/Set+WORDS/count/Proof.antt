-- `count` meets its promise: it goes by blocks of four words. Assumes nothing.
use borrow.Author.Rules.{rules}
use mathlib.Core.Path.{◌≡◌, ap, ap₂, ◌∙◌}
use Prim.Native.Nat.{ℕ, ◌≤◌, ◌+◌, ◌-◌, ◌*◌, ◌/◌}
use native.Mathlib.Omega.{arith}
use lib.ListN.{length, take, drop, length-drop}
use lib.Seq.{length-take-le}
use Rattle.numbers.specs.Number.{num}
use Rattle.sets.specs.Set.{set_words, size}
use Rattle.sets.proofs.Words.{count_none, count-block, count_most, count-all}
use Rattle.sets.proofs.Whole.{valid-of}
use Rattle.sets.proofs.Set+WORDS.count.Statement.{statement}
use Rattle.sets.proofs.Set+WORDS.count.Tie as tie

abbrev invariant-loop : tie.invariant-loop-i
invariant-loop w n₀ i₀ n i = (4 * i ≤ set_words) × (n ≡ size (64 * (4 * i)) (num 64 (take (4 * i) w)))

abbrev decreases-loop : tie.decreases-loop-i
decreases-loop w n₀ i₀ n i = set_words / 4 - i

-- the count with the block that is read
more : (c : tie.After-block_ones-n invariant-loop decreases-loop)
    → c.before.before.before.loop-i.n + c.block_ones-n.result
    ≡ size (64 * (4 * (c.before.before.before.loop-i.i + 1)))
    (num 64 (take (4 * (c.before.before.before.loop-i.i + 1)) c.before.before.before.before.before.args.self.words))
more c =
    let h = c.before.before.before in
    let s = h.before.before in
    let v = valid-of s.args.self _ s.well_formed.0 in
    let w = s.args.self.words in
    let i = h.loop-i.i in
    let e : 4 * (i + 1) ≡ 4 * i + 4 = omega arith in
    let d : 4 * i + 4 - 4 * i ≡ 4 = omega arith in
    let n : length (take 4 (drop (4 * i) w)) ≡ 4 = length-take-le 4 (drop (4 * i) w) (rw length-drop (omega (arith, v.long))) in
    rw e (ap₂ (λ (x y : ℕ). x + y) h.loop-i.invariant.1 (rw (d, n) at c.block_ones-n.ensures) ∙ count-block w (4 * i) 4 v.small)

loop-holds : tie.Need-loop-i-init invariant-loop decreases-loop
loop-holds c = (search rules, count_none c.before.args.self.words)

mul-block-ones : tie.Need-overflow_mul-i invariant-loop decreases-loop
mul-block-ones c = search rules

mul-block-ones-2 : tie.Need-overflow_mul-i-in-loop-i invariant-loop decreases-loop
mul-block-ones-2 c = search rules

add-block-ones : tie.Need-overflow_add-i invariant-loop decreases-loop
add-block-ones c = search rules

mul-block-ones-3 : tie.Need-offset_bounds-w-i invariant-loop decreases-loop
mul-block-ones-3 c = search rules

sub-block-ones : tie.Need-slice_bounds-block_ones-count invariant-loop decreases-loop
sub-block-ones c = search rules

part-block-ones-start : tie.Need-slice_bounds-block_ones-start invariant-loop decreases-loop
part-block-ones-start c = search rules

part-block-ones-end : tie.Need-slice_bounds-block_ones-end invariant-loop decreases-loop
part-block-ones-end c = let s = c.before.before.before in omega (arith, (valid-of s.args.self _ s.well_formed.0).long)

block-ones-requires : tie.Need-block_ones-n-requires invariant-loop decreases-loop
block-ones-requires c κs = search rules

add-n : tie.Need-overflow_add-n invariant-loop decreases-loop
add-n c =
    let h = c.before.before.before in
    let s = h.before.before in
    omega (arith, more c, count_most s.args.self.words (4 * (h.loop-i.i + 1)) (valid-of s.args.self _ s.well_formed.0).small)

add-i : tie.Need-overflow_step-i invariant-loop decreases-loop
add-i c = search rules

loop-less : tie.Need-loop-i-smaller invariant-loop decreases-loop
loop-less c = search rules

loop-again : tie.Need-loop-i-preserved invariant-loop decreases-loop
loop-again c = (omega arith, more c)

returns : tie.Need-returns invariant-loop decreases-loop
returns c =
    let l = c.before.loop-i in
    let s = c.before.before.before in
    let v = valid-of s.args.self _ s.well_formed.0 in
    l.invariant.1 ∙ count-all s.args.self.words (4 * l.i) (omega (arith, v.long)) ∙ ap (λ (n : ℕ). size (64 * n) (num 64 s.args.self.words)) v.long

pub count_spec : {M : Type 1} → statement M
count_spec =
    tie.close
    (tie.spec
    invariant-loop
    decreases-loop
    loop-holds
    mul-block-ones
    mul-block-ones-2
    add-block-ones
    mul-block-ones-3
    sub-block-ones
    part-block-ones-start
    part-block-ones-end
    block-ones-requires
    add-n
    add-i
    loop-less
    loop-again
    returns)
