-- `step` goes through the words; the invariant has the union over those before, and the ones in them. Assumes nothing.
use borrow.Author.Rules.{rules}
use native.Mathlib.Omega.{arith}
use Prim.Native.Nat.{ℕ, ◌+◌, ◌≤◌, ◌-◌, ◌*◌}
use mathlib.Core.Path.{◌≡◌, sym, ap, ◌∙◌}
use lib.ListN.{length, get_or, take, drop}
use lib.Count.{ones, ones-le}
use Rattle.numbers.specs.Number.{num}
use Rattle.sets.specs.Set.{set_words, set_size, set_at}
use Rattle.numbers.proofs.Laws.{Small, small-digits}
use Rattle.sets.proofs.Standing.{words_in, words-in, words-in-at}
use Rattle.sets.proofs.Words.{count_most}
use Rattle.matrix.specs.Matrix.{cell}
use Rattle.matrix.proofs.Stepping.{Walks, walks-none, walks_more, walks-all, zero-set}
use Rattle.matrix.proofs.step.Statement.{statement}
use Rattle.matrix.proofs.step.Tie as tie

abbrev invariant-loop : tie.invariant-loop-i
invariant-loop matrix n wide f c w₀ rows₀ i₀ w rows i = (i ≤ wide) × (length w ≡ set_size) × Walks (λ s. cell matrix s c) n (words_in f 0) i (set_at w 0) rows

abbrev decreases-loop : tie.decreases-loop-i
decreases-loop matrix n wide f c w₀ rows₀ i₀ w rows i = wide - i

abbrev entry : tie.At-loop-i invariant-loop decreases-loop → tie.Start invariant-loop decreases-loop
entry c = c.before.before.before

-- the frontier's bytes, and its words
bytes : (c : tie.At-loop-i invariant-loop decreases-loop) → Small 8 (entry c).args.f.now
bytes c i = (c.shared_slice_known-2-1.given i).fits

small : (c : tie.At-loop-i invariant-loop decreases-loop) → Small 64 (words_in (entry c).args.f.now 0)
small c = small-digits 64 set_words (set_at (entry c).args.f.now 0)

-- the ones so far, and those of a word
few : (c : tie.At-loop-i invariant-loop decreases-loop) → c.loop-i.rows ≤ 64 * c.loop-i.i
few c = rw c.loop-i.invariant.2.counts (count_most (words_in (entry c).args.f.now 0) c.loop-i.i (small c))

few-more : (c : tie.At-loop-i invariant-loop decreases-loop) → ones (get_or (words_in (entry c).args.f.now 0) c.loop-i.i 0) ≤ 64
few-more c = ones-le 64 (get_or (words_in (entry c).args.f.now 0) c.loop-i.i 0) (small c c.loop-i.i)

-- the word that is read
read : (c : tie.After-whole_number invariant-loop decreases-loop) → get_or (words_in (entry c.before.before).args.f.now 0) c.loop-i.i 0 ≡ c.whole_number.result
read c =
    let h = c.before.before in
    let b = (entry h).args.f.now in
    let e : 0 + 8 * h.loop-i.i ≡ 8 * h.loop-i.i = omega arith in
    words-in-at b 0 h.loop-i.i (bytes h) (omega (arith, (entry h).requires.0)) ∙ ap (λ (k : ℕ). num 8 (take 8 (drop k b))) e ∙ sym c.whole_number.ensures

loop-holds : tie.Need-loop-i-init invariant-loop decreases-loop
loop-holds c = (search rules, search rules, walks-none _ _ _ _ zero-set)

mul-whole-number : tie.Need-overflow_mul-i invariant-loop decreases-loop
mul-whole-number c = search rules

whole-number-requires : tie.Need-whole_number-requires invariant-loop decreases-loop
whole-number-requires c κs = let s = entry c.before in (omega (arith, s.requires.0, s.requires.3), omega arith)

mul-join-word : tie.Need-overflow_mul-i-in-loop-i invariant-loop decreases-loop
mul-join-word c = search rules

slice-aggregate-join-word : tie.Need-slice_bounds-join_word-end invariant-loop decreases-loop
slice-aggregate-join-word c = search rules

join-word-requires : tie.Need-join_word-rows-requires invariant-loop decreases-loop
join-word-requires c κs = let s = entry c.before.before.before in (omega (arith, s.requires.0), s.requires.2, search rules)

add-rows : tie.Need-overflow_add-rows invariant-loop decreases-loop
add-rows c =
    let r = c.before.before.before in
    let h = r.before.before in
    omega (arith, few h, few-more h, c.join_word-rows.ensures.1, ap ones (read r), (entry h).requires.0)

add-i : tie.Need-overflow_step-i invariant-loop decreases-loop
add-i c = search rules

loop-less : tie.Need-loop-i-smaller invariant-loop decreases-loop
loop-less c = search rules

loop-again : tie.Need-loop-i-preserved invariant-loop decreases-loop
loop-again c =
    let r = c.before.before.before in
    let h = r.before.before in
    let j = c.join_word-rows.ensures in
    (search rules, search rules, walks_more h.loop-i.invariant.2 (small h) _ _ (rw (read r) j.0) (rw (read r) (ap (λ (x : ℕ). h.loop-i.rows + x) j.1)))

returns : tie.Need-returns invariant-loop decreases-loop
returns c =
    let l = c.loop-i in
    let s = entry c.before in
    let e : l.i ≡ s.args.wide = omega arith in
    let w = words-in s.args.f.now 0 (bytes c.before) in
    let r = walks-all l.invariant.2 (small c.before) (rw (e, w) s.requires.1) (omega (arith, s.requires.0)) in
    record { next = rw w at r.0; rows = rw w at r.1 }

pub step_spec : {M : Type 1} → statement M
step_spec =
    tie.close
    (tie.spec
    invariant-loop
    decreases-loop
    loop-holds
    mul-whole-number
    whole-number-requires
    mul-join-word
    slice-aggregate-join-word
    join-word-requires
    add-rows
    add-i
    loop-less
    loop-again
    returns)
