-- `read_words` meets its promise: each word is made of its eight bytes. Assumes nothing.
use borrow.Author.Rules.{rules}
use mathlib.Core.Path.{◌≡◌, refl, ap, ◌∙◌}
use Prim.Native.Nat.{ℕ, ◌≤◌, ◌<◌, ◌-◌, ◌+◌, ◌*◌}
use native.Mathlib.Omega.{arith}
use lib.ListN.{length, get_or, take, drop}
use Rattle.numbers.specs.Number.{num}
use Rattle.numbers.proofs.Laws.{fill_more}
use Rattle.numbers.proofs.Bytes.{words-made}
use Rattle.sets.proofs.read_words.Statement.{statement}
use Rattle.sets.proofs.read_words.Tie as tie

abbrev invariant-loop : tie.invariant-loop-i
invariant-loop b at w₀ i₀ i-end w i = (i ≤ length w₀) × (length w ≡ length w₀) × ((j : ℕ) → j < i → get_or w j 0 ≡ num 8 (take 8 (drop (at + 8 * j) b)))

abbrev decreases-loop : tie.decreases-loop-i
decreases-loop b at w₀ i₀ i-end w i = length w₀ - i

loop-holds : tie.Need-loop-i-init invariant-loop decreases-loop
loop-holds c = (search rules, refl, (λ j h. absurd (omega arith)))

mul-whole-word : tie.Need-overflow_mul-i invariant-loop decreases-loop
mul-whole-word c = search rules

add-whole-word : tie.Need-overflow_add-at invariant-loop decreases-loop
add-whole-word c = search rules

whole-word-requires : tie.Need-whole_word-requires invariant-loop decreases-loop
whole-word-requires c κs = search rules

mul-w : tie.Need-offset_bounds-w-i invariant-loop decreases-loop
mul-w c = search rules

slice-write-w : tie.Need-bounds-w-i invariant-loop decreases-loop
slice-write-w c = search rules

add-i : tie.Need-overflow_step-i invariant-loop decreases-loop
add-i c = search rules

loop-less : tie.Need-loop-i-smaller invariant-loop decreases-loop
loop-less c = search rules

loop-again : tie.Need-loop-i-preserved invariant-loop decreases-loop
loop-again c =
    let a = c.before.before.before.before.before.args in
    let l = c.before.before.loop-i in
    (omega arith, search rules, rw c.whole_word.ensures (fill_more (λ (j : ℕ). num 8 (take 8 (drop (a.at + 8 * j) a.b.now))) l.w l.i (omega (arith, l.invariant.1)) l.invariant.2))

same_length : tie.Need-shape_of-w invariant-loop decreases-loop
same_length c = search rules

returns : tie.Need-returns invariant-loop decreases-loop
returns c =
    let a = c.before.before.before.before.args in
    let l = c.before.loop-i in
    words-made l.w a.b.now a.at (λ j h. l.invariant.2 j (omega (arith, l.invariant.1))) ∙ ap (λ (n : ℕ). num 8 (take (8 * n) (drop a.at a.b.now))) l.invariant.1

pub read_words_spec : {M : Type 1} → statement M
read_words_spec =
    tie.close (tie.spec invariant-loop decreases-loop loop-holds mul-whole-word add-whole-word whole-word-requires mul-w slice-write-w add-i loop-less loop-again same_length returns)
