-- `shifted` meets its promise. The loop's invariant: the first i words are done. Assumes nothing.
use borrow.Author.Rules.{rules}
use native.Mathlib.Omega.{arith}
use Prim.Native.Nat.{ℕ, ◌≤◌, ◌<◌, ◌-◌}
use mathlib.Core.Path.{◌≡◌, ◌∙◌}
use lib.ListN.{length, get_or}
use mir.Val.{Fits}
use mir.Syntax.{w64}
use Rattle.sets.specs.Set.{set_words}
use Rattle.numbers.proofs.Laws.{Small, small-zeros, small-set}
use Rattle.sets_words.specs.inner.Further.{Strides}
use Rattle.sets_words.proofs.Further.{words-further, stride-more}
use Rattle.sets_words.proofs.shifted.Statement.{statement}
use Rattle.sets_words.proofs.shifted.Tie as tie

abbrev invariant-loop : tie.invariant-loop-i
invariant-loop d a w₀ i₀ w i = (i ≤ set_words) × (length w ≡ set_words) × Small 64 w × ((j : ℕ) → j < i → Strides a d j (get_or w j 0))

abbrev decreases-loop : tie.decreases-loop-i
decreases-loop d a w₀ i₀ w i = set_words - i

loop-holds : tie.Need-loop-i-init invariant-loop decreases-loop
loop-holds c =
    (search rules, search rules, small-zeros 64 set_words, λ j h. absurd (omega arith))

slice-aggregate-word-further : tie.Need-slice_bounds-word_further-end invariant-loop decreases-loop
slice-aggregate-word-further c = search rules

word-further-requires : tie.Need-word_further-requires invariant-loop decreases-loop
word-further-requires c κs = search rules

mul-w : tie.Need-offset_bounds-w-i invariant-loop decreases-loop
mul-w c = search rules

array-write-w : tie.Need-bounds-w-i invariant-loop decreases-loop
array-write-w c = search rules

add-i : tie.Need-overflow_step-i invariant-loop decreases-loop
add-i c = search rules

loop-less : tie.Need-loop-i-smaller invariant-loop decreases-loop
loop-less c = search rules

loop-again : tie.Need-loop-i-preserved invariant-loop decreases-loop
loop-again c =
    let a = c.before.before.before.before.before.args in
    let l = c.before.before.before.loop-i in
    let r = c.word_further.result in
    let f : Fits w64 r = search rules in
    (omega arith, search rules, small-set 64 l.w l.i r l.invariant.2 f.fits, stride-more (λ j v. Strides a.s.words a.d j v) l.w l.i r (omega arith) l.invariant.3 c.word_further.ensures)

of-words-requires : tie.Need-of_words-requires invariant-loop decreases-loop
of-words-requires c κs = search rules

returns : tie.Need-returns invariant-loop decreases-loop
returns c =
    let a = c.before.before.before.before.args in
    let l = c.before.before.loop-i in
    c.of_words.ensures ∙ words-further a.s.words l.w a.d (record { long = l.invariant.1; small = l.invariant.2 }) (λ i h. l.invariant.3 i (omega arith))

pub shifted_spec : {M : Type 1} → statement M
shifted_spec =
    tie.close
    (tie.spec
    invariant-loop
    decreases-loop
    loop-holds
    slice-aggregate-word-further
    word-further-requires
    mul-w
    array-write-w
    add-i
    loop-less
    loop-again
    of-words-requires
    returns)
