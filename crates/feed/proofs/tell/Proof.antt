-- `tell` goes through the words of the set; the invariant is that what it told and what is left are all. Assumes nothing.
use borrow.Author.Rules.{rules}
use Prim.Native.Nat.{◌≤◌, ◌-◌, ◌*◌, ◌/◌, ◌^◌}
use native.Mathlib.Omega.{arith}
use Rattle.numbers.specs.Number.{num}
use Rattle.sets.specs.Set.{sig_words}
use Rattle.sets.proofs.Sets.{Words}
use Rattle.sets.proofs.Whole.{sigs-valid-of}
use Rattle.feed.proofs.Telling.{Left, words-all, words-low, words_more, words-none}
use Rattle.feed.proofs.tell.Statement.{statement}
use Rattle.feed.proofs.tell.Tie as tie

abbrev invariant-loop : tie.invariant-loop-i
invariant-loop pairs₀ at offset words w₀ i₀ pairs w i = (i ≤ sig_words) × Left pairs₀ at offset (num 64 words) pairs w (num 64 words / 2 ^ (64 * i)) (64 * i)

abbrev decreases-loop : tie.decreases-loop-i
decreases-loop pairs₀ at offset words w₀ i₀ pairs w i = sig_words - i

-- the set has its words, and each fits
valid : (c : tie.Start invariant-loop decreases-loop) → Words sig_words c.args.g.words
valid c = sigs-valid-of c.args.g _ c.well_formed.1.1.0

loop-holds : tie.Need-loop-i-init invariant-loop decreases-loop
loop-holds c =
    let s = c.before.before in
    let a = s.args in
    (search rules, words-all a.g.words (valid s) a.pairs.now a.at a.offset s.requires)

mul-tell-word : tie.Need-offset_bounds-words-i invariant-loop decreases-loop
mul-tell-word c = search rules

array-read-tell-word : tie.Need-bounds-words-i invariant-loop decreases-loop
array-read-tell-word c = search rules

mul-tell-word-2 : tie.Need-overflow_mul-i invariant-loop decreases-loop
mul-tell-word-2 c = search rules

tell-word-requires : tie.Need-tell_word-w-requires invariant-loop decreases-loop
tell-word-requires c κs =
    let s = c.before.before.before.before.before in
    let a = s.args in
    let l = c.loop-i in
    words-low a.g.words (valid s) a.pairs.now a.at a.offset s.requires l.pairs l.w l.i l.invariant.1 (omega arith)

add-i : tie.Need-overflow_step-i invariant-loop decreases-loop
add-i c = search rules

loop-less : tie.Need-loop-i-smaller invariant-loop decreases-loop
loop-less c = search rules

loop-again : tie.Need-loop-i-preserved invariant-loop decreases-loop
loop-again c =
    let s = c.before.before.before.before.before.before.before.before in
    let a = s.args in
    let l = c.loop-i in (
      omega arith,
      words_more a.g.words (valid s) a.pairs.now a.at a.offset s.requires l.pairs l.w l.i l.invariant.1 (omega arith) _ _ c.tell_word-w.ensures,
    )

same_length : tie.Need-shape_of-pairs invariant-loop decreases-loop
same_length c = c.loop-i.invariant.1.kept

returns : tie.Need-returns invariant-loop decreases-loop
returns c =
    let s = c.before.before.before.before in
    let a = s.args in
    let l = c.loop-i in
    words-none a.g.words (valid s) a.pairs.now a.at a.offset s.requires l.pairs l.w l.i l.invariant.1 (omega arith)

pub tell_spec : {M : Type 1} → statement M
tell_spec =
    tie.close
    (tie.spec
    invariant-loop
    decreases-loop
    loop-holds
    mul-tell-word
    array-read-tell-word
    mul-tell-word-2
    tell-word-requires
    add-i
    loop-less
    loop-again
    same_length
    returns)
