-- `covers_whole` meets its promise. Assumes nothing.
use borrow.Author.Rules.{rules}
use mathlib.Core.Path.{◌≡◌}
use Prim.Native.Nat.{◌≤◌, ◌-◌, ◌+◌, ◌*◌}
use native.Mathlib.Omega.{arith}
use lib.ListN.{get_or, take, drop}
use Rattle.numbers.specs.Number.{num}
use Rattle.sets.specs.Set.{set_words}
use Rattle.sets.proofs.Words.{Laid, laid_none, laid_more}
use Rattle.sets.proofs.Within.{beyond, covers-all}
use Rattle.sets.proofs.Whole.{valid-of}
use Rattle.sets.proofs.Set+WORDS.covers_whole.Statement.{statement}
use Rattle.sets.proofs.Set+WORDS.covers_whole.Tie as tie

abbrev invariant-loop : tie.invariant-loop-i
invariant-loop b at a extra₀ i₀ extra i = (i ≤ set_words) × Laid (λ j. beyond (num 8 (take 8 (drop (at + 8 * j) b))) (get_or a j 0)) i extra

abbrev decreases-loop : tie.decreases-loop-i
decreases-loop b at a extra₀ i₀ extra i = set_words - i

loop-holds : tie.Need-loop-i-init invariant-loop decreases-loop
loop-holds c =
    let a = c.before.before.args in
    (search rules, laid_none (λ j. beyond (num 8 (take 8 (drop (a.at + 8 * j) a.b.now))) (get_or a.self.words j 0)))

mul-whole-word : tie.Need-overflow_mul-i invariant-loop decreases-loop
mul-whole-word c = search rules

add-whole-word : tie.Need-overflow_add-at invariant-loop decreases-loop
add-whole-word c = search rules

whole-word-requires : tie.Need-whole_word-requires invariant-loop decreases-loop
whole-word-requires c κs = search rules

mul-extra : tie.Need-offset_bounds-a-i invariant-loop decreases-loop
mul-extra c = search rules

array-read-extra : tie.Need-bounds-a-i invariant-loop decreases-loop
array-read-extra c = search rules

mul-extra-2 : tie.Need-offset_bounds-a-i-in-loop-i invariant-loop decreases-loop
mul-extra-2 c = search rules

array-read-extra-2 : tie.Need-bounds-a-i-in-loop-i invariant-loop decreases-loop
array-read-extra-2 c = search rules

add-i : tie.Need-overflow_step-i invariant-loop decreases-loop
add-i c = search rules

loop-less : tie.Need-loop-i-smaller invariant-loop decreases-loop
loop-less c = search rules

loop-again : tie.Need-loop-i-preserved invariant-loop decreases-loop
loop-again c =
    let a = c.before.before.before.before.before.args in
    let l = c.before.before.loop-i in
    (omega arith, rw c.whole_word.ensures (laid_more (λ j. beyond (num 8 (take 8 (drop (a.at + 8 * j) a.b.now))) (get_or a.self.words j 0)) l.i l.extra l.invariant.1))

returns : tie.Need-returns invariant-loop decreases-loop
returns c =
    let k = c.before.before.before in
    let s = k.before in
    let l = c.before.loop-i in
    let e : l.i ≡ set_words = omega arith in
    covers-all s.args.self.words s.args.b.now s.args.at l.extra (valid-of s.args.self _ s.well_formed.0) (λ i. (k.shared_slice_known-1.given i).fits) (rw e at l.invariant.1)

pub covers_whole_spec : {M : Type 1} → statement M
covers_whole_spec =
    tie.close
    (tie.spec
    invariant-loop
    decreases-loop
    loop-holds
    mul-whole-word
    add-whole-word
    whole-word-requires
    mul-extra
    array-read-extra
    mul-extra-2
    array-read-extra-2
    add-i
    loop-less
    loop-again
    returns)
