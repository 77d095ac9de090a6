-- `compare_whole` meets its promise: the first word that differs decides. Assumes nothing.
use borrow.Author.Rules.{rules}
use borrow.Author.Count.{below_more}
use mathlib.Core.Path.{◌≡◌, sym, ap, ◌∙◌}
use Prim.Native.Nat.{ℕ, ◌≤◌, ◌<◌, ◌-◌}
use native.Mathlib.Omega.{arith}
use lib.ListN.{get_or}
use Rattle.numbers.specs.Number.{num, digits, before, compare}
use Rattle.sets.specs.Set.{set_words, set_of, set_bytes, set_at}
use Rattle.numbers.proofs.Laws.{Small, small-digits}
use Rattle.numbers.proofs.Bytes.{compare-word-before, compare-word-after, compare-words-same}
use Rattle.sets.proofs.Standing.{words_in, words-in, words-in-at}
use Rattle.sets.proofs.Whole.{valid-of}
use Rattle.sets.proofs.Set+WORDS.compare_whole.Statement.{statement}
use Rattle.sets.proofs.Set+WORDS.compare_whole.Tie as tie

abbrev invariant-loop : tie.invariant-loop-k
invariant-loop b at a k₀ k = (k ≤ set_words) × ((j : ℕ) → j < k → get_or (words_in b at) j 0 ≡ get_or a j 0)

abbrev decreases-loop : tie.decreases-loop-k
decreases-loop b at a k₀ k = set_words - k

-- the way back from the loop's head to the entry; the list has bytes
abbrev entry : tie.At-loop-k invariant-loop decreases-loop → tie.Start invariant-loop decreases-loop
entry c = c.before.before.before

bytes : (c : tie.At-loop-k invariant-loop decreases-loop) → Small 8 (entry c).args.b.now
bytes c i = (c.before.before.shared_slice_known-1.given i).fits

-- the word that is read is the set's
read : (c : tie.After-whole_word-w invariant-loop decreases-loop)
    → c.whole_word-w.result ≡ get_or (words_in (entry c.before.before).args.b.now (entry c.before.before).args.at) c.before.before.loop-k.k 0
read c =
    let h = c.before.before in
    let a = (entry h).args in
    c.whole_word-w.ensures ∙ sym (words-in-at a.b.now a.at h.loop-k.k (bytes h) (omega arith))

-- how the words stand to one another is how the bytes do
stands : (c : tie.At-loop-k invariant-loop decreases-loop)
    → compare (set_bytes (num 64 (words_in (entry c).args.b.now (entry c).args.at))) (set_bytes (set_of (entry c).args.self))
    ≡ compare (set_bytes (set_at (entry c).args.b.now (entry c).args.at)) (set_bytes (set_of (entry c).args.self))
stands c =
    let a = (entry c).args in
    ap (λ (n : ℕ). compare (set_bytes n) (set_bytes (set_of a.self))) (words-in a.b.now a.at (bytes c))

-- what the test of two words that differ says
said : (c : tie.After-word_before invariant-loop decreases-loop)
    → let h = c.before.before.before.before in
    before (digits 8 8 (get_or (words_in (entry h).args.b.now (entry h).args.at) h.loop-k.k 0)) (digits 8 8 (get_or (entry h).args.self.words h.loop-k.k 0)) ≡ c.word_before.result
said c =
    let h = c.before.before.before.before in
    sym (c.word_before.ensures ∙ ap (λ (n : ℕ). before (digits 8 8 n) (digits 8 8 (get_or (entry h).args.self.words h.loop-k.k 0))) (read c.before.before))

loop-holds : tie.Need-loop-k-init invariant-loop decreases-loop
loop-holds c = (search rules, (λ j h. absurd (omega arith)))

mul-whole-word : tie.Need-overflow_mul-k invariant-loop decreases-loop
mul-whole-word c = search rules

add-whole-word : tie.Need-overflow_add-at invariant-loop decreases-loop
add-whole-word c = search rules

whole-word-requires : tie.Need-whole_word-w-requires invariant-loop decreases-loop
whole-word-requires c κs = search rules

mul-if1 : tie.Need-offset_bounds-a-k invariant-loop decreases-loop
mul-if1 c = search rules

array-read-if1 : tie.Need-bounds-a-k invariant-loop decreases-loop
array-read-if1 c = search rules

mul-word-before : tie.Need-offset_bounds-a-k-then-w-a invariant-loop decreases-loop
mul-word-before c = search rules

array-read-word-before : tie.Need-bounds-a-k-then-w-a invariant-loop decreases-loop
array-read-word-before c = search rules

word-before-requires : tie.Need-word_before-requires invariant-loop decreases-loop
word-before-requires c κs = search rules

-- the words that are compared differ
module _ (c : tie.After-word_before invariant-loop decreases-loop) where
  differs : get_or (words_in (entry c.before.before.before.before).args.b.now (entry c.before.before.before.before).args.at) c.before.before.before.before.loop-k.k 0
      ≡ get_or (entry c.before.before.before.before).args.self.words c.before.before.before.before.loop-k.k 0 → ⊥
  differs e = c.before.if-w-a.true (read c.before.before ∙ e)

returns : tie.Need-returns-then-word_before invariant-loop decreases-loop
returns c =
    let w = c.before in
    let h = w.before.before.before.before in
    let a = (entry h).args in
    sym (sym (stands h)
    ∙ compare-word-before set_words (words_in a.b.now a.at) a.self.words (small-digits 64 set_words (set_at a.b.now a.at)) (valid-of a.self _ (entry h).well_formed.0).small
    h.loop-k.k (omega arith) h.loop-k.invariant.1 (differs w) (said w ∙ c.if-word_before.true))

returns-2 : tie.Need-returns-then-w-a invariant-loop decreases-loop
returns-2 c =
    let w = c.before in
    let h = w.before.before.before.before in
    let a = (entry h).args in
    sym (sym (stands h)
    ∙ compare-word-after set_words (words_in a.b.now a.at) a.self.words (small-digits 64 set_words (set_at a.b.now a.at)) (valid-of a.self _ (entry h).well_formed.0).small
    h.loop-k.k (omega arith) h.loop-k.invariant.1 (differs w) (said w ∙ c.if-word_before.false))

add-k : tie.Need-overflow_step-k invariant-loop decreases-loop
add-k c = search rules

loop-less : tie.Need-loop-k-smaller invariant-loop decreases-loop
loop-less c = search rules

loop-again : tie.Need-loop-k-preserved invariant-loop decreases-loop
loop-again c = (omega arith, below_more _ _ c.before.before.before.loop-k.invariant.1 (sym (read c.before) ∙ c.if-w-a.false))

returns-3 : tie.Need-returns invariant-loop decreases-loop
returns-3 c =
    let h = c.before in
    let a = (entry h).args in
    sym (sym (stands h)
    ∙ compare-words-same set_words (words_in a.b.now a.at) a.self.words (small-digits 64 set_words (set_at a.b.now a.at)) (valid-of a.self _ (entry h).well_formed.0).small
    (λ j l. h.loop-k.invariant.1 j (omega arith)))

pub compare_whole_spec : {M : Type 1} → statement M
compare_whole_spec =
    tie.close
    (tie.spec
    invariant-loop
    decreases-loop
    loop-holds
    mul-whole-word
    add-whole-word
    whole-word-requires
    mul-if1
    array-read-if1
    mul-word-before
    array-read-word-before
    word-before-requires
    returns
    returns-2
    add-k
    loop-less
    loop-again
    returns-3)
