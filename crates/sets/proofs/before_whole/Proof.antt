-- `before_whole` meets its promise: the first word that differs decides. Assumes nothing.
use borrow.Author.Rules.{rules}
use borrow.Author.Count.{below_more}
use borrow.Author.Tests.{eqb-true, eqb-false, not-true, not-false}
use mathlib.Core.Path.{◌≡◌, sym, ap₂, ◌∙◌}
use Prim.Native.Nat.{ℕ, ◌≤◌, ◌<◌, ◌-◌, ◌+◌, ◌*◌}
use native.Mathlib.Omega.{arith}
use lib.ListN.{get_or, take, drop}
use Rattle.numbers.specs.Number.{num, digits, before}
use Rattle.sets.specs.Set.{set_words, set_bytes, set_at}
use Rattle.numbers.proofs.Laws.{Small, small-digits}
use Rattle.numbers.proofs.Bytes.{before-word, before-never}
use Rattle.sets.proofs.Standing.{words_in, words-in, words-in-at}
use Rattle.sets.proofs.before_whole.Statement.{statement}
use Rattle.sets.proofs.before_whole.Tie as tie

abbrev invariant-loop : tie.invariant-loop-k
invariant-loop b x y k₀ k = (k ≤ set_words) × ((j : ℕ) → j < k → get_or (words_in b x) j 0 ≡ get_or (words_in b y) j 0)

abbrev decreases-loop : tie.decreases-loop-k
decreases-loop b x y k₀ k = set_words - k

-- the way back from the loop's head to the entry; the list has bytes
abbrev entry : tie.At-loop-k invariant-loop decreases-loop → tie.Start invariant-loop decreases-loop
entry c = c.before.before

bytes : (c : tie.At-loop-k invariant-loop decreases-loop) → Small 8 (entry c).args.b.now
bytes c i = (c.before.shared_slice_known-1.given i).fits

-- the word that is read at a place is the set's
read : (c : tie.At-loop-k invariant-loop decreases-loop) (at : ℕ) → c.loop-k.k < set_words
    → num 8 (take 8 (drop (at + 8 * c.loop-k.k) (entry c).args.b.now)) ≡ get_or (words_in (entry c).args.b.now at) c.loop-k.k 0
read c at l = sym (words-in-at (entry c).args.b.now at c.loop-k.k (bytes c) l)

-- the order by words is the order by bytes
order : (c : tie.At-loop-k invariant-loop decreases-loop)
    → before (set_bytes (num 64 (words_in (entry c).args.b.now (entry c).args.x))) (set_bytes (num 64 (words_in (entry c).args.b.now (entry c).args.y)))
    ≡ before (set_bytes (set_at (entry c).args.b.now (entry c).args.x)) (set_bytes (set_at (entry c).args.b.now (entry c).args.y))
order c =
    let a = (entry c).args in
    ap₂ (λ (m n : ℕ). before (set_bytes m) (set_bytes n)) (words-in a.b.now a.x (bytes c)) (words-in a.b.now a.y (bytes c))

loop-holds : tie.Need-loop-k-init invariant-loop decreases-loop
loop-holds c = (search rules, (λ j h. absurd (omega arith)))

mul-words-differ : tie.Need-overflow_mul-k invariant-loop decreases-loop
mul-words-differ c = search rules

add-words-differ : tie.Need-overflow_add-x invariant-loop decreases-loop
add-words-differ c = search rules

mul-words-differ-2 : tie.Need-overflow_mul-k-in-loop-k invariant-loop decreases-loop
mul-words-differ-2 c = search rules

add-words-differ-2 : tie.Need-overflow_add-y invariant-loop decreases-loop
add-words-differ-2 c = search rules

words-differ-requires : tie.Need-words_differ-requires invariant-loop decreases-loop
words-differ-requires c κs = search rules

mul-words-before : tie.Need-overflow_mul-k-then-words_differ invariant-loop decreases-loop
mul-words-before c = search rules

add-words-before : tie.Need-overflow_add-x-then-words_differ invariant-loop decreases-loop
add-words-before c = search rules

mul-words-before-2 : tie.Need-overflow_mul-k-then-words_differ-2 invariant-loop decreases-loop
mul-words-before-2 c = search rules

add-words-before-2 : tie.Need-overflow_add-y-then-words_differ invariant-loop decreases-loop
add-words-before-2 c = search rules

words-before-requires : tie.Need-words_before-requires invariant-loop decreases-loop
words-before-requires c κs = search rules

returns : tie.Need-returns-then-words_differ invariant-loop decreases-loop
returns c =
    let h = c.before.before.before.before in
    let a = (entry h).args in
    let l : h.loop-k.k < set_words = omega arith in
    let p = read h a.x l in
    let q = read h a.y l in
    c.words_before.ensures
    ∙ ap₂ (λ (m n : ℕ). before (digits 8 8 m) (digits 8 8 n)) p q
    ∙ before-word set_words (words_in a.b.now a.x) (words_in a.b.now a.y)
    (small-digits 64 set_words (set_at a.b.now a.x)) (small-digits 64 set_words (set_at a.b.now a.y))
    h.loop-k.k l h.loop-k.invariant.1
    (λ e. eqb-false _ _ (not-true _ (sym c.before.before.words_differ.ensures ∙ c.before.if-words_differ.true)) (p ∙ e ∙ sym q))
    ∙ order h

add-k : tie.Need-overflow_step-k invariant-loop decreases-loop
add-k c = search rules

loop-less : tie.Need-loop-k-smaller invariant-loop decreases-loop
loop-less c = search rules

loop-again : tie.Need-loop-k-preserved invariant-loop decreases-loop
loop-again c =
    let h = c.before.before.before in
    let a = (entry h).args in
    let l : h.loop-k.k < set_words = omega arith in
    (omega arith, below_more _ _ h.loop-k.invariant.1 (sym (read h a.x l) ∙ eqb-true _ _ (not-false _ (sym c.before.words_differ.ensures ∙ c.if-words_differ.false)) ∙ read h a.y l))

returns-2 : tie.Need-returns invariant-loop decreases-loop
returns-2 c =
    let h = c.before in
    let a = (entry h).args in
    sym (sym (order h) ∙ before-never set_words (words_in a.b.now a.x) (words_in a.b.now a.y)
    (small-digits 64 set_words (set_at a.b.now a.x)) (small-digits 64 set_words (set_at a.b.now a.y)) (λ j l. h.loop-k.invariant.1 j (omega arith)))

pub before_whole_spec : {M : Type 1} → statement M
before_whole_spec =
    tie.close
    (tie.spec
    invariant-loop
    decreases-loop
    loop-holds
    mul-words-differ
    add-words-differ
    mul-words-differ-2
    add-words-differ-2
    words-differ-requires
    mul-words-before
    add-words-before
    mul-words-before-2
    add-words-before-2
    words-before-requires
    returns
    add-k
    loop-less
    loop-again
    returns-2)
