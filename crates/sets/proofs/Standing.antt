-- A set that stands at a place of a list of bytes, and its words. Assumes nothing.
use mathlib.Core.Path.{◌≡◌, ap, ◌∙◌}
use mathlib.Core.List.{List}
use Prim.Native.Nat.{ℕ, ◌+◌, ◌-◌, ◌*◌, ◌/◌, ◌%◌, ◌^◌, ◌≤◌, ◌<◌}
use native.Mathlib.Omega.{arith}
use lib.ListN.{length, get_or, take, drop, drop_of_length-le}
use lib.Seq.{take-take, drop-drop}
use Rattle.numbers.specs.Number.{num, digits}
use Rattle.sets.specs.Set.{set_words, set_size, bytes_at, read_at, set_at}
use Rattle.numbers.proofs.Laws.{Small, small-drop, small-take, num-drop, num-low, drop-take, digits-at, num-digits}
use Rattle.sets.proofs.Sets.{set-at-lt}
use Rattle.numbers.proofs.Bytes.{words-made}

pub set-at-past : (b : List ℕ) (at : ℕ) → length b ≤ at → 0 ≡ set_at b at
unfolding read_at num
set-at-past b at l = rw (drop_of_length-le b l)

-- word i of the set
word_in : (b : List ℕ) (at i : ℕ) → Small 8 b → i < set_words → set_at b at / 2 ^ (64 * i) % 2 ^ 64 ≡ num 8 (take 8 (drop (at + 8 * i) b))
unfolding read_at
word_in b at i h l =
    let s : Small 8 (bytes_at b at) = small-take 8 set_size (drop at b) (small-drop 8 at b h) in
    let p : 64 * i ≡ 8 * (8 * i) = omega arith in
    let q : set_size ≡ (set_size - 8 * i) + 8 * i = omega arith in
    let x : drop (8 * i) (bytes_at b at) ≡ take (set_size - 8 * i) (drop (8 * i) (drop at b)) =
    ap (λ (n : ℕ). drop (8 * i) (take n (drop at b))) q ∙ drop-take (8 * i) (set_size - 8 * i) (drop at b) in
    ap (λ (n : ℕ). num 8 (bytes_at b at) / 2 ^ n % 2 ^ 64) p
    ∙ ap (λ (n : ℕ). n % 2 ^ 64) (num-drop 8 (bytes_at b at) s (8 * i))
    ∙ num-low 8 8 (drop (8 * i) (bytes_at b at)) (small-drop 8 (8 * i) (bytes_at b at) s)
    ∙ ap (λ (xs : List ℕ). num 8 (take 8 xs)) x
    ∙ ap (num 8) (take-take 8 (set_size - 8 * i) (drop (8 * i) (drop at b)) (omega arith))
    ∙ ap (λ (xs : List ℕ). num 8 (take 8 xs)) (drop-drop (8 * i) at b)

-- the words of the set
abbrev pub words_in : List ℕ → ℕ → List ℕ
words_in b at = digits 64 set_words (set_at b at)

pub words-in : (b : List ℕ) (at : ℕ) → Small 8 b → num 64 (words_in b at) ≡ set_at b at
words-in b at h = num-digits 64 set_words (set_at b at) (set-at-lt b at h)

pub words-in-at : (b : List ℕ) (at i : ℕ) → Small 8 b → i < set_words → get_or (words_in b at) i 0 ≡ num 8 (take 8 (drop (at + 8 * i) b))
words-in-at b at i h l = digits-at 64 set_words (set_at b at) i l ∙ word_in b at i h l

pub words-from : (a b : List ℕ) (at : ℕ) → length a ≡ set_words
    → ((j : ℕ) → j < set_words → get_or a j 0 ≡ num 8 (take 8 (drop (at + 8 * j) b))) → num 64 a ≡ set_at b at
unfolding read_at
words-from a b at l h = words-made a b at (λ j k. h j (omega arith)) ∙ ap (λ (n : ℕ). num 8 (take (8 * n) (drop at b))) l
