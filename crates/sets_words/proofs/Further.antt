-- A set with every member further on, and how its words come from those of the set. Assumes nothing.
use Prim.Native.Nat.{ℕ, suc, ◌+◌, ◌-◌, ◌*◌, ◌/◌, ◌%◌, ◌^◌, ◌≤◌, ◌<◌}
use mathlib.Core.Path.{◌≡◌, sym, ap, subst, ◌∙◌}
use mathlib.Core.Bool.{Bool, false, ◌&&◌, ◌||◌, cond}
use mathlib.Core.List.{List}
use native.Mathlib.Omega.{arith}
use native.Mathlib.Nat.{mod-lt, lt_of_not-le}
use native.Mathlib.Decide.{dec_lt}
use lib.Dec.{leb, ltb, eqb}
use lib.ListN.{length, get_or, set}
use lib.Seq.{get_or-set_same, get_or-set_other}
use lib.Pow.{pow_pos}
use lib.Bits.{bit_or}
use borrow.Author.Tests.{le-leb, lt-leb, lt-ltb, le-ltb}
use Rattle.numbers.specs.Number.{num, bit}
use Rattle.sets.specs.Set.{states, set_words, holds}
use Rattle.numbers.proofs.Laws.{Small}
use Rattle.sets.proofs.Sets.{Words, or-false, holds-empty, holds-past, set-ext, words-lt}
use Rattle.sets_words.specs.inner.Further.{further, Strides, Straddles}
use Rattle.sets_words.proofs.Bits.{bit_up, bit-under, bit-mod, join-or, up_in, up-under, down, word-bit}

pub further-up : (S d q : ℕ) → q + d < states → holds (further d S) (q + d) ≡ holds S q
unfolding holds further
further-up S d q h = let e : q + d ≡ d + q = omega arith in ap (λ z. eqb z 1) (bit-mod (S * 2 ^ d) states (q + d) h ∙ ap (λ z. bit (S * 2 ^ d) z) e ∙ bit_up S d q)

pub further-under : (S d q : ℕ) → q < d → q < states → holds (further d S) q ≡ false
unfolding holds further
further-under S d q h l = ap (λ z. eqb z 1) (bit-mod (S * 2 ^ d) states q l ∙ bit-under S d q h)

pub further-lt : (S d : ℕ) → further d S < 2 ^ states
unfolding further
further-lt S d = mod-lt (S * 2 ^ d) (pow_pos states)

pub further_past : (S d q : ℕ) → states ≤ q → holds (further d S) q ≡ false
further_past S d q h = holds-past states (further d S) q (further-lt S d) h

-- a test that goes along with the states
pub further-is : (S d : ℕ) (f g : ℕ → Bool) → ((q : ℕ) → holds S q ≡ f q) → ((q : ℕ) → q < d → g q ≡ false) → ((q : ℕ) → states ≤ q → g q ≡ false) → ((q : ℕ) → g (q + d) ≡ f q)
    → (q : ℕ) → holds (further d S) q ≡ g q
further-is S d f g hf under past up q = elim (dec_lt q states) [ yes l ↦ inside l | no n ↦ out (omega (arith, lt_of_not-le (λ (l : suc q ≤ states). n l))) ]
  where
    out : states ≤ q → holds (further d S) q ≡ g q
    out h = further_past S d q h ∙ sym (past q h)

    inside : q < states → holds (further d S) q ≡ g q
    inside l = elim (dec_lt q d) [ yes h ↦ further-under S d q h l ∙ sym (under q h) | no n ↦ above (omega (arith, lt_of_not-le (λ (l : suc q ≤ d). n l))) ]
      where
        above : d ≤ q → holds (further d S) q ≡ g q
        above h =
            let e : q ≡ (q - d) + d = omega arith in
            ap (holds (further d S)) e ∙ further-up S d (q - d) (omega arith) ∙ hf (q - d) ∙ sym (up (q - d)) ∙ ap g (sym e)

-- ---- words

pub straddle-none : (high low b : ℕ) → b ≡ 0 → Straddles high low b high
straddle-none high low b e s h = let z : s - b ≡ s = omega arith in rw (le-ltb s b (omega arith), z)

pub straddle-some : (high low b : ℕ) → b < 64 → (b ≡ 0 → ⊥) → low < 2 ^ 64 → Straddles high low b (bit_or ((high * 2 ^ b) % 2 ^ 64) (low / 2 ^ (64 - b)))
straddle-some high low b h n l s g =
    join-or ((high * 2 ^ b) % 2 ^ 64) (low / 2 ^ (64 - b)) s ∙ ap (λ z. holds ((high * 2 ^ b) % 2 ^ 64) s || z) (down low (64 - b) s)
    ∙ elim (dec_lt s b) [ yes u ↦ under u | no v ↦ over (omega (arith, lt_of_not-le (λ (l : suc s ≤ b). v l))) ]
  where
    under : s < b → (holds ((high * 2 ^ b) % 2 ^ 64) s || holds low (64 - b + s)) ≡ cond (ltb s b) (holds low (64 + s - b)) (holds high (s - b))
    under u = let e : 64 - b + s ≡ 64 + s - b = omega arith in rw (lt-ltb s b u, up-under high b s u g, e)

    over : b ≤ s → (holds ((high * 2 ^ b) % 2 ^ 64) s || holds low (64 - b + s)) ≡ cond (ltb s b) (holds low (64 + s - b)) (holds high (s - b))
    over u = rw (le-ltb s b u, up_in high b s u g, holds-past 64 low (64 - b + s) l (omega arith)) (or-false (holds high (s - b)))

pub stride-under : (ws : List ℕ) (d i : ℕ) → i < d / 64 → Strides ws d i 0
stride-under ws d i h s l = holds-empty s ∙ sym (ap (λ z. z && holds (num 64 ws) (64 * i + s - d)) (lt-leb d (64 * i + s) (omega arith)))

pub stride-at : (ws : List ℕ) (d i r : ℕ) → Small 64 ws → i ≡ d / 64 → Straddles (get_or ws (i - d / 64) 0) 0 (d % 64) r → Strides ws d i r
stride-at ws d i r h e f s l = f s l ∙ elim (dec_lt s (d % 64)) [ yes u ↦ under u | no v ↦ over (omega (arith, lt_of_not-le (λ (l : suc s ≤ d % 64). v l))) ]
  where
    under : s < d % 64 → cond (ltb s (d % 64)) (holds 0 (64 + s - d % 64)) (holds (get_or ws (i - d / 64) 0) (s - d % 64)) ≡ (leb d (64 * i + s) && holds (num 64 ws) (64 * i + s - d))
    under u = rw (lt-ltb s (d % 64) u, lt-leb d (64 * i + s) (omega arith)) (holds-empty (64 + s - d % 64))

    over : d % 64 ≤ s → cond (ltb s (d % 64)) (holds 0 (64 + s - d % 64)) (holds (get_or ws (i - d / 64) 0) (s - d % 64)) ≡ (leb d (64 * i + s) && holds (num 64 ws) (64 * i + s - d))
    over u = rw (le-ltb s (d % 64) u, le-leb d (64 * i + s) (omega arith)) (sym (word-bit ws (i - d / 64) (s - d % 64) (64 * i + s - d) h (omega arith) (omega arith)))

pub stride-over : (ws : List ℕ) (d i r : ℕ) → Small 64 ws → d / 64 < i → Straddles (get_or ws (i - d / 64) 0) (get_or ws (i - d / 64 - 1) 0) (d % 64) r → Strides ws d i r
stride-over ws d i r h e f s l = f s l ∙ elim (dec_lt s (d % 64)) [ yes u ↦ under u | no v ↦ over (omega (arith, lt_of_not-le (λ (l : suc s ≤ d % 64). v l))) ]
  where
    under : s < d % 64 → cond (ltb s (d % 64)) (holds (get_or ws (i - d / 64 - 1) 0) (64 + s - d % 64)) (holds (get_or ws (i - d / 64) 0) (s - d % 64)) ≡ (leb d (64 * i + s) && holds (num 64 ws) (64 * i + s - d))
    under u = rw (lt-ltb s (d % 64) u, le-leb d (64 * i + s) (omega arith)) (sym (word-bit ws (i - d / 64 - 1) (64 + s - d % 64) (64 * i + s - d) h (omega arith) (omega arith)))

    over : d % 64 ≤ s → cond (ltb s (d % 64)) (holds (get_or ws (i - d / 64 - 1) 0) (64 + s - d % 64)) (holds (get_or ws (i - d / 64) 0) (s - d % 64)) ≡ (leb d (64 * i + s) && holds (num 64 ws) (64 * i + s - d))
    over u = rw (le-ltb s (d % 64) u, le-leb d (64 * i + s) (omega arith)) (sym (word-bit ws (i - d / 64) (s - d % 64) (64 * i + s - d) h (omega arith) (omega arith)))

pub words-further : (a w : List ℕ) (d : ℕ) → Words set_words w → ((i : ℕ) → i < set_words → Strides a d i (get_or w i 0)) → num 64 w ≡ further d (num 64 a)
words-further a w d v f = set-ext (num 64 w) (further d (num 64 a)) (λ q. elim (dec_lt q states) [ yes l ↦ inside q l | no n ↦ outside q (omega (arith, lt_of_not-le (λ (l : suc q ≤ states). n l))) ])
  where
    outside : (q : ℕ) → states ≤ q → holds (num 64 w) q ≡ holds (further d (num 64 a)) q
    outside q h = holds-past states (num 64 w) q (words-lt set_words w v) h ∙ sym (further_past (num 64 a) d q h)

    inside : (q : ℕ) → q < states → holds (num 64 w) q ≡ holds (further d (num 64 a)) q
    inside q l =
        let e : 64 * (q / 64) + q % 64 ≡ q = omega arith in
        word-bit w (q / 64) (q % 64) q v.small (omega arith) (sym e) ∙ f (q / 64) (omega arith) (q % 64) (omega arith)
        ∙ ap (λ z. leb d z && holds (num 64 a) (z - d)) e ∙ elim (dec_lt q d) [ yes u ↦ under q l u | no n ↦ over q l (omega (arith, lt_of_not-le (λ (l : suc q ≤ d). n l))) ]
      where
        under : (q : ℕ) → q < states → q < d → (leb d q && holds (num 64 a) (q - d)) ≡ holds (further d (num 64 a)) q
        under q l u = ap (λ z. z && holds (num 64 a) (q - d)) (lt-leb d q u) ∙ sym (further-under (num 64 a) d q u l)

        over : (q : ℕ) → q < states → d ≤ q → (leb d q && holds (num 64 a) (q - d)) ≡ holds (further d (num 64 a)) q
        over q l u =
            let e : q - d + d ≡ q = omega arith in
            ap (λ z. z && holds (num 64 a) (q - d)) (le-leb d q u) ∙ sym (further-up (num 64 a) d (q - d) (omega arith)) ∙ ap (holds (further d (num 64 a))) e

-- one more word
pub stride-more : (P : ℕ → ℕ → Type 0) (w : List ℕ) (i v : ℕ) → i < length w → ((j : ℕ) → j < i → P j (get_or w j 0)) → P i v → (j : ℕ) → j < i + 1 → P j (get_or (set w i v) j 0)
stride-more P w i v l f p j h = elim (dec_lt j i) [ yes k ↦ early k | no n ↦ late (omega (arith, lt_of_not-le (λ (k : suc j ≤ i). n k))) ]
  where
    early : j < i → P j (get_or (set w i v) j 0)
    early k = subst (λ z. P j z) (sym (get_or-set_other w i j v 0 (λ e. omega arith))) (f j k)

    late : j ≡ i → P j (get_or (set w i v) j 0)
    late e = subst (λ z. P z (get_or (set w i v) z 0)) (sym e) (subst (λ z. P i z) (sym (get_or-set_same w i v 0 l)) p)
