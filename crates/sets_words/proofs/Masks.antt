-- Words of ones: all of them, those from one bit to another, and the bits that a word does not have; and sets made word by word. Assumes nothing.
use Prim.Native.Nat.{ℕ, zero, suc, ◌+◌, ◌-◌, ◌*◌, ◌/◌, ◌%◌, ◌^◌, ◌≤◌, ◌<◌}
use mathlib.Core.Path.{◌≡◌, refl, sym, ap, ◌∙◌}
use mathlib.Core.Bool.{Bool, true, false, ◌&&◌, ◌||◌, not}
use mathlib.Core.List.{List}
use native.Mathlib.Omega.{arith}
use native.Mathlib.Nat.{lt_of_not-le, mod-lt}
use native.Mathlib.Decide.{dec_lt}
use lib.Dec.{eqb, leb}
use lib.Pow.{pow_pos, ones_split, ones_lt, high}
use lib.Bits.{bit_or, bit_xor, xor_shr, xor_mod}
use lib.ListN.{get_or}
use borrow.Author.Tests.{le-leb, lt-leb}
use Rattle.numbers.specs.Number.{num, bit}
use Rattle.sets.specs.Set.{byte_words, byte_count, holds}
use Rattle.numbers.proofs.Laws.{Small}
use Rattle.sets.proofs.Sets.{Words, holds-past, holds-empty}
use Rattle.sets_words.proofs.Bits.{join-or, up_in, up-under, down, word-bit}

abbrev all : ℕ
all = 2 ^ 64 - 1

-- ---- all ones

odd : (i : ℕ) → (2 ^ (i + 1) - 1) % 2 ≡ 1
odd i = let e : 2 ^ (i + 1) - 1 ≡ (2 ^ i - 1) * 2 ^ 1 + (2 ^ 1 - 1) = ones_split i 1 in omega arith

ones_bit : (s : ℕ) → s < 64 → bit all s ≡ 1
ones_bit s h =
    let i : (63 - s + 1) + s ≡ 64 = omega arith in
    ap (λ z. (2 ^ z - 1) / 2 ^ s % 2) (sym i) ∙ ap (λ z. z / 2 ^ s % 2) (ones_split (63 - s + 1) s) ∙ ap (λ z. z % 2) (high (2 ^ (63 - s + 1) - 1) s (ones_lt s)) ∙ odd (63 - s)

ones-holds : (s : ℕ) → s < 64 → holds all s ≡ true
unfolding holds
ones-holds s h = ap (λ z. eqb z 1) (ones_bit s h)

-- ---- ones from one bit to another

pub between-bit : (a b s : ℕ) → a ≤ b → b < 64 → s < 64 → holds ((all / 2 ^ (63 - (b - a)) * 2 ^ a) % 2 ^ 64) s ≡ (leb a s && leb s b)
between-bit a b s h l k = elim (dec_lt s a) [ yes u ↦ under u | no v ↦ over (omega (arith, lt_of_not-le (λ (z : suc s ≤ a). v z))) ]
  where
    under : s < a → holds ((all / 2 ^ (63 - (b - a)) * 2 ^ a) % 2 ^ 64) s ≡ (leb a s && leb s b)
    under u = up-under (all / 2 ^ (63 - (b - a))) a s u k ∙ sym (ap (λ z. z && leb s b) (lt-leb a s u))

    over : a ≤ s → holds ((all / 2 ^ (63 - (b - a)) * 2 ^ a) % 2 ^ 64) s ≡ (leb a s && leb s b)
    over u =
        up_in (all / 2 ^ (63 - (b - a))) a s u k ∙ down all (63 - (b - a)) (s - a)
        ∙ elim (dec_lt b s) [ yes g ↦ past g | no g ↦ within (omega (arith, lt_of_not-le (λ (z : suc b ≤ s). g z))) ]
      where
        past : b < s → holds all (63 - (b - a) + (s - a)) ≡ (leb a s && leb s b)
        past g = holds-past 64 all (63 - (b - a) + (s - a)) (ones_lt 64) (omega arith) ∙ sym (ap (λ z. z && leb s b) (le-leb a s u) ∙ lt-leb s b g)

        within : s ≤ b → holds all (63 - (b - a) + (s - a)) ≡ (leb a s && leb s b)
        within g = ones-holds (63 - (b - a) + (s - a)) (omega arith) ∙ sym (ap (λ z. z && leb s b) (le-leb a s u) ∙ le-leb s b g)

-- bits of word i that stand from low to high
abbrev pub Spans : ℕ → ℕ → ℕ → ℕ → Type 0
Spans low high i r = (s : ℕ) → s < 64 → holds r s ≡ (leb low (64 * i + s) && leb (64 * i + s) high)

and_none : (a : Bool) → (a && false) ≡ false
and_none true = refl
and_none false = refl

-- none of them stands in this word: it ends too early, or begins too late
pub spans-early : (low high i : ℕ) → high < 64 * i → Spans low high i 0
spans-early low high i h s l = holds-empty s ∙ sym (ap (λ z. leb low (64 * i + s) && z) (lt-leb (64 * i + s) high (omega arith)) ∙ and_none (leb low (64 * i + s)))

pub spans-late : (low high i : ℕ) → 64 * i + 63 < low → Spans low high i 0
spans-late low high i h s l = holds-empty s ∙ sym (ap (λ z. z && leb (64 * i + s) high) (lt-leb low (64 * i + s) (omega arith)))

pub spans-never : (low high i : ℕ) → high < low → Spans low high i 0
spans-never low high i h s l = holds-empty s ∙ elim (dec_lt (64 * i + s) low) [ yes u ↦ sym (ap (λ z. z && leb (64 * i + s) high) (lt-leb low (64 * i + s) u)) | no v ↦ late (omega (arith, lt_of_not-le (λ (z : suc (64 * i + s) ≤ low). v z))) ]
  where
    late : low ≤ 64 * i + s → false ≡ (leb low (64 * i + s) && leb (64 * i + s) high)
    late u = sym (ap (λ z. leb low (64 * i + s) && z) (lt-leb (64 * i + s) high (omega arith)) ∙ and_none (leb low (64 * i + s)))

leb-same : (a b c d : ℕ) → (a ≤ b → c ≤ d) → (c ≤ d → a ≤ b) → leb a b ≡ leb c d
leb-same a b c d f g = elim (dec_lt b a) [ yes l ↦ lt-leb a b l ∙ sym (lt-leb c d (strict l)) | no n ↦ same (omega (arith, lt_of_not-le (λ (z : suc b ≤ a). n z))) ]
  where
    strict : b < a → d < c
    strict l = elim (dec_lt d c) [ yes m ↦ m | no n ↦ absurd (let z : a ≤ b = g (omega (arith, lt_of_not-le (λ (z : suc d ≤ c). n z))) in omega arith) ]

    same : a ≤ b → leb a b ≡ leb c d
    same l = le-leb a b l ∙ sym (le-leb c d (f l))

-- from bit a to bit b, which say low and high in this word
pub spans-some : (low high i a b r : ℕ) → a ≡ low - 64 * i → (b ≡ high - 64 * i) → 64 * i ≤ high → ((s : ℕ) → s < 64 → holds r s ≡ (leb a s && leb s b)) → Spans low high i r
spans-some low high i a b r e f g h s l =
    h s l ∙ ap (λ z. z && leb s b) (leb-same a s low (64 * i + s) (λ z. omega arith) (λ z. omega arith)) ∙ ap (λ z. leb low (64 * i + s) && z) (leb-same s b (64 * i + s) high (λ z. omega arith) (λ z. omega arith))

pub spans-whole : (low high i a r : ℕ) → a ≡ low - 64 * i → 64 * i + 63 ≤ high → ((s : ℕ) → s < 64 → holds r s ≡ (leb a s && leb s 63)) → Spans low high i r
spans-whole low high i a r e g h s l =
    h s l ∙ ap (λ z. z && leb s 63) (leb-same a s low (64 * i + s) (λ z. omega arith) (λ z. omega arith)) ∙ ap (λ z. leb low (64 * i + s) && z) (leb-same s 63 (64 * i + s) high (λ z. omega arith) (λ z. omega arith))

-- ---- the bits that a word does not have

flip : (d : ℕ) → d < 2 → eqb (bit_xor d 1) 1 ≡ not (eqb d 1)
flip zero h = refl
flip (suc zero) h = refl
flip (suc (suc d)) h = absurd (omega arith)

pub others-bit : (x s : ℕ) → s < 64 → holds (bit_xor x all) s ≡ not (holds x s)
unfolding holds
others-bit x s h =
    ap (λ z. eqb (z % 2) 1) (xor_shr x all s) ∙ ap (λ z. eqb z 1) (xor_mod (x / 2 ^ s) (all / 2 ^ s) 1 ∙ ap (λ z. bit_xor (x / 2 ^ s % 2) z) (ones_bit s h))
    ∙ flip (x / 2 ^ s % 2) (mod-lt (x / 2 ^ s) (pow_pos 1))

-- ---- word by word

-- the bits of the word r at place i are as f says
abbrev pub Reads : (ℕ → Bool) → ℕ → ℕ → Type 0
Reads f i r = (s : ℕ) → s < 64 → holds r s ≡ f (64 * i + s)

pub reads_all : (f : ℕ → Bool) (w : List ℕ) → Words byte_words w → ((i : ℕ) → i < byte_words → Reads f i (get_or w i 0)) → (c : ℕ) → c < byte_count → holds (num 64 w) c ≡ f c
reads_all f w v h c l =
    let e : 64 * (c / 64) + c % 64 ≡ c = omega arith in
    word-bit w (c / 64) (c % 64) c v.small (omega arith) (sym e) ∙ h (c / 64) (omega arith) (c % 64) (omega arith) ∙ ap f e

module _ (a : List ℕ) (h : Small 64 a) where
  word : (i s : ℕ) → s < 64 → holds (get_or a i 0) s ≡ holds (num 64 a) (64 * i + s)
  word i s l = sym (word-bit a i s (64 * i + s) h l refl)

  pub reads-span : (low high i m : ℕ) → Spans low high i m → Reads (λ c. holds (num 64 a) c || (leb low c && leb c high)) i (bit_or (get_or a i 0) m)
  reads-span low high i m f s l = join-or (get_or a i 0) m s ∙ ap (λ z. z || holds m s) (word i s l) ∙ ap (λ z. holds (num 64 a) (64 * i + s) || z) (f s l)

  pub reads-others : (i : ℕ) → Reads (λ c. not (holds (num 64 a) c)) i (bit_xor (get_or a i 0) all)
  reads-others i s l = others-bit (get_or a i 0) s l ∙ ap not (word i s l)
