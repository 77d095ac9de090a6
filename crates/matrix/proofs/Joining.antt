-- Sets in bytes, joined or met byte by byte, and written from the set. Assumes nothing.
use Prim.Native.Nat.{ℕ, suc, ◌+◌, ◌*◌, ◌/◌, ◌%◌, ◌^◌, ◌≤◌, ◌<◌}
use mathlib.Core.Path.{◌≡◌, refl, sym, ap, ◌∙◌}
use mathlib.Core.Bool.{Bool, true, false, ◌&&◌, not, true≢false}
use mathlib.Core.List.{List}
use native.Mathlib.Omega.{arith}
use native.Mathlib.Decide.{ℕ_discrete}
use borrow.Author.Count.{below_more}
use borrow.Author.Tests.{eq-eqb, ne_eqb}
use lib.ListN.{length, get_or, set, take, drop, length-set, length-drop}
use lib.Seq.{get_or-set_same, get_or-set_other, length-take-le, take-length}
use lib.Bits.{bit_or, bit_and}
use lib.Dec.{eqb, lit<}
use Rattle.numbers.specs.Number.{num, placed}
use Rattle.sets.specs.Set.{states, set_size, holds, join, meets, set_bytes, bytes_at, set_at, read_at}
use Rattle.numbers.proofs.Laws.{Small, small-drop, small-take, length_digits, num-or, num-digits}
use Rattle.sets.proofs.Sets.{byte-in, holds-num, holds-empty, holds-past, set-at-lt, set-ext}
use Rattle.sets.proofs.Words.{Laid}
use Rattle.sets.proofs.Meets.{holds-and, apart-exactly}
use Rattle.numbers.proofs.Placing.{placed-all}

-- bytes w that were a: those before i are joined with what f gives, the others as they were
abbrev pub Joins : (ℕ → ℕ) → List ℕ → ℕ → List ℕ → Type 0
Joins f a i w = (length w ≡ length a) × ((j : ℕ) → j < i → get_or w j 0 ≡ bit_or (get_or a j 0) (f j)) × ((j : ℕ) → i ≤ j → get_or w j 0 ≡ get_or a j 0)

pub joins-none : (f : ℕ → ℕ) (a : List ℕ) → Joins f a 0 a
joins-none f a = (refl, λ j h. absurd (omega arith), λ j h. refl)

pub joins-more : (f : ℕ → ℕ) (a : List ℕ) (i : ℕ) (w : List ℕ) → i < length a → Joins f a i w → Joins f a (i + 1) (set w i (bit_or (get_or w i 0) (f i)))
joins-more f a i w h g = (
  simp length-set g.0,
  below_more (λ (j : ℕ). get_or (set w i (bit_or (get_or w i 0) (f i))) j 0 ≡ bit_or (get_or a j 0) (f j)) i
      (λ j k. get_or-set_other w i j (bit_or (get_or w i 0) (f i)) 0 (λ q. omega arith) ∙ g.1 j k)
      (get_or-set_same w i (bit_or (get_or w i 0) (f i)) 0 (omega (arith, g.0)) ∙ rw (g.2 i (omega arith))),
  λ j k. get_or-set_other w i j (bit_or (get_or w i 0) (f i)) 0 (λ q. omega arith) ∙ g.2 j (omega arith),
)

-- the bytes of a set that are all there
bytes-long : (b : List ℕ) (at : ℕ) → at + set_size ≤ length b → length (bytes_at b at) ≡ set_size
bytes-long b at l = length-take-le set_size (drop at b) (rw length-drop (omega arith))

bytes_small : (b : List ℕ) (at : ℕ) → Small 8 b → Small 8 (bytes_at b at)
bytes_small b at h = small-take 8 set_size (drop at b) (small-drop 8 at b h)

byte-first : (b : List ℕ) (j : ℕ) → j < set_size → get_or (bytes_at b 0) j 0 ≡ get_or b j 0
byte-first b j l = byte-in b 0 j l ∙ ap (λ (k : ℕ). get_or b k 0) (omega arith)

-- all of them, with the bytes of the set that stands at a place
pub joins-all : (a b : List ℕ) (at : ℕ) (w : List ℕ) → Small 8 a → length a ≡ set_size → Small 8 b → at + set_size ≤ length b → Joins (λ j. get_or b (at + j) 0) a set_size w
    → set_at w 0 ≡ join (set_at a 0) (set_at b at)
unfolding read_at join
joins-all a b at w ha la hb lb g =
    let lw = bytes-long w 0 (omega (arith, g.0, la)) in
    num-or 8 (bytes_at a 0) (bytes_at b at) (bytes_at w 0) (bytes_small a 0 ha) (bytes_small b at hb) (bytes-long a 0 (omega (arith, la)) ∙ sym lw) (bytes-long b at lb ∙ sym lw)
    (λ i l. byte-first w i (omega (arith, lw)) ∙ g.1 i (omega (arith, lw)) ∙ rw (byte-first a i (omega (arith, lw)), byte-in b at i (omega (arith, lw))))

-- ---- two sets that meet

-- a member by its byte
holds-byte : (b : List ℕ) → Small 8 b → (s : ℕ) → s < states → holds (set_at b 0) s ≡ holds (get_or b (s / 8) 0) (s % 8)
unfolding read_at holds
holds-byte b h s l = holds-num 8 (bytes_at b 0) (bytes_small b 0 h) (lit< tt) s ∙ rw (byte-first b (s / 8) (omega arith))

both : (x y : Bool) → (x && y) ≡ false → x ≡ true → y ≡ true → ⊥
both true true e p q = true≢false e
both true false e p q = true≢false (sym q)
both false y e p q = true≢false (sym p)

neither : (x y : Bool) → (x ≡ true → y ≡ true → ⊥) → (x && y) ≡ false
neither true true h = absurd (h refl refl)
neither true false h = refl
neither false y h = refl

module _ (a b : List ℕ) (ha : Small 8 a) (hb : Small 8 b) where
  meets-none : ((j : ℕ) → j < set_size → bit_and (get_or a j 0) (get_or b j 0) ≡ 0) → meets (set_at a 0) (set_at b 0) ≡ false
  meets-none z = (apart-exactly (set_at a 0) (set_at b 0)).1 (λ s p q. apart s p q)
    where
      apart : (s : ℕ) → holds (set_at a 0) s ≡ true → holds (set_at b 0) s ≡ true → ⊥
      apart s p q = elim (native.Mathlib.Decide.dec_lt s states) [ yes l ↦ inside l | no n ↦ true≢false (sym p ∙ holds-past states (set_at a 0) s (set-at-lt a 0 ha) (omega (arith, native.Mathlib.Nat.lt_of_not-le (λ (l : suc s ≤ states). n l)))) ]
        where
          inside : s < states → ⊥
          inside l =
              both (holds (get_or a (s / 8) 0) (s % 8)) (holds (get_or b (s / 8) 0) (s % 8))
              (sym (holds-and (get_or a (s / 8) 0) (get_or b (s / 8) 0) (s % 8)) ∙ ap (λ (x : ℕ). holds x (s % 8)) (z (s / 8) (omega arith)) ∙ holds-empty (s % 8))
              (sym (holds-byte a ha s l) ∙ p) (sym (holds-byte b hb s l) ∙ q)

  -- where they do not, no byte has a one in both
  none-met : meets (set_at a 0) (set_at b 0) ≡ false → (j : ℕ) → j < set_size → bit_and (get_or a j 0) (get_or b j 0) ≡ 0
  none-met e j l = set-ext (bit_and (get_or a j 0) (get_or b j 0)) 0 (λ t. holds-and (get_or a j 0) (get_or b j 0) t ∙ neither (holds (get_or a j 0) t) (holds (get_or b j 0) t) (apart t) ∙ sym (holds-empty t))
    where
      apart : (t : ℕ) → holds (get_or a j 0) t ≡ true → holds (get_or b j 0) t ≡ true → ⊥
      apart t p q = elim (native.Mathlib.Decide.dec_lt t 8) [ yes k ↦ inside k | no n ↦ true≢false (sym p ∙ holds-past 8 (get_or a j 0) t (ha j) (omega (arith, native.Mathlib.Nat.lt_of_not-le (λ (k : suc t ≤ 8). n k)))) ]
        where
          inside : t < 8 → ⊥
          inside k =
              let d : (8 * j + t) / 8 ≡ j = omega arith in
              let m : (8 * j + t) % 8 ≡ t = omega arith in
              (apart-exactly (set_at a 0) (set_at b 0)).0 e (8 * j + t) (holds-byte a ha (8 * j + t) (omega arith) ∙ rw (d, m) p) (holds-byte b hb (8 * j + t) (omega arith) ∙ rw (d, m) q)

  pub meets-all : (shared : ℕ) → Laid (λ j. bit_and (get_or a j 0) (get_or b j 0)) set_size shared → not (eqb shared 0) ≡ meets (set_at a 0) (set_at b 0)
  meets-all shared h = go (ℕ_discrete shared 0)
    where
      true_of : (t : Bool) → (t ≡ false → ⊥) → t ≡ true
      true_of true n = refl
      true_of false n = absurd (n refl)

      go : Dec (shared ≡ 0) → not (eqb shared 0) ≡ meets (set_at a 0) (set_at b 0)
      go (yes e) = ap not (eq-eqb shared 0 e) ∙ sym (meets-none (h.0 e))
      go (no n) = let w = h.1 n in ap not (ne_eqb shared 0 n) ∙ sym (true_of (meets (set_at a 0) (set_at b 0)) (λ e. w.2 (none-met e w.0 w.1)))

-- ---- a set's bytes, all of them written

pub bytes-set : (b : List ℕ) (F : ℕ) → length b ≡ set_size → F < 2 ^ states → set_at (placed b 0 (set_bytes F)) 0 ≡ F
unfolding read_at
bytes-set b F l h =
    let n = length_digits 8 set_size F in
    let e : placed b 0 (set_bytes F) ≡ set_bytes F = placed-all b (set_bytes F) (omega (arith, n, l)) in
    rw e (ap (num 8) (all (set_bytes F) n) ∙ num-digits 8 set_size F h)
  where
    all : (xs : List ℕ) → length xs ≡ set_size → take set_size xs ≡ xs
    all xs q = ap (λ (n : ℕ). take n xs) (sym q) ∙ take-length xs
