-- Telling a set part by part: its members from the lowest on, and the words of their pairs, where there is room for all. Assumes nothing.
use Prim.Native.Nat.{ℕ, ◌+◌, ◌*◌, ◌/◌, ◌%◌, ◌^◌, ◌≤◌, ◌<◌}
use mathlib.Core.Path.{◌≡◌, refl, sym, ap, ◌∙◌}
use mathlib.Core.Bool.{true, false}
use mathlib.Core.List.{List, [], ◌∷◌, ◌++◌}
use native.Mathlib.Omega.{arith}
use native.Mathlib.Nat.{zero-mul, mul-one, div-one, div-eq_of_lt, mod-lt}
use lib.ListN.{length, get_or, set, length-append}
use lib.Pow.{shr-shr, pow_pos}
use borrow.Author.Tests.{eqb-true, eqb-false}
use Rattle.numbers.specs.Number.{num, bit, placed}
use Rattle.sets.specs.Set.{sig_words, signatures, holds, size, members}
use Rattle.numbers.proofs.Laws.{bits-ext, bit-zero}
use Rattle.sets.proofs.Words.{word_at}
use Rattle.sets.proofs.Sets.{Words, words-lt, holds-empty}
use Rattle.sets.proofs.Parts.{low-in, high-in, at-state, members-none, members-one, members-split}
use Rattle.sets.proofs.Members.{members-size}
use Rattle.sets_words.proofs.Bits.{bit-mod}
use Rattle.feed.specs.Engine.{pairs_at}
use Rattle.feed.specs.inner.Tells.{Tells}
use Rattle.feed.proofs.Runs.{pairs_at-length}
use Rattle.numbers.proofs.Placing.{length-placed, placed-none, placed_one, placed-after, placed-empty}

-- ---- the words of their pairs

pairs-append : (k : ℕ) (gs hs : List ℕ) → pairs_at k (gs ++ hs) ≡ pairs_at k gs ++ pairs_at k hs
unfolding pairs_at
pairs-append k [] hs = refl
pairs-append k (g ∷ gs) hs = ap {B = List ℕ} (λ (ws : List ℕ). g ∷ (k ∷ ws)) (pairs-append k gs hs)

pairs-long : (k G : ℕ) → length (pairs_at k (members signatures G)) ≡ 2 * size signatures G
pairs-long k G = pairs_at-length k (members signatures G) ∙ ap (λ (n : ℕ). 2 * n) (members-size signatures G)

-- nothing to tell
pub tells_none : (out : List ℕ) (w k G : ℕ) → G ≡ 0 → Tells G out w k w out
tells_none out w k G e = rw e (record { next = omega (arith, none-size); wrote = placed-empty out w (pairs_at k (members signatures 0)) (pairs-long k 0 ∙ omega (arith, none-size)) })
  where
    none-size : size signatures 0 ≡ 0
    none-size = sym (members-size signatures 0) ∙ ap (λ (gs : List ℕ). length gs) (members-none signatures 0 (λ s l. holds-empty s))

-- one signature
pub one_size : (s : ℕ) → s < signatures → size signatures (2 ^ s) ≡ 1
one_size s l = sym (members-size signatures (2 ^ s)) ∙ ap (λ (gs : List ℕ). length gs) (members-one signatures s l)

pub tells-one : (out : List ℕ) (w k s : ℕ) → s < signatures → w + 2 ≤ length out → Tells (2 ^ s) out w k (w + 2) (set (set out w s) (w + 1) k)
unfolding pairs_at
tells-one out w k s l r = record { next = rw (one_size s l); wrote = rw (members-one signatures s l) wrote }
  where
    wrote : set (set out w s) (w + 1) k ≡ placed out w (pairs_at k (s ∷ []))
    wrote =
        let e : w + 0 ≡ w = omega arith in
        ap (λ (ws : List ℕ). set (set ws w s) (w + 1) k) (placed-none out w (omega arith))
        ∙ ap (λ (ws : List ℕ). set ws (w + 1) k) (rw e at (placed_one out w [] s (omega arith)))
        ∙ placed_one out w (s ∷ []) k (omega arith)

-- a loop that tells the set G from word w₀ on has come to word w; what is left of the set is n at place s
pub record Left (out₀ : List ℕ) (w₀ k G : ℕ) (out : List ℕ) (w n s : ℕ) : Type 0 where
  pub small : n * 2 ^ s < 2 ^ signatures
  pub next : w + 2 * size signatures (n * 2 ^ s) ≡ w₀ + 2 * size signatures G
  pub kept : length out ≡ length out₀
  pub wrote : placed out w (pairs_at k (members signatures (n * 2 ^ s))) ≡ placed out₀ w₀ (pairs_at k (members signatures G))

-- at first all is left
pub left-all : (out : List ℕ) (w k n s : ℕ) → n * 2 ^ s < 2 ^ signatures → Left out w k (n * 2 ^ s) out w n s
left-all out w k n s l = record { small = l; next = refl; kept = refl; wrote = refl }

-- where something is left, it stands at a signature
pub left_at : {out₀ : List ℕ} {w₀ k G : ℕ} {out : List ℕ} {w n s : ℕ} → Left out₀ w₀ k G out w n s → (n ≡ 0 → ⊥) → s < signatures
left_at {n = n} {s = s} h ne = at-state n s signatures h.small ne

module _ {out₀ : List ℕ} {w₀ k G : ℕ} {out : List ℕ} {w n s : ℕ} (h : Left out₀ w₀ k G out w n s) (room : w₀ + 2 * size signatures G ≤ length out₀) where
  -- the j lowest bits of what is left, and the others
  left-size : (j : ℕ) → size signatures (n * 2 ^ s) ≡ size signatures (n % 2 ^ j * 2 ^ s) + size signatures (n / 2 ^ j * 2 ^ (s + j))
  left-size j =
      rw (← members-size signatures (n * 2 ^ s), ← members-size signatures (n % 2 ^ j * 2 ^ s), ← members-size signatures (n / 2 ^ j * 2 ^ (s + j)))
      (ap (λ (gs : List ℕ). length gs) (members-split signatures n s j) ∙ length-append (members signatures (n % 2 ^ j * 2 ^ s)) (members signatures (n / 2 ^ j * 2 ^ (s + j))))

  -- these bits are signatures, and there is room for their pairs
  pub left-low : (j : ℕ) → (n % 2 ^ j * 2 ^ s < 2 ^ signatures) × (w + 2 * size signatures (n % 2 ^ j * 2 ^ s) ≤ length out)
  left-low j = (low-in signatures n s j h.small, omega (arith, left-size j, h.next, h.kept))

  -- they are told
  pub left-more : (j v : ℕ) (left : List ℕ) → Tells (n % 2 ^ j * 2 ^ s) out w k v left → Left out₀ w₀ k G left v (n / 2 ^ j) (s + j)
  left-more j v left t =
      let low = members signatures (n % 2 ^ j * 2 ^ s) in
      let high = members signatures (n / 2 ^ j * 2 ^ (s + j)) in
      record {
        small = high-in signatures n s j h.small;
        next = omega (arith, left-size j, h.next, t.next);
        kept = ap (λ (ws : List ℕ). length ws) t.wrote ∙ length-placed out w (pairs_at k low) ∙ h.kept;
        wrote = ap (λ (ws : List ℕ). placed ws v (pairs_at k high)) t.wrote
            ∙ placed-after out w (pairs_at k low) (pairs_at k high) v (t.next ∙ ap (λ (m : ℕ). w + m) (sym (pairs-long k (n % 2 ^ j * 2 ^ s))))
            (omega (arith, left-size j, h.next, h.kept, t.next, pairs-long k (n / 2 ^ j * 2 ^ (s + j))))
            ∙ ap (placed out w) (sym (ap (pairs_at k) (members-split signatures n s j) ∙ pairs-append k low high))
            ∙ h.wrote;
      }

  -- nothing is left
  pub left-none : n ≡ 0 → Tells G out₀ w₀ k w out
  left-none e =
      let z = tells_none out w k (n * 2 ^ s) (ap (λ (m : ℕ). m * 2 ^ s) e ∙ zero-mul (2 ^ s)) in
      record { next = z.next ∙ h.next; wrote = z.wrote ∙ h.wrote }

-- the lowest bit of what is left, and the zeros below it
module _ {out₀ : List ℕ} {w₀ k G : ℕ} {out : List ℕ} {w n s : ℕ} (h : Left out₀ w₀ k G out w n s) (room : w₀ + 2 * size signatures G ≤ length out₀) (t : ℕ) (one : holds n t ≡ true)
    (zeros : (q : ℕ) → q < t → holds n q ≡ false) where
  odd : n / 2 ^ t % 2 ≡ 1
  unfolding holds
  odd = eqb-true (n / 2 ^ t % 2) 1 one

  clear : n % 2 ^ t ≡ 0
  unfolding holds
  clear = bits-ext t (n % 2 ^ t) 0 (mod-lt n (pow_pos t)) (pow_pos t) (λ q l. bit-mod n t q l ∙ zero_bit q l ∙ sym (bit-zero q))
    where
      zero_bit : (q : ℕ) → q < t → bit n q ≡ 0
      zero_bit q l = omega (arith, eqb-false (n / 2 ^ q % 2) 1 (zeros q l), mod-lt (n / 2 ^ q) (pow_pos 1))

  -- the zeros are no members
  past : Left out₀ w₀ k G out w (n / 2 ^ t) (s + t)
  past = left-more h room t w out (tells_none out w k (n % 2 ^ t * 2 ^ s) (ap (λ (m : ℕ). m * 2 ^ s) clear ∙ zero-mul (2 ^ s)))

  -- the bit is a signature, and there is room for its pair
  pub lowest-at : s + t < signatures
  lowest-at = left_at past (λ e. let z : n / 2 ^ t % 2 ≡ 0 = rw e in omega (arith, z, odd))

  pub lowest-low : (1 * 2 ^ (s + t) < 2 ^ signatures) × (w + 2 * size signatures (1 * 2 ^ (s + t)) ≤ length out)
  lowest-low = rw odd at (left-low past room 1)

  -- it is told
  pub lowest-more : (v : ℕ) (left : List ℕ) → Tells (1 * 2 ^ (s + t)) out w k v left → Left out₀ w₀ k G left v (n / 2 ^ t / 2) (s + t + 1)
  lowest-more v left r = left-more past room 1 v left (rw odd r)

-- ---- the words of a set, one after the other

module _ (ws : List ℕ) (v : Words sig_words ws) (out₀ : List ℕ) (w₀ k : ℕ) (room : w₀ + 2 * size signatures (num 64 ws) ≤ length out₀) where
  -- what is left at word i
  abbrev pub LeftWords : List ℕ → ℕ → ℕ → Type 0
  LeftWords out w i = Left out₀ w₀ k (num 64 ws) out w (num 64 ws / 2 ^ (64 * i)) (64 * i)

  pub words-all : LeftWords out₀ w₀ 0
  words-all =
      let e : num 64 ws / 2 ^ (64 * 0) * 2 ^ (64 * 0) ≡ num 64 ws = mul-one (num 64 ws / 1) ∙ div-one (num 64 ws) in
      rw e at (left-all out₀ w₀ k (num 64 ws / 2 ^ (64 * 0)) (64 * 0) (rw e (words-lt sig_words ws v)))

  module _ (out : List ℕ) (w i : ℕ) (h : LeftWords out w i) where
    pub words-low : i < sig_words → (get_or ws i 0 * 2 ^ (64 * i) < 2 ^ signatures) × (w + 2 * size signatures (get_or ws i 0 * 2 ^ (64 * i)) ≤ length out)
    words-low l = rw (word_at ws i v.small (omega (arith, v.long))) at (left-low h room 64)

    pub words_more : i < sig_words → (n : ℕ) (left : List ℕ) → Tells (get_or ws i 0 * 2 ^ (64 * i)) out w k n left → LeftWords left n (i + 1)
    words_more l n left t =
        let e : 64 * i + 64 ≡ 64 * (i + 1) = omega arith in
        rw (shr-shr (num 64 ws) (64 * i) 64, e)
        at (left-more h room 64 n left (rw (word_at ws i v.small (omega (arith, v.long))) t))

    pub words-none : i ≡ sig_words → Tells (num 64 ws) out₀ w₀ k w out
    words-none e = left-none h room (rw e (div-eq_of_lt (words-lt sig_words ws v)))
