-- The instructions in words: what each kind does, what it leaves alone, and what its fields are below. Assumes nothing.
use Prim.Native.Nat.{ℕ, zero, suc, ◌-◌, ◌*◌, ◌/◌, ◌%◌, ◌^◌, ◌≤◌, ◌<◌}
use mathlib.Core.Path.{◌≡◌, refl, ap, ◌∙◌}
use mathlib.Core.Bool.{Bool, true, false, ◌&&◌, ◌||◌, not, cond}
use mathlib.Core.List.{List, [], ◌∷◌}
use mathlib.Core.Logic.{◌⊎◌, ◌↔◌}
use native.Mathlib.Omega.{arith}
use native.Mathlib.Nat.{one-mul, mod-lt}
use lib.ListN.{length, get_or, set, length-set}
use lib.Seq.{get_or-set_same, get_or-set_other}
use lib.Dec.{eqb, ltb, lit<}
use lib.Arith.{digits_mod}
use lib.Pow.{shl_exact}
use lib.Bits.{bit_or, bit_xor, differ, or_self, or_add_and, xor_add_and, xor_shr, xor_step}
use borrow.Author.Tests.{ltb-true, eqb-true, eq-eqb, ne_eqb}
use Rattle.numbers.specs.Number.{bit}
use Rattle.sets.specs.Set.{signatures, sig_words, holds, join, insert}
use Rattle.numbers.proofs.Laws.{two_pos}
use Rattle.sets.proofs.Sets.{holds-join, holds-pow, holds-insert, insert-lt, join-assoc}
use Rattle.rules.proofs.Scanning.{both, either-words, equal_words}
use Rattle.machine.specs.Program.{bit_count, off, without, lower, bits_by, counters_by, alert_now, alerts_by}
use Rattle.machine.specs.Machine.{which_limits, number_limits, good_instruction}

-- ---- what a record's fields are below

module _ (k w n : ℕ) (good : good_instruction k w n ≡ true) where
  limits : (ltb w (get_or which_limits k 0) ≡ true) × (ltb n (get_or number_limits k 0) ≡ true)
  unfolding good_instruction
  limits = both (ltb w (get_or which_limits k 0)) (ltb n (get_or number_limits k 0)) good

  pub which-below : (m : ℕ) → get_or which_limits k 0 ≡ m → w < m
  which-below m e = let l = ltb-true w (get_or which_limits k 0) limits.0 in omega arith

  pub number-below : (m : ℕ) → get_or number_limits k 0 ≡ m → n < m
  number-below m e = let l = ltb-true n (get_or number_limits k 0) limits.1 in omega arith

-- no kind is over 8
pub kind-small : (k w n : ℕ) → good_instruction k w n ≡ true → k < 9
kind-small (suc (suc (suc (suc (suc (suc (suc (suc (suc k))))))))) w n e = absurd (omega (arith, which-below (suc (suc (suc (suc (suc (suc (suc (suc (suc k))))))))) w n e 0 refl))
kind-small zero w n e = omega arith
kind-small (suc zero) w n e = omega arith
kind-small (suc (suc zero)) w n e = omega arith
kind-small (suc (suc (suc zero))) w n e = omega arith
kind-small (suc (suc (suc (suc zero)))) w n e = omega arith
kind-small (suc (suc (suc (suc (suc zero))))) w n e = omega arith
kind-small (suc (suc (suc (suc (suc (suc zero)))))) w n e = omega arith
kind-small (suc (suc (suc (suc (suc (suc (suc zero))))))) w n e = omega arith
kind-small (suc (suc (suc (suc (suc (suc (suc (suc zero)))))))) w n e = omega arith

-- ---- a bit turned over

differ-lt : (x y : ℕ) → x < 2 → y < 2 → differ x y < 2
differ-lt zero y hx hy = hy
differ-lt (suc zero) zero hx hy = hx
differ-lt (suc zero) (suc y) hx hy = omega arith
differ-lt (suc (suc x)) y hx hy = absurd (omega arith)

other : Bool → Bool → Bool
other true b = not b
other false b = b

differ-one : (x y : ℕ) → x < 2 → y < 2 → eqb (differ x y) 1 ≡ other (eqb x 1) (eqb y 1)
unfolding other
differ-one zero zero hx hy = refl
differ-one zero (suc zero) hx hy = refl
differ-one (suc zero) zero hx hy = refl
differ-one (suc zero) (suc zero) hx hy = refl
differ-one (suc (suc x)) y hx hy = absurd (omega arith)
differ-one zero (suc (suc y)) hx hy = absurd (omega arith)
differ-one (suc zero) (suc (suc y)) hx hy = absurd (omega arith)

bit-xor : (a b s : ℕ) → bit (bit_xor a b) s ≡ differ (bit a s) (bit b s)
bit-xor a b s =
    rw (xor_shr a b s, xor_step (a / 2 ^ s) (b / 2 ^ s))
    (digits_mod (bit_xor (a / 2 ^ s / 2) (b / 2 ^ s / 2)) (differ-lt (bit a s) (bit b s) (mod-lt (a / 2 ^ s) two_pos) (mod-lt (b / 2 ^ s) two_pos)))

holds-xor : (a b s : ℕ) → holds (bit_xor a b) s ≡ other (holds a s) (holds b s)
unfolding holds
holds-xor a b s = rw (bit-xor a b s) (differ-one (bit a s) (bit b s) (mod-lt (a / 2 ^ s) two_pos) (mod-lt (b / 2 ^ s) two_pos))

-- D without s has every other number that D has, and not s
pub holds-without : (D s t : ℕ) → holds (without D s) t ≡ (holds D t && not (eqb t s))
unfolding without other
holds-without D s t = holds-xor (join D (2 ^ s)) (2 ^ s) t ∙ rw (holds-join D (2 ^ s) t, holds-pow s t) (go (holds D t) (eqb t s))
  where
    go : (a b : Bool) → other (a || b) b ≡ (a && not b)
    go true true = refl
    go true false = refl
    go false true = refl
    go false false = refl

-- and is no larger, as a number
or-again : (D m : ℕ) → bit_or (bit_or D m) m ≡ bit_or D m
unfolding join
or-again D m = join-assoc D m m ∙ ap (bit_or D) (or_self m)

without-most : (D s : ℕ) → without D s ≤ D
unfolding without join
without-most D s = omega (arith, or_add_and D (2 ^ s), xor_add_and (bit_or D (2 ^ s)) (2 ^ s), or_add_and (bit_or D (2 ^ s)) (2 ^ s), or-again D (2 ^ s))

-- ---- each kind, on the bits D, the counters cs and the alerts A

module _ (w n D : ℕ) (cs : List ℕ) (A : ℕ) where
  -- 0 does nothing
  pub nothing : (bits_by 0 w D ≡ D) × (counters_by 0 w n cs ≡ cs) × (alerts_by 0 w n D cs A ≡ A)
  unfolding bits_by counters_by alerts_by
  nothing = (refl, refl, refl)

  -- 1 sets bit w, and no other changes
  pub sets-bit : (t : ℕ) → holds (bits_by 1 w D) t ≡ (holds D t || ltb w bit_count && eqb t w)
  unfolding bits_by
  sets-bit t = holds-insert bit_count D w t

  -- 2 clears it
  pub clears-bit : (t : ℕ) → holds (bits_by 2 w D) t ≡ (holds D t && not (eqb t w))
  unfolding bits_by
  clears-bit t = holds-without D w t

  -- 3 sets counter w to n, 4 turns it off, 5 lowers it; no other changes
  module _ (l : w < length cs) where
    pub sets-counter : get_or (counters_by 3 w n cs) w 0 ≡ n
    unfolding counters_by
    sets-counter = get_or-set_same cs w n 0 l

    pub turns-off : get_or (counters_by 4 w n cs) w 0 ≡ off
    unfolding counters_by
    turns-off = get_or-set_same cs w off 0 l

    pub lowers : get_or (counters_by 5 w n cs) w 0 ≡ lower (get_or cs w 0)
    unfolding counters_by
    lowers = get_or-set_same cs w (lower (get_or cs w 0)) 0 l

  pub other-counters : (k t : ℕ) → (t ≡ w → ⊥) → get_or (counters_by k w n cs) t 0 ≡ get_or cs t 0
  unfolding counters_by
  other-counters k t ne = go (eqb k 3) (eqb k 4) (eqb k 5)
    where
      go : (a b c : Bool) → get_or (cond a (set cs w n) (cond b (set cs w off) (cond c (set cs w (lower (get_or cs w 0))) cs))) t 0 ≡ get_or cs t 0
      go true b c = get_or-set_other cs w t n 0 ne
      go false true c = get_or-set_other cs w t off 0 ne
      go false false true = get_or-set_other cs w t (lower (get_or cs w 0)) 0 ne
      go false false false = refl

  -- 6 alerts n, 7 where bit w is set, 8 where counter w is 0; what is alerted stays so
  pub alerts-more : (k t : ℕ) → holds (alerts_by k w n D cs A) t ≡ (holds A t || alert_now k w D cs && (ltb n signatures && eqb t n))
  unfolding alerts_by
  alerts-more k t = go (alert_now k w D cs)
    where
      or-none : (a : Bool) → a ≡ (a || false)
      or-none true = refl
      or-none false = refl

      go : (b : Bool) → holds (cond b (insert signatures A n) A) t ≡ (holds A t || b && (ltb n signatures && eqb t n))
      go true = holds-insert signatures A n t
      go false = or-none (holds A t)

-- an instruction alerts exactly when it is of kind 6, of kind 7 and its bit is set, or of kind 8 and its counter is 0
pub alert-said : (k w D : ℕ) (cs : List ℕ) → alert_now k w D cs ≡ true ↔ (((k ≡ 6) ⊎ ((k ≡ 7) × (holds D w ≡ true))) ⊎ ((k ≡ 8) × (get_or cs w 0 ≡ 0)))
alert-said k w D cs =
    either-words ((k ≡ 6) ⊎ ((k ≡ 7) × (holds D w ≡ true))) ((k ≡ 8) × (get_or cs w 0 ≡ 0)) (eqb k 6 || eqb k 7 && holds D w) (eqb k 8 && eqb (get_or cs w 0) 0)
    (either-words (k ≡ 6) ((k ≡ 7) × (holds D w ≡ true)) (eqb k 6) (eqb k 7 && holds D w) (equal_words k 6)
    (λ e. let p = both (eqb k 7) (holds D w) e in (eqb-true k 7 p.0, p.1), λ p. rw (eq-eqb k 7 p.0, p.1)))
    (λ e. let p = both (eqb k 8) (eqb (get_or cs w 0) 0) e in (eqb-true k 8 p.0, eqb-true (get_or cs w 0) 0 p.1), λ p. rw (eq-eqb k 8 p.0, eq-eqb (get_or cs w 0) 0 p.1))

-- off stays off, 0 becomes off, and any other number is one less
pub lower-off : lower off ≡ off
lower-off = refl

pub lower-zero : lower 0 ≡ off
lower-zero = refl

pub lower-more : (n : ℕ) → suc n < off → lower (suc n) ≡ n
lower-more n h = rw (ne_eqb (suc n) 0 (λ e. omega arith), ne_eqb (suc n) off (λ e. omega arith)) (omega arith)

-- ---- what a kind leaves alone

pub bits-other : (k w D : ℕ) → (k ≡ 1 → ⊥) → (k ≡ 2 → ⊥) → D ≡ bits_by k w D
unfolding bits_by
bits-other k w D a b = rw (ne_eqb k 1 a, ne_eqb k 2 b)

pub bits-stay : (k w D : ℕ) → 3 ≤ k → D ≡ bits_by k w D
bits-stay k w D l = bits-other k w D (λ e. omega arith) (λ e. omega arith)

pub counters-stay : (k w n : ℕ) (cs : List ℕ) → (k ≡ 3 → ⊥) → (k ≡ 4 → ⊥) → (k ≡ 5 → ⊥) → cs ≡ counters_by k w n cs
unfolding counters_by
counters-stay k w n cs a b c = rw (ne_eqb k 3 a, ne_eqb k 4 b, ne_eqb k 5 c)

pub alerts-stay : (k w n D : ℕ) (cs : List ℕ) (A : ℕ) → k < 6 → A ≡ alerts_by k w n D cs A
unfolding alerts_by
alerts-stay k w n D cs A l = rw (ne_eqb k 6 (λ e. omega arith), ne_eqb k 7 (λ e. omega arith), ne_eqb k 8 (λ e. omega arith))

-- ---- what the code's forms are

-- a one at place w
pub one_at : (w : ℕ) → w < 64 → (1 * 2 ^ w) % 18446744073709551616 ≡ 2 ^ w
one_at w h = shl_exact 1 w 64 (lit< tt) (omega arith) ∙ one-mul (2 ^ w)

-- an alert puts its signature among the words of the alerts
module _ (k w n D : ℕ) (cs : List ℕ) (A : ℕ) where
  pub alerts-put : alert_now k w D cs ≡ true → (B m v : ℕ) → m ≡ sig_words → v ≡ n → B ≡ insert (64 * m) A v → B ≡ alerts_by k w n D cs A
  unfolding alerts_by
  alerts-put e B m v l h q = rw e (rw (l, h) at q)

  pub alerts-none : alert_now k w D cs ≡ false → A ≡ alerts_by k w n D cs A
  unfolding alerts_by
  alerts-none e = rw e

-- ---- what stays within the limits

pub bits-kept : (k w D : ℕ) → D < 2 ^ bit_count → bits_by k w D < 2 ^ bit_count
unfolding bits_by
bits-kept k w D h = go (eqb k 1) (eqb k 2)
  where
    go : (a b : Bool) → cond a (insert bit_count D w) (cond b (without D w) D) < 2 ^ bit_count
    go true b = insert-lt bit_count D w h
    go false true = omega (arith, without-most D w)
    go false false = h

set-most : (cs : List ℕ) (w v b : ℕ) → ((i : ℕ) → get_or cs i 0 ≤ b) → v ≤ b → (i : ℕ) → get_or (set cs w v) i 0 ≤ b
set-most [] w v b h l i = h i
set-most (x ∷ cs) zero v b h l zero = l
set-most (x ∷ cs) zero v b h l (suc i) = h (suc i)
set-most (x ∷ cs) (suc w) v b h l zero = h 0
set-most (x ∷ cs) (suc w) v b h l (suc i) = set-most cs w v b (λ j. h (suc j)) l i

lower-most : (n b : ℕ) → off ≤ b → n ≤ b → lower n ≤ b
lower-most n b l h = go (eqb n 0) (eqb n off)
  where
    go : (a c : Bool) → cond a off (cond c off (n - 1)) ≤ b
    go true c = l
    go false true = l
    go false false = omega arith

module _ (k w n : ℕ) (cs : List ℕ) where
  pub counters-length : length (counters_by k w n cs) ≡ length cs
  unfolding counters_by
  counters-length = go (eqb k 3) (eqb k 4) (eqb k 5)
    where
      go : (a b c : Bool) → length (cond a (set cs w n) (cond b (set cs w off) (cond c (set cs w (lower (get_or cs w 0))) cs))) ≡ length cs
      go true b c = length-set cs w n
      go false true c = length-set cs w off
      go false false true = length-set cs w (lower (get_or cs w 0))
      go false false false = refl

  pub counters-kept : (b : ℕ) → off ≤ b → n ≤ b → ((i : ℕ) → get_or cs i 0 ≤ b) → (i : ℕ) → get_or (counters_by k w n cs) i 0 ≤ b
  unfolding counters_by
  counters-kept b o l h i = go (eqb k 3) (eqb k 4) (eqb k 5)
    where
      go : (x y z : Bool) → get_or (cond x (set cs w n) (cond y (set cs w off) (cond z (set cs w (lower (get_or cs w 0))) cs))) i 0 ≤ b
      go true y z = set-most cs w n b h l i
      go false true z = set-most cs w off b h o i
      go false false true = set-most cs w (lower (get_or cs w 0)) b h (lower-most (get_or cs w 0) b o (h w)) i
      go false false false = h i
