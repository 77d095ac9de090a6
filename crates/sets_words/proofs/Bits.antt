-- Bits of a word: shifted up, shifted down, cut off; and the bits of a list of words. Assumes nothing.
use Prim.Native.Nat.{ℕ, suc, ◌+◌, ◌-◌, ◌*◌, ◌/◌, ◌%◌, ◌^◌, ◌≤◌, ◌<◌}
use mathlib.Core.Path.{◌≡◌, sym, ap, ◌∙◌}
use mathlib.Core.Bool.{false, ◌||◌}
use mathlib.Core.List.{List}
use native.Mathlib.Omega.{arith}
use native.Mathlib.Nat.{mul_assoc}
use lib.Dec.{eqb, lit<}
use lib.ListN.{get_or}
use lib.Pow.{pow-add, shl-shr, shr-shr, field, mod-mod-pow}
use lib.Bits.{bit_or, shifted_even}
use Rattle.numbers.specs.Number.{num, bit}
use Rattle.sets.specs.Set.{holds, join}
use Rattle.numbers.proofs.Laws.{Small}
use Rattle.sets.proofs.Sets.{holds-join, holds-num}

pub bit_up : (S d q : ℕ) → bit (S * 2 ^ d) (d + q) ≡ bit S q
bit_up S d q = ap (λ z. z % 2) (sym (shr-shr (S * 2 ^ d) d q) ∙ ap (λ z. z / 2 ^ q) (shl-shr S d))

pub bit-under : (S d q : ℕ) → q < d → bit (S * 2 ^ d) q ≡ 0
bit-under S d q h =
    let e : d ≡ suc (d - suc q) + q = omega arith in
    ap (λ z. S * 2 ^ z / 2 ^ q % 2) e
    ∙ ap (λ z. z / 2 ^ q % 2) (ap (λ z. S * z) (pow-add 2 (suc (d - suc q)) q) ∙ sym (mul_assoc S (2 ^ suc (d - suc q)) (2 ^ q)))
    ∙ ap (λ z. z % 2) (shl-shr (S * 2 ^ suc (d - suc q)) q)
    ∙ shifted_even S (d - suc q)

pub bit-mod : (n m q : ℕ) → q < m → bit (n % 2 ^ m) q ≡ bit n q
bit-mod n m q h =
    let e : m ≡ (m - q) + q = omega arith in
    let f : m - q ≡ (m - suc q) + 1 = omega arith in
    ap (λ z. n % 2 ^ z / 2 ^ q % 2) e ∙ ap (λ z. z % 2) (field n (m - q) q) ∙ ap (λ z. n / 2 ^ q % 2 ^ z % 2) f ∙ mod-mod-pow (n / 2 ^ q) (m - suc q) 1

pub join-or : (a b s : ℕ) → holds (bit_or a b) s ≡ (holds a s || holds b s)
unfolding join
join-or a b s = holds-join a b s

pub up_in : (x b s : ℕ) → b ≤ s → s < 64 → holds ((x * 2 ^ b) % 2 ^ 64) s ≡ holds x (s - b)
unfolding holds
up_in x b s h l = let e : s ≡ b + (s - b) = omega arith in ap (λ z. eqb z 1) (bit-mod (x * 2 ^ b) 64 s l ∙ ap (λ z. bit (x * 2 ^ b) z) e ∙ bit_up x b (s - b))

pub up-under : (x b s : ℕ) → s < b → s < 64 → holds ((x * 2 ^ b) % 2 ^ 64) s ≡ false
unfolding holds
up-under x b s h l = ap (λ z. eqb z 1) (bit-mod (x * 2 ^ b) 64 s l ∙ bit-under x b s h)

pub down : (x b s : ℕ) → holds (x / 2 ^ b) s ≡ holds x (b + s)
unfolding holds
down x b s = ap (λ z. eqb (z % 2) 1) (shr-shr x b s)

-- bit s of word m
pub word-bit : (ws : List ℕ) (m s q : ℕ) → Small 64 ws → s < 64 → q ≡ 64 * m + s → holds (num 64 ws) q ≡ holds (get_or ws m 0) s
unfolding holds
word-bit ws m s q h l e =
    let a : q / 64 ≡ m = omega arith in
    let b : q % 64 ≡ s = omega arith in
    holds-num 64 ws h (lit< tt) q ∙ rw (a, b)
