-- Putting bytes at a place of a text: none, a byte, one run after another; the digits of a number; and two lines as an example. Assumes nothing.
use Prim.Native.Nat.{ℕ, zero, suc, ◌+◌, ◌*◌, ◌-◌, ◌/◌, ◌^◌, ◌≤◌, ◌<◌}
use mathlib.Core.Path.{◌≡◌, refl, ap, ◌∙◌}
use mathlib.Core.Bool.{Bool, true, false, cond}
use mathlib.Core.List.{List, [], ◌∷◌, ◌++◌}
use native.Mathlib.Omega.{arith}
use native.Mathlib.Nat.{one-le-pow, pow-suc}
use native.Mathlib.Numerals.{add-one}
use lib.ListN.{length, get_or, set, take, drop, length-append}
use lib.Seq.{take_at}
use lib.Dec.{ltb}
use borrow.Author.Tests.{lt-ltb, le-ltb}
use Rattle.io.specs.Digits.{last_digits, IsDigitCount}
use Rattle.numbers.specs.Number.{placed}
use Rattle.numbers.proofs.Placing.{placed-fits, length-placed, placed-none, placed_one, placed-after}
use Rattle.program_text.specs.Text.{most_digits, line_size, places, decimal, line, lines, last_line, Puts}

-- the first two pairs of "abab": `7 2`, `7 4`
pub lines-abab : lines (7 ∷ 2 ∷ 7 ∷ 4 ∷ []) 2 ≡ 55 ∷ 32 ∷ 50 ∷ 10 ∷ 55 ∷ 32 ∷ 52 ∷ 10 ∷ []
unfolding lines line decimal places
lines-abab = refl

pub decimal-most : decimal 4294967295 ≡ 52 ∷ 50 ∷ 57 ∷ 52 ∷ 57 ∷ 54 ∷ 55 ∷ 50 ∷ 57 ∷ 53 ∷ []
unfolding decimal places
decimal-most = refl

-- the last lines, as bytes: `end 4`, `end 4294967295`, `refused 1`, `refused 6`
pub last-lines : (last_line 0 4 ≡ 101 ∷ 110 ∷ 100 ∷ 32 ∷ 52 ∷ 10 ∷ [])
    × (last_line 0 4294967295 ≡ 101 ∷ 110 ∷ 100 ∷ 32 ∷ 52 ∷ 50 ∷ 57 ∷ 52 ∷ 57 ∷ 54 ∷ 55 ∷ 50 ∷ 57 ∷ 53 ∷ 10 ∷ [])
    × (last_line 1 0 ≡ 114 ∷ 101 ∷ 102 ∷ 117 ∷ 115 ∷ 101 ∷ 100 ∷ 32 ∷ 49 ∷ 10 ∷ [])
    × (last_line 6 4294963200 ≡ 114 ∷ 101 ∷ 102 ∷ 117 ∷ 115 ∷ 101 ∷ 100 ∷ 32 ∷ 54 ∷ 10 ∷ [])
unfolding last_line decimal places
last-lines = (refl, refl, refl, refl)

-- ---- putting

pub puts_none : (text : List ℕ) (at : ℕ) → at ≤ length text → Puts 0 [] text at (at + 0) text
puts_none text at l = (refl, omega arith, placed-none text at l, refl)

pub puts-byte : (text : List ℕ) (at b : ℕ) → at < length text → Puts 1 (b ∷ []) text at (at + 1) (set text at b)
puts-byte text at b l =
    let z : at + 0 ≡ at = omega arith in
    let e : set text at b ≡ placed text at (b ∷ []) =
    rw (z, ← placed-none text at (omega arith)) at (placed_one text at [] b (omega arith)) in
    (refl, omega arith, e, ap length e ∙ length-placed text at (b ∷ []))

pub puts-after : (m n : ℕ) (xs ys : List ℕ) (text : List ℕ) (at next : ℕ) (left : List ℕ) (last : ℕ) (end : List ℕ)
    → at + m + n ≤ length text → Puts m xs text at next left → Puts n ys left next last end → Puts (m + n) (xs ++ ys) text at last end
puts-after m n xs ys text at next left last end l p q =
    let j : length (xs ++ ys) ≡ length xs + length ys = length-append xs ys in
    let e : end ≡ placed text at (xs ++ ys) =
    q.2 ∙ ap (λ (t : List ℕ). placed t next ys) p.2 ∙ placed-after text at xs ys next p.0 (omega (arith, p.0, p.1, q.1)) in
    (omega (arith, p.0, q.0), omega (arith, p.1, q.1), e, q.3 ∙ p.3)

-- one more line
pub puts-line : (ws text : List ℕ) (i at : ℕ) (left : List ℕ) (next : ℕ) (end : List ℕ) → line_size * (i + 1) ≤ length text
    → Puts (line_size * i) (lines ws i) text 0 at left → Puts line_size (line (get_or ws (2 * i) 0) (get_or ws (2 * i + 1) 0)) left at next end
    → Puts (line_size * (i + 1)) (lines ws (i + 1)) text 0 next end
unfolding lines
puts-line ws text i at left next end l p q =
    let e : line_size * (i + 1) ≡ line_size * i + line_size = omega arith in
    rw (e, ap (λ (k : ℕ). lines ws k) (add-one i))
    (puts-after (line_size * i) line_size (lines ws i) (line (get_or ws (2 * i) 0) (get_or ws (2 * i + 1) 0)) text 0 at left next end (omega arith) p q)

-- with more room
pub puts-less : (m n : ℕ) (xs text : List ℕ) (at next : ℕ) (left : List ℕ) → m ≤ n → Puts m xs text at next left → Puts n xs text at next left
puts-less m n xs text at next left l p = (p.0, omega (arith, p.1), p.2, p.3)

-- with no more room than it takes
pub puts_whole : (m : ℕ) (xs text : List ℕ) (at next : ℕ) (left : List ℕ) → Puts m xs text at next left → Puts (length xs) xs text at next left
puts_whole m xs text at next left p = (p.0, omega arith, p.2, p.3)

-- what is put at the start of a text is its front
pub puts-front : (m : ℕ) (xs text : List ℕ) (next : ℕ) (left : List ℕ) → m ≤ length text → Puts m xs text 0 next left → take next left ≡ xs
puts-front m xs text next left l p =
    let z : next ≡ length xs = omega (arith, p.0) in
    rw (p.2, placed-fits text 0 xs (omega (arith, p.1)), z) (take_at xs (drop (0 + length xs) text) (length xs) refl)

-- ---- the digits of a number

-- at most as many as are looked for
places-most : (k n : ℕ) → places k n ≤ suc k
unfolding places
places-most zero n = omega arith
places-most (suc k) n = go (ltb n 10) (places-most k (n / 10))
  where
    go : (t : Bool) → places k (n / 10) ≤ suc k → cond t 1 (suc (places k (n / 10))) ≤ suc (suc k)
    go true h = omega arith
    go false h = omega arith

-- the fewest digits that hold a number of at most k + 1 digits
fewest-places : (k n r : ℕ) → n < 10 ^ suc k → IsDigitCount 10 1 n r → r ≡ places k n
unfolding places
fewest-places k n zero l f = absurd (omega (arith, f.0))
fewest-places zero n (suc zero) l f = refl
fewest-places (suc k) n (suc zero) l f = rw (lt-ltb n 10 f.1)
fewest-places zero n (suc (suc r)) l f =
    let e : suc (suc r) - 1 ≡ suc r = omega arith in
    let g : 10 ^ suc r ≤ n = rw e at (f.2 (omega arith)) in
    absurd (omega (arith, l, g, pow-suc 10 r, one-le-pow r 10 (omega arith)))
fewest-places (suc k) n (suc (suc r)) l f =
    let e : suc (suc r) - 1 ≡ suc r = omega arith in
    let g : 10 ^ suc r ≤ n = rw e at (f.2 (omega arith)) in
    let d : suc r - 1 ≡ r = omega arith in
    let h : IsDigitCount 10 1 (n / 10) (suc r) =
    (omega arith, omega (arith, f.1, pow-suc 10 (suc r)), λ m. rw d (omega (arith, g, pow-suc 10 r))) in
    rw (le-ltb n 10 (omega (arith, g, pow-suc 10 r, one-le-pow r 10 (omega arith))))
    (ap suc (fewest-places k (n / 10) (suc r) (omega (arith, l, pow-suc 10 (suc k))) h))

-- so the fewest digits of a number of 64 bits are those of `decimal`, and there are at most 20
module _ (n r : ℕ) (l : n < 2 ^ 64) (f : IsDigitCount 10 1 n r) where
  e : r ≡ places 19 n
  e = fewest-places 19 n r (omega arith) f

  pub digits-most : r ≤ most_digits
  digits-most = omega (arith, e, places-most 19 n)

  pub digits_decimal : last_digits 10 r n ≡ decimal n
  unfolding decimal
  digits_decimal = rw e
