-- The text of pairs, a line for each, in decimal; the last line; and what putting bytes at a place of a text leaves.
use Rattle.std.specs.Prelude.{ℕ, zero, suc, ◌+◌, ◌*◌, ◌/◌, ◌≤◌, ◌≡◌, cond, List, [], ◌∷◌, ◌++◌, length, get_or, ltb, eqb}
use Rattle.io.specs.Digits.{last_digits}
use Rattle.numbers.specs.Number.{placed}

-- the most digits of a number; the most bytes of a line: two numbers, a space and a line feed
abbrev pub most_digits : ℕ
most_digits = 20

abbrev pub line_size : ℕ
line_size = 2 * most_digits + 2

-- the most bytes of a last line's word
abbrev pub word_size : ℕ
word_size = 8

-- how many digits n has, where that is at most k + 1: one for 0, and no zero in front
unfoldable pub places : ℕ → ℕ → ℕ
places zero n = 1
places (suc k) n = cond (ltb n 10) 1 (suc (places k (n / 10)))

-- a number in decimal
unfoldable pub decimal : ℕ → List ℕ
decimal n = last_digits 10 (places 19 n) n

-- the line of a pair: signature, a space, offset, a line feed
unfoldable pub line : ℕ → ℕ → List ℕ
line g k = decimal g ++ (32 ∷ []) ++ decimal k ++ (10 ∷ [])

-- the lines of the first n pairs of some words
unfoldable pub lines : List ℕ → ℕ → List ℕ
lines ws zero = []
lines ws (suc n) = lines ws n ++ line (get_or ws (2 * n) 0) (get_or ws (2 * n + 1) 0)

-- `end ` and `refused `
abbrev pub end_word : List ℕ
end_word = 101 ∷ 110 ∷ 100 ∷ 32 ∷ []

abbrev pub refused_word : List ℕ
refused_word = 114 ∷ 101 ∷ 102 ∷ 117 ∷ 115 ∷ 101 ∷ 100 ∷ 32 ∷ []

-- the last line: `end` and the offset, or `refused` and a number that is not 0; a line feed
unfoldable pub last_line : ℕ → ℕ → List ℕ
last_line refusal at = cond (eqb refusal 0) (end_word ++ decimal at ++ (10 ∷ [])) (refused_word ++ decimal refusal ++ (10 ∷ []))

-- the bytes xs, at most m of them, are put at a place of the text, which leaves `left`; the place after them is `next`
abbrev pub Puts : ℕ → List ℕ → List ℕ → ℕ → ℕ → List ℕ → Type 0
Puts m xs text at next left = (next ≡ at + length xs) × (length xs ≤ m) × (left ≡ placed text at xs) × (length left ≡ length text)
