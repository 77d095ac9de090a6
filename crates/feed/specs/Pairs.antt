-- The words that a feed writes, read as pairs: signature, then offset.
use Rattle.std.specs.Prelude.{ℕ, ◌+◌, ◌*◌, ◌<◌, ◌≡◌, List, ◌⊎◌, length, get_or}

-- the pair (g, o) stands among the words: its signature at an even place, its offset at the next
abbrev pub Pair : List ℕ → ℕ → ℕ → Type 0
Pair ws g o = (i : ℕ) × (2 * i + 1 < length ws) × (get_or ws (2 * i) 0 ≡ g) × (get_or ws (2 * i + 1) 0 ≡ o)

-- the pair at place i is before that at place j: by offset, and at one offset by signature
abbrev pub Before : List ℕ → ℕ → ℕ → Type 0
Before ws i j =
    (get_or ws (2 * i + 1) 0 < get_or ws (2 * j + 1) 0)
    ⊎ ((get_or ws (2 * i + 1) 0 ≡ get_or ws (2 * j + 1) 0) × (get_or ws (2 * i) 0 < get_or ws (2 * j) 0))
