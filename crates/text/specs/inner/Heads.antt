-- What comes next in a text, as the functions that read it say it of each other: its first byte, that it is no mark, that a body ends there.
use Rattle.std.specs.Prelude.{ℕ, ◌≡◌, false, List, [], ◌∷◌, ◌⊎◌, eqb}

-- the first byte, or d where there is none
abbrev pub head_of : ℕ → List ℕ → ℕ
head_of d [] = d
head_of d (c ∷ w) = c

-- what comes is no mark
abbrev pub Calm : List ℕ → Type 0
Calm x = (eqb (head_of 0 x) 42 ≡ false) × (eqb (head_of 0 x) 43 ≡ false) × (eqb (head_of 0 x) 63 ≡ false) × (eqb (head_of 0 x) 123 ≡ false)

-- a body ends at the end of the text or at a closing bracket
abbrev pub Stop : List ℕ → Type 0
Stop x = (x ≡ []) ⊎ ((y : List ℕ) × (x ≡ 41 ∷ y))
