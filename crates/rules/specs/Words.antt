-- A table of words beside a table of rules, and what it gives.
use Rattle.std.specs.Prelude.{ℕ, List, [], ◌∷◌, ◌⊎◌, ◌↔◌, ◌≡◌}

-- a row: a number, and what it is given for
abbrev pub Row : Type 1
Row = ℕ × Type 0

-- what no row is given for
abbrev pub None : List Row → Type 0
None [] = Unit {0}
None (w ∷ ws) = (w.1 → ⊥) × None ws

-- n is the number of the first row that is given
abbrev pub First : List Row → ℕ → Type 0
First [] n = ⊥
First (w ∷ ws) n = ((w.0 ≡ n) × w.1) ⊎ ((w.1 → ⊥) × First ws n)

-- a refusal is 0 exactly when no row is given, and n exactly when n is the number of the first that is
pub record InWords (ws : List Row) (refusal : ℕ) : Type 0 where
  pub passes : (refusal ≡ 0) ↔ None ws
  pub gives : (n : ℕ) → (n ≡ 0 → ⊥) → (refusal ≡ n) ↔ First ws n
