-- A table of rules in its order, and what it gives.
use Rattle.std.specs.Prelude.{ℕ, zero, suc, ◌<◌, Bool, true, false, cond, List, [], ◌∷◌, ◌↔◌, ◌≡◌, length}

-- a rule: a refusal's number, and whether it applies
abbrev pub Rule : Type 0
Rule = ℕ × Bool

-- of a table of rules the first that applies gives its number; 0 where none applies
unfoldable pub verdict : List Rule → ℕ
verdict [] = 0
verdict (r ∷ rs) = cond r.1 r.0 (verdict rs)

-- ---- what a table of rules says, for a reader

-- row i of a table: its number, and whether it applies
abbrev pub number : List Rule → ℕ → ℕ
number [] i = 0
number (r ∷ rs) zero = r.0
number (r ∷ rs) (suc i) = number rs i

abbrev pub applies : List Rule → ℕ → Bool
applies [] i = false
applies (r ∷ rs) zero = r.1
applies (r ∷ rs) (suc i) = applies rs i

-- row i applies, and no row before it does
abbrev pub Given : List Rule → ℕ → Type 0
Given rs i = (applies rs i ≡ true) × ((j : ℕ) → j < i → applies rs j ≡ false)

-- the numbers of a table rise, so that the first row that applies has the lowest number that does
abbrev pub Rises : List Rule → Type 0
Rises rs = (i j : ℕ) → i < j → j < length rs → number rs i < number rs j

-- a refusal is 0 exactly when no row applies, and a row's number exactly when that row is the first that does
pub record Refuses (rs : List Rule) (refusal : ℕ) : Type 0 where
  pub passes : (refusal ≡ 0) ↔ ((i : ℕ) → i < length rs → applies rs i ≡ false)
  pub gives : (i : ℕ) → i < length rs → (refusal ≡ number rs i) ↔ Given rs i
