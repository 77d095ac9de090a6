-- The order of byte strings in words.
use Rattle.std.specs.Prelude.{ℕ, ◌<◌, ◌≡◌}

-- of n bytes each: there is a place where x has the smaller byte, and before it no byte differs
abbrev pub Smaller : ℕ → (ℕ → ℕ) → (ℕ → ℕ) → Type 0
Smaller n x y = (k : ℕ) × (k < n) × ((j : ℕ) → j < k → x j ≡ y j) × (x k < y k)
