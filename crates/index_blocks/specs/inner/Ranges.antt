-- Two ranges of bytes that leave a place, and the first byte of a block that lies in them.
use Rattle.std.specs.Prelude.{ℕ, zero, suc, ◌+◌, ◌-◌, ◌%◌, Bool, cond, ◌||◌, ◌==◌, nat_le, nat_lt, Option, None, Some}

-- bytes in a block; what is answered where no byte of it lies in the ranges
abbrev pub block_size : ℕ
block_size = 32

abbrev pub none : ℕ
none = 255

-- how far byte x is from byte `low`, upwards and around
abbrev pub above : ℕ → ℕ → ℕ
above low x = (x + (256 - low)) % 256

-- byte x is one of the bytes from `low` on, `more` of them beside it
abbrev pub inside : ℕ → ℕ → ℕ → Bool
inside low more x = nat_le (above low x) more

-- it lies in one of two such ranges
abbrev pub hot : ℕ → ℕ → ℕ → ℕ → ℕ → Bool
hot a m b n x = inside a m x || inside b n x

abbrev pub least : ℕ → ℕ → ℕ
least x y = cond (nat_lt x y) x y

-- the first number below n of which p holds; 255 where there is none
unfoldable pub met : ℕ → (ℕ → Bool) → ℕ
met zero p = none
met (suc n) p = least (met n p) (cond (p n) n none)

-- the same, where there is one
abbrev pub first_met : ℕ → (ℕ → Bool) → Option ℕ
first_met n p = cond (met n p == none) None (Some (met n p))
