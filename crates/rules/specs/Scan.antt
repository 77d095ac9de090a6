-- The words in which every rule scans: some, every, first, rising, gather; and stack, in which what is written is said.
use Rattle.std.specs.Prelude.{ℕ, zero, suc, Bool, true, false, ◌&&◌, ◌||◌, cond, List, [], ◌∷◌, ◌++◌, leb}
use Rattle.sets.specs.Set.{insert}

-- p holds of some number below n
unfoldable pub some : ℕ → (ℕ → Bool) → Bool
some zero p = false
some (suc n) p = some n p || p n

-- p holds of every number below n
unfoldable pub every : ℕ → (ℕ → Bool) → Bool
every zero p = true
every (suc n) p = every n p && p n

-- the first number below n of which p holds; n where there is none
unfoldable pub first : ℕ → (ℕ → Bool) → ℕ
first zero p = zero
first (suc n) p = cond (some n p) (first n p) (cond (p n) n (suc n))

-- the numbers of the list rise strictly, from `least` on
unfoldable pub rising : ℕ → List ℕ → Bool
rising least [] = true
rising least (x ∷ xs) = leb least x && rising (suc x) xs

-- the set of the numbers `to i` below m, for each i below n of which p holds
unfoldable pub gather : ℕ → (ℕ → Bool) → (ℕ → ℕ) → ℕ → ℕ
gather m p to zero = 0
gather m p to (suc n) = cond (p n) (insert m (gather m p to n) (to n)) (gather m p to n)

-- f 0 to f (n - 1), one after the other
unfoldable pub stack : (ℕ → List ℕ) → ℕ → List ℕ
stack f zero = []
stack f (suc n) = stack f n ++ f n
