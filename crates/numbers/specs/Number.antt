-- Numbers and their digits, lowest first; bytes written over a list; and the order of byte strings: the first place where two differ decides.
use Rattle.std.specs.Prelude.{ℕ, zero, suc, ◌+◌, ◌*◌, ◌/◌, ◌%◌, ◌^◌, List, [], ◌∷◌, ◌++◌, Bool, true, false, ◌&&◌, ◌||◌, cond, length, take, drop, leb, ltb, eqb}
use Rattle.std.specs.declared.cmp.Ordering.{Ordering}
use Rattle.std.specs.declared.cmp.Ordering.TheVariants.{Less, Equal, Greater}

-- as many values as a byte has
abbrev pub byte_values : ℕ
byte_values = 256

-- the number whose digits of k bits are the list's, lowest first
unfoldable pub num : ℕ → List ℕ → ℕ
num k [] = 0
num k (w ∷ ws) = num k ws * 2 ^ k + w

-- the m lowest digits of k bits of a number, lowest first
unfoldable pub digits : ℕ → ℕ → ℕ → List ℕ
digits k zero n = []
digits k (suc m) n = n % 2 ^ k ∷ digits k m (n / 2 ^ k)

-- bit s of a number
abbrev pub bit : ℕ → ℕ → ℕ
bit n s = n / 2 ^ s % 2

-- bytes written over a list from a place on, where they all fit there; where they do not, the list stays
unfoldable pub placed : List ℕ → ℕ → List ℕ → List ℕ
placed b at xs = cond (leb (at + length xs) (length b)) (take at b ++ (xs ++ drop (at + length xs) b)) b

-- a comes before b as a string of bytes: the first place where they differ decides
unfoldable pub before : List ℕ → List ℕ → Bool
before [] [] = false
before [] (y ∷ b) = true
before (x ∷ a) [] = false
before (x ∷ a) (y ∷ b) = ltb x y || eqb x y && before a b

-- how a stands to b as a string of bytes: the same, less where it comes before, greater where it comes after
unfoldable pub compare : List ℕ → List ℕ → Ordering
compare a b = cond (before a b) Less (cond (before b a) Greater Equal)
