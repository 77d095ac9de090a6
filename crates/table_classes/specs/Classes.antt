-- The classes of the bytes, as coarse as a list permits: what they are, and the list of them.
use Rattle.std.specs.Prelude.{ℕ, zero, suc, ◌+◌, ◌^◌, Bool, cond, List, [], ◌∷◌, eqb}
use Rattle.sets.specs.Set.{states}
use Rattle.rules.specs.Scan.{every, first, stack}
use Rattle.list.specs.Automaton.{step}
use Rattle.table.specs.Table.{byte_values, most_class, class_count}

-- the most classes
abbrev pub most_classes : ℕ
most_classes = suc most_class

-- every state steps alike on both bytes
unfoldable pub alike : List ℕ → ℕ → ℕ → Bool
alike L c d = every states (λ s. eqb (step L (2 ^ s) c) (step L (2 ^ s) d))

-- how many numbers below n pass p
unfoldable pub count : (ℕ → Bool) → ℕ → ℕ
count p zero = 0
count p (suc n) = count p n + cond (p n) 1 0

-- the lowest byte that shares c's class; the bytes that are the lowest of theirs; a class's number is how many of those stand below its lowest
unfoldable pub lowest_like : List ℕ → ℕ → ℕ
lowest_like L c = first byte_values (λ d. alike L d c)

abbrev pub leads : List ℕ → ℕ → Bool
leads L c = eqb (lowest_like L c) c

unfoldable pub class_of : List ℕ → ℕ → ℕ
class_of L c = count (leads L) (lowest_like L c)

-- ---- the list

unfoldable pub classes_of : List ℕ → List ℕ
classes_of L = stack (λ c. class_of L c ∷ []) byte_values

abbrev pub class_total : List ℕ → ℕ
class_total L = class_count (classes_of L)

-- the lowest byte of class k
unfoldable pub lowest_of : List ℕ → ℕ → ℕ
lowest_of L k = first byte_values (λ c. eqb (class_of L c) k)
