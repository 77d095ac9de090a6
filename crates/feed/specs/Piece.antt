-- The rules that every feed has for its piece, at the offset of its flow: 5 and 6, and what each is given for.
use Rattle.std.specs.Prelude.{ℕ, ◌+◌, ◌<◌, Bool, not, List, [], ◌∷◌, ◌≡◌, length, ltb, eqb}
use Rattle.rules.specs.Rules.{Rule}
use Rattle.rules.specs.Words.{Row}
use Rattle.feed.specs.Engine.{most_offset}

-- 5: the piece's stated start differs from the flow's offset k
abbrev pub other_start : ℕ → ℕ → Bool
other_start k at = not (eqb at k)

-- 6: offset + piece length is over the largest offset
abbrev pub too_long : ℕ → List ℕ → Bool
too_long k piece = ltb most_offset (k + length piece)

-- both, in this order
abbrev pub piece_rules : ℕ → ℕ → List ℕ → List Rule
piece_rules k at piece = (5, other_start k at) ∷ (6, too_long k piece) ∷ []

-- and in words
abbrev pub piece_words : ℕ → ℕ → List ℕ → List Row
piece_words k at piece = (5, at ≡ k → ⊥) ∷ (6, 4294967295 < k + length piece) ∷ []
