-- What telling a byte's pairs leaves: all of them, or none where they do not fit.
use Rattle.std.specs.Prelude.{ℕ, ◌+◌, ◌*◌, ◌-◌, ◌/◌, ◌≡◌, cond, List, length, leb, Option, is_some, IfSome}
use Rattle.numbers.specs.Number.{placed}
use Rattle.sets.specs.Set.{signatures, size, members}
use Rattle.feed.specs.Engine.{pairs_at}

-- of the pairs of G's members at offset k, from word w on: the word after them, where they fit
pub record TellsAll (G : ℕ) (out : List ℕ) (w k : ℕ) (t : Option ℕ) (left : List ℕ) : Type 0 where
  pub fits : is_some t ≡ leb (size signatures G) ((length out - w) / 2)
  pub words : IfSome t (λ n. n ≡ w + 2 * size signatures G)
  pub wrote : left ≡ cond (is_some t) (placed out w (pairs_at k (members signatures G))) out
