-- Two texts, ab and ac, joined: the two states behind a become one. Assumes nothing.
use Prim.Native.Nat.{ℕ}
use mathlib.Core.Path.{◌≡◌, refl}
use mathlib.Core.List.{List, [], ◌∷◌, ◌++◌}
use Rattle.rules.specs.Scan.{first, some, stack, gather}
use Rattle.sets.specs.Set.{holds, insert}
use Rattle.list.specs.Automaton.{start, highest_by}
use Rattle.list.specs.List.{record_with}
use Rattle.list_fold.specs.Fold.{folded, folded_by, counted, same, into, mark, alike, follows, chiefs, renumbered, new_record, stays}

abbrev two : List ℕ
two =
    (1 ∷ 0 ∷ 255 ∷ 0 ∷ 0 ∷ 0 ∷ 0 ∷ 0 ∷ []) ++ (2 ∷ 0 ∷ 0 ∷ 0 ∷ 0 ∷ 0 ∷ 0 ∷ 0 ∷ [])
    ++ (1 ∷ 97 ∷ 97 ∷ 0 ∷ 0 ∷ 0 ∷ 1 ∷ 0 ∷ []) ++ (1 ∷ 98 ∷ 98 ∷ 0 ∷ 1 ∷ 0 ∷ 2 ∷ 0 ∷ []) ++ (3 ∷ 0 ∷ 0 ∷ 0 ∷ 2 ∷ 0 ∷ 7 ∷ 0 ∷ [])
    ++ (1 ∷ 97 ∷ 97 ∷ 0 ∷ 0 ∷ 0 ∷ 3 ∷ 0 ∷ []) ++ (1 ∷ 99 ∷ 99 ∷ 0 ∷ 3 ∷ 0 ∷ 4 ∷ 0 ∷ []) ++ (3 ∷ 0 ∷ 0 ∷ 0 ∷ 4 ∷ 0 ∷ 8 ∷ 0 ∷ [])

pub two-folded : folded two
    ≡ ((1 ∷ 0 ∷ 255 ∷ 0 ∷ 0 ∷ 0 ∷ 0 ∷ 0 ∷ []) ++ (2 ∷ 0 ∷ 0 ∷ 0 ∷ 0 ∷ 0 ∷ 0 ∷ 0 ∷ [])
    ++ (1 ∷ 97 ∷ 97 ∷ 0 ∷ 0 ∷ 0 ∷ 1 ∷ 0 ∷ []) ++ (1 ∷ 98 ∷ 98 ∷ 0 ∷ 1 ∷ 0 ∷ 2 ∷ 0 ∷ []) ++ (3 ∷ 0 ∷ 0 ∷ 0 ∷ 2 ∷ 0 ∷ 7 ∷ 0 ∷ [])
    ++ (1 ∷ 99 ∷ 99 ∷ 0 ∷ 1 ∷ 0 ∷ 3 ∷ 0 ∷ []) ++ (3 ∷ 0 ∷ 0 ∷ 0 ∷ 3 ∷ 0 ∷ 8 ∷ 0 ∷ []))
unfolding folded_by counted same into mark alike follows chiefs renumbered new_record record_with stays first some stack holds insert gather start highest_by
two-folded = refl
