-- Rule 14 in a reader's words: when a frontier is stuck. Assumes nothing.
use Prim.Native.Nat.{ℕ, ◌≤◌, ◌<◌}
use mathlib.Core.Path.{◌≡◌, refl, sym, ◌∙◌}
use mathlib.Core.Bool.{Bool, true, false, ◌||◌, not, true≢false}
use mathlib.Core.List.{List}
use mathlib.Core.Logic.{◌⊎◌, ◌↔◌}
use lib.ListN.{length, get_or}
use lib.Dec.{leb, ltb}
use borrow.Author.Tests.{ltb-false, leb-true, le-leb}
use Rattle.rules.proofs.Scanning.{neither, either-words, over-words}
use Rattle.table.specs.Table.{Table, part_count, split_count, split_set, all_below, is_split, split_of}
use Rattle.table.proofs.Joined.{below_fails}
use Rattle.table.proofs.Found.{is-split, found-no}
use Rattle.table.proofs.Checked.{no-split}
use Rattle.table_feed.specs.Split.{taken, stuck}

module _ (S : List ℕ) (F : ℕ) where
  -- the search ends past the last split exactly when F is no split
  past : leb (split_count S) (split_of S F) ≡ true ↔ (is_split S F ≡ false)
  past = (
    λ e. found-no S F (split_count S) (split_of S F) refl refl (leb-true (split_count S) (split_of S F) e),
    λ n. le-leb (split_count S) (split_of S F) (ltb-false (split_of S F) (split_count S) (sym (is-split S F) ∙ n)),
  )

-- where nothing halts the frontier is a split
pub free-split : (b : ℕ) (T : Table) (F : ℕ) → stuck b T F ≡ false → is_split T.splits F ≡ true
unfolding stuck
free-split b T F e = go (is_split T.splits F) refl
  where
    go : (t : Bool) → is_split T.splits F ≡ t → t ≡ true
    go true q = refl
    go false q =
        let n = neither (leb (split_count T.splits) (split_of T.splits F) || not (all_below (part_count T.parts) (taken T F))) (ltb b (length (taken T F))) e in
        absurd (true≢false (sym ((past T.splits F).1 q) ∙ (neither (leb (split_count T.splits) (split_of T.splits F)) (not (all_below (part_count T.parts) (taken T F))) n.0).0))

-- no split has the set F, or a slot taken names no part, or more than b are taken
pub stuck-exactly : (b : ℕ) (T : Table) (F : ℕ) → stuck b T F ≡ true
    ↔ ((((j : ℕ) → j < split_count T.splits → split_set T.splits j ≡ F → ⊥)
    ⊎ ((i : ℕ) × (i < length (taken T F)) × (part_count T.parts ≤ get_or (taken T F) i 0)))
    ⊎ (b < length (taken T F)))
unfolding stuck
stuck-exactly b T F =
    either-words (None ⊎ Unnamed) (b < length (taken T F)) (leb (split_count T.splits) (split_of T.splits F) || not (all_below (part_count T.parts) (taken T F))) (ltb b (length (taken T F)))
    (either-words None Unnamed (leb (split_count T.splits) (split_of T.splits F)) (not (all_below (part_count T.parts) (taken T F)))
    (λ e. (no-split T.splits F).0 ((past T.splits F).0 e), λ n. (past T.splits F).1 ((no-split T.splits F).1 n))
    (below_fails (part_count T.parts) (taken T F)))
    (over-words b (length (taken T F)))
  where
    None : Type 0
    None = (j : ℕ) → j < split_count T.splits → split_set T.splits j ≡ F → ⊥

    Unnamed : Type 0
    Unnamed = (i : ℕ) × (i < length (taken T F)) × (part_count T.parts ≤ get_or (taken T F) i 0)
