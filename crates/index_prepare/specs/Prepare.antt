-- Splits and an index straight from a list: the sets that can be reached, rising, each as a split without slots, and their index, at one row a byte. What the two lent lists hold at the end.
use Rattle.std.specs.Prelude.{ℕ, suc, ◌*◌, ◌≤◌, ◌≡◌, Bool, ◌||◌, List, [], ◌∷◌, ◌++◌, length, get_or, replicate, ltb}
use Rattle.sets.specs.Set.{set_bytes}
use Rattle.rules.specs.Scan.{stack}
use Rattle.rules.specs.Rules.{Rule, verdict}
use Rattle.list.specs.List.{list_rules}
use Rattle.table.specs.Table.{most_splits, split_size}
use Rattle.table_build.specs.Build.{Many, Reached, over}
use Rattle.index.specs.Entry.{entry_place}
use Rattle.index_fill.specs.Filled.{index_of}

-- a split without slots: the set, and four unused slots
abbrev pub bare_split : ℕ → List ℕ
bare_split S = set_bytes S ++ replicate 8 255

unfoldable pub splits_of : List ℕ → List ℕ
splits_of xs = stack (λ i. bare_split (get_or xs i 0)) (length xs)

-- their index: a byte costs one row
abbrev pub made_index : List ℕ → List ℕ → List ℕ
made_index L xs = index_of L 1 (splits_of xs) (length xs)

-- ---- the outcome: refusal, the two lengths used, and the two lists at exit

pub record Preparing : Type 0 where
  pub refusal : ℕ
  pub splits : ℕ
  pub index : ℕ
  pub made : List ℕ
  pub indexed : List ℕ

-- 17: a lent list has not the bytes for the most splits
unfoldable pub too_short : List ℕ → List ℕ → Bool
too_short S X = ltb (length S) (split_size * most_splits) || ltb (length X) (entry_place most_splits)

abbrev pub early_rules : List ℕ → List ℕ → List ℕ → List Rule
early_rules L S X = list_rules L ++ ((17, too_short S X) ∷ [])

-- two fronts laid into the lists lent, under a refusal's number
abbrev pub laid : ℕ → List ℕ → List ℕ → List ℕ → List ℕ → Preparing
laid n front entries S X = record { refusal = n; splits = length front; index = length entries; made = over front S; indexed = over entries X }

-- what is done with the list L and the lent lists S and X: 1 to 3 and 17 change nothing; 16, for more sets that can be reached than there may be splits, leaves zeros
pub data Prepares (L S X : List ℕ) (o : Preparing) : Type 0 where
  refuses : (verdict (early_rules L S X) ≡ 0 → ⊥) → o ≡ record { refusal = verdict (early_rules L S X); splits = 0; index = 0; made = S; indexed = X } → Prepares L S X o
  passes_limit : verdict (early_rules L S X) ≡ 0 → Many L (suc most_splits) → o ≡ laid 16 [] [] S X → Prepares L S X o
  prepares : verdict (early_rules L S X) ≡ 0 → (xs : List ℕ) → length xs ≤ most_splits → Reached L xs → o ≡ laid 0 (splits_of xs) (made_index L xs) S X → Prepares L S X o
