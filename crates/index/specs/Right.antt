-- A right index for a list and splits, whoever made it: in words of the list's automaton on the sets of the splits.
use Rattle.std.specs.Prelude.{ℕ, ◌+◌, ◌<◌, ◌≤◌, ◌≡◌, true, false, not, cond, List, eqb}
use Rattle.sets.specs.Set.{sigs_at, within}
use Rattle.list.specs.List.{list_refusal}
use Rattle.list.specs.Automaton.{start, step, accepted, named}
use Rattle.table.specs.Table.{byte_values, split_count, split_set, in_order}
use Rattle.feed.specs.Calls.{Bytes}
use Rattle.index_blocks.specs.Block.{word_at}
use Rattle.index.specs.Entry.{sigs_place, entry_place, telling, cost_at, flag_at, known_in, bad_index}

-- i is a split, and its set is F
abbrev pub IsAt : List ℕ → ℕ → ℕ → Type 0
IsAt S F i = (i < split_count S) × (split_set S i ≡ F)

-- the word of a byte that leads to the entry of split j, whose set accepts G
abbrev pub word_to : ℕ → ℕ → ℕ
word_to j G = entry_place j + cond (eqb G 0) 0 telling

-- what X says of named states is what L names
pub record Naming (L S X : List ℕ) : Type 0 where
  pub known : (F : ℕ) → known_in X F ≡ within F (named L)
  pub flags : (i : ℕ) → i < split_count S → not (eqb (flag_at X (entry_place i)) 0) ≡ within (split_set S i) (named L)

pub record Right (L S X : List ℕ) : Type 0 where
  pub list : list_refusal L ≡ 0
  pub bytes : Bytes S
  pub good : bad_index S X ≡ false
  -- the splits rise, and the start set is one
  pub ordered : (i : ℕ) → i < split_count S → in_order S i ≡ true
  pub begins : (i : ℕ) × IsAt S (start L) i
  -- every word leads to the split of the list's step, and says whether that tells
  pub leads : (i c : ℕ) → i < split_count S → c < byte_values
      → (j : ℕ) × IsAt S (step L (split_set S i) c) j × (word_at X (entry_place i) c ≡ word_to j (accepted L (step L (split_set S i) c)))
  -- what an entry tells is what the set accepts
  pub tells : (i : ℕ) → i < split_count S → sigs_at X (entry_place i + sigs_place) ≡ accepted L (split_set S i)
  pub names : Naming L S X

-- a byte at the split with set F costs f F, which is at most b
abbrev pub Costs : ℕ → (ℕ → ℕ) → List ℕ → List ℕ → Type 0
Costs b f S X = (i : ℕ) → i < split_count S → (cost_at X (entry_place i) ≡ f (split_set S i)) × (f (split_set S i) ≤ b)
