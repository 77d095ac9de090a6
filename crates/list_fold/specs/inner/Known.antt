-- What the code of folding keeps at hand: the edges to each state, the chiefs and the new numbers.
use Rattle.std.specs.Prelude.{ℕ, suc, ◌≤◌, ◌<◌, ◌≡◌, true, ◌&&◌, cond, List, [], length, take, get_or, leb}
use Rattle.sets.specs.Set.{states}
use Rattle.rules.specs.Scan.{first}
use Rattle.list.specs.List.{most_records, records, is_edge, target}
use Rattle.list.specs.Automaton.{highest}
use Rattle.list_fold.specs.Fold.{counted, into, chiefs, chief_of, leading, renumbered, new_record, stays}

-- what record i gives
abbrev pub gives : (ℕ → ℕ) → List ℕ → ℕ → List ℕ
gives c L i = cond (stays c L i) (new_record c L i) []

-- the first edge to s from record i on; the number of records where there is none
unfoldable pub seek : List ℕ → ℕ → ℕ → ℕ
seek L s i = first (records L) (λ k. leb i k && into L s k)

-- of each state the first edge to it from record i on, and of each of these edges the next one to the same state
pub record Linked (L H N : List ℕ) (i : ℕ) : Type 0 where
  pub few : records L ≤ most_records
  pub heads : (s : ℕ) → s < states → get_or H s 0 ≡ seek L s i
  pub nexts : (j : ℕ) → i ≤ j → j < records L → is_edge L j ≡ true → target L j < states → get_or N j 0 ≡ seek L (target L j) (suc j)
  pub long-heads : length H ≡ states
  pub long-nexts : length N ≡ most_records

-- the new numbers of the first n states, and how many chiefs they have
pub record Numbered (c : ℕ → ℕ) (M : List ℕ) (n next : ℕ) : Type 0 where
  pub numbers : (s : ℕ) → s < n → get_or M s 0 ≡ renumbered c s
  pub count : next ≡ counted (leading c) n
  pub long : length M ≡ states

-- the chiefs of the states that the list names, and their new numbers
pub record Known (L C M : List ℕ) (top : ℕ) : Type 0 where
  pub top-is : top ≡ suc (highest L)
  pub low : top ≤ states
  pub chiefs-are : take top C ≡ chiefs L top
  pub long : length C ≡ states
  pub numbered : (s : ℕ) → s < top → get_or M s 0 ≡ renumbered (chief_of L) s
  pub many : length M ≡ states
