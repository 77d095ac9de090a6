-- A run of the automaton in words: states one after the other, an edge for each byte, and a state at its end that answers a question; and which of two runs is lower.
use Rattle.std.specs.Prelude.{ℕ, suc, ◌≤◌, ◌<◌, ◌≡◌, true, List, ◌⊎◌, length, get_or}
use Rattle.sets.specs.Set.{holds}
use Rattle.list.specs.List.{records, is_accept, from, target}
use Rattle.list.specs.Automaton.{edge}

-- some edge record of L, which byte c takes, in either case too where it says so, leads from s to t
abbrev pub Edge : List ℕ → ℕ → ℕ → ℕ → Type 0
Edge L c s t = (i : ℕ) × (i < records L) × (edge L c i ≡ true) × (from L i ≡ s) × (target L i ≡ t)

-- some accept record of L gives g at s
abbrev pub Accepts : List ℕ → ℕ → ℕ → Type 0
Accepts L s g = (i : ℕ) × (i < records L) × (is_accept L i ≡ true) × (from L i ≡ s) × (target L i ≡ g)

-- what is asked of an offset: why a signature is given there, or why a state is in the frontier
pub data Question : Type 0 where
  of_signature : ℕ → Question
  of_state : ℕ → Question

-- a run that ends in s answers it: s accepts the signature, or is the state
abbrev pub Ends : List ℕ → Question → ℕ → Type 0
Ends L (of_signature g) s = Accepts L s g
Ends L (of_state t) s = s ≡ t

-- xs is a run from a state of F over the first n bytes of bs that answers q: n + 1 states, an edge from each to the next, and the last answers
pub record Run (L : List ℕ) (F : ℕ) (bs : List ℕ) (n : ℕ) (q : Question) (xs : List ℕ) : Type 0 where
  pub long : length xs ≡ suc n
  pub starts : holds F (get_or xs 0 0) ≡ true
  pub moves : (i : ℕ) → i < n → Edge L (get_or bs i 0) (get_or xs i 0) (get_or xs (suc i) 0)
  pub ends : Ends L q (get_or xs n 0)

-- there is a run
abbrev pub Runs : List ℕ → ℕ → List ℕ → ℕ → Question → Type 0
Runs L F bs n q = (xs : List ℕ) × Run L F bs n q xs

-- xs is ys, or lower: at the last place where they differ, of the places 0 to n, xs has the lower state
abbrev pub NotOver : ℕ → List ℕ → List ℕ → Type 0
NotOver n xs ys = (xs ≡ ys) ⊎ ((i : ℕ) × (i ≤ n) × (get_or xs i 0 < get_or ys i 0) × ((j : ℕ) → i < j → j ≤ n → get_or xs j 0 ≡ get_or ys j 0))
