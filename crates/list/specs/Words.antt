-- The records of a list in words: byte by byte what each kind holds and which states it names, and which byte takes an edge.
use Rattle.std.specs.Prelude.{ℕ, ◌+◌, ◌*◌, ◌≤◌, ◌<◌, ◌≡◌, true, List, ◌⊎◌, get_or}
use Rattle.sets.specs.Set.{states, signatures}
use Rattle.list.specs.List.{byte_of, is_edge, low, high}
use Rattle.list.specs.Automaton.{exchanged}

-- 1, edge: 1 low, 2 high, 3 zero or 1, 4-5 from, 6-7 to
pub record Edge-bytes (L : List ℕ) (i : ℕ) : Type 0 where
  pub kind : get_or L (8 * i) 0 ≡ 1
  pub order : get_or L (8 * i + 1) 0 ≤ get_or L (8 * i + 2) 0
  pub flag : (get_or L (8 * i + 3) 0 ≡ 0) ⊎ (get_or L (8 * i + 3) 0 ≡ 1)
  pub state : get_or L (8 * i + 4) 0 + 256 * get_or L (8 * i + 5) 0 < states
  pub next : get_or L (8 * i + 6) 0 + 256 * get_or L (8 * i + 7) 0 < states

-- 2, start: 1-5 zero, 6-7 state
pub record Start-bytes (L : List ℕ) (i : ℕ) : Type 0 where
  pub kind : get_or L (8 * i) 0 ≡ 2
  pub reserved : (k : ℕ) → 1 ≤ k → k ≤ 5 → get_or L (8 * i + k) 0 ≡ 0
  pub state : get_or L (8 * i + 6) 0 + 256 * get_or L (8 * i + 7) 0 < states

-- 3, accept: 1-3 zero, 4-5 state, 6-7 signature
pub record Accept-bytes (L : List ℕ) (i : ℕ) : Type 0 where
  pub kind : get_or L (8 * i) 0 ≡ 3
  pub reserved : (k : ℕ) → 1 ≤ k → k ≤ 3 → get_or L (8 * i + k) 0 ≡ 0
  pub state : get_or L (8 * i + 4) 0 + 256 * get_or L (8 * i + 5) 0 < states
  pub signature : get_or L (8 * i + 6) 0 + 256 * get_or L (8 * i + 7) 0 < signatures

-- the states that record i names: an edge, 1, at bytes 4-5 and 6-7; a start, 2, at bytes 6-7; an accept, 3, at bytes 4-5
abbrev pub Names-bytes : List ℕ → ℕ → ℕ → Type 0
Names-bytes L i s =
    ((get_or L (8 * i) 0 ≡ 1) × ((get_or L (8 * i + 4) 0 + 256 * get_or L (8 * i + 5) 0 ≡ s) ⊎ (get_or L (8 * i + 6) 0 + 256 * get_or L (8 * i + 7) 0 ≡ s)))
    ⊎ (((get_or L (8 * i) 0 ≡ 2) × (get_or L (8 * i + 6) 0 + 256 * get_or L (8 * i + 7) 0 ≡ s))
    ⊎ ((get_or L (8 * i) 0 ≡ 3) × (get_or L (8 * i + 4) 0 + 256 * get_or L (8 * i + 5) 0 ≡ s)))

-- byte c takes edge record i: it lies between low and high or, where byte 3 is 1, its exchanged partner does
pub record Takes (L : List ℕ) (c i : ℕ) : Type 0 where
  pub kind : is_edge L i ≡ true
  pub range : ((low L i ≤ c) × (c ≤ high L i)) ⊎ ((byte_of L i 3 ≡ 1) × (low L i ≤ exchanged c) × (exchanged c ≤ high L i))
