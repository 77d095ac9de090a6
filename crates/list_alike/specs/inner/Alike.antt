-- Two bytes on which a list steps alike, and what shows it: every edge goes alike on both.
use Rattle.std.specs.Prelude.{◌≡◌, ℕ, ◌<◌, Bool, not, ◌&&◌, ◌||◌, List, slice_index}
pub use Rattle.numbers.specs.Number.{byte_values}
use Rattle.rules.specs.Scan.{every}
use Rattle.list.specs.List.{records}
use Rattle.list.specs.Automaton.{edge, step}

-- record i is an edge that both bytes take, or one that neither takes
abbrev pub alike_at : List ℕ → ℕ → ℕ → ℕ → Bool
alike_at L c d i = edge L c i && edge L d i || not (edge L c i) && not (edge L d i)

-- every edge goes alike on both bytes
unfoldable pub edges_alike : List ℕ → ℕ → ℕ → Bool
edges_alike L c d = every (records L) (alike_at L c d)

-- every set of states steps alike on both bytes
abbrev pub Alike : List ℕ → ℕ → ℕ → Type 0
Alike L c d = (F : ℕ) → step L F c ≡ step L F d

-- A has for each byte one on which the list steps as on it
abbrev pub Alikes : List ℕ → List ℕ → Type 0
Alikes L A = (c : ℕ) → c < byte_values → Alike L (slice_index A c) c
