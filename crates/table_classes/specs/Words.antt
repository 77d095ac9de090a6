-- The classes of the bytes in words: which bytes share one, how they are numbered, and how many a list needs.
use Rattle.std.specs.Prelude.{ℕ, ◌≤◌, ◌<◌, ◌≡◌, List, ◌↔◌, length, get_or}
use Rattle.list.specs.List.{records, from, target}
use Rattle.list.specs.Words.{Takes}
use Rattle.table.specs.Table.{byte_values}

-- some edge leads from s to t on byte c
abbrev pub Moves : List ℕ → ℕ → ℕ → ℕ → Type 0
Moves L s c t = (i : ℕ) × (i < records L) × Takes L c i × (from L i ≡ s) × (target L i ≡ t)

-- every state steps alike on both bytes
abbrev pub Alike : List ℕ → ℕ → ℕ → Type 0
Alike L c d = (s t : ℕ) → Moves L s c t ↔ Moves L s d t

-- n classes are needed: there are n bytes, numbered, of which no two step alike
abbrev pub Needs : List ℕ → ℕ → Type 0
Needs L n = (f : ℕ → ℕ) × ((i : ℕ) → i < n → f i < byte_values) × ((i j : ℕ) → i < n → j < n → Alike L (f i) (f j) → i ≡ j)

-- no byte below c has its class in the list C
abbrev pub LowestIn : List ℕ → ℕ → Type 0
LowestIn C c = (b : ℕ) → b < c → get_or C b 0 ≡ get_or C c 0 → ⊥

-- C has the class of each byte, and they are as coarse as the list L permits: two bytes share one exactly when every state steps alike on both; classes are
-- numbered by their lowest bytes, from 0 on, without a gap
pub record Coarsest (L C : List ℕ) : Type 0 where
  pub many : length C ≡ byte_values
  pub shared : (c d : ℕ) → c < byte_values → d < byte_values → (get_or C c 0 ≡ get_or C d 0) ↔ Alike L c d
  pub rise : (c d : ℕ) → c < d → d < byte_values → LowestIn C c → LowestIn C d → get_or C c 0 < get_or C d 0
  pub no_gaps : (c q : ℕ) → c < byte_values → q ≤ get_or C c 0 → (d : ℕ) × (d < byte_values) × (get_or C d 0 ≡ q)
