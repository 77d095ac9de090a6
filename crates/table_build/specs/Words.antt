-- What the builder leaves, in words: the fronts of the lists that it names, what stands in them, and what a refusal leaves.
use Rattle.std.specs.Prelude.{ℕ, ◌≤◌, ◌<◌, ◌≡◌, List, [], ◌∷◌, length, get_or, take}
use Rattle.sets.specs.Set.{set_size, set_bytes}
use Rattle.numbers.specs.Order.{Smaller}
use Rattle.list.specs.Automaton.{step}
use Rattle.table.specs.Table.{Table, byte_values, part_count, split_count, part, row, split_set, slots}
use Rattle.table_classes.specs.Classes.{class_of}
use Rattle.table_classes.specs.Words.{Coarsest}
use Rattle.table_build.specs.Build.{Reach, Building}

-- the fronts of the lists that it names, as a table
abbrev pub fronts : Building → Table
fronts o =
    record {
      classes = take o.classes o.lists.classes;
      parts = take o.parts o.lists.parts;
      rows = take o.rows o.lists.rows;
      splits = take o.splits o.lists.splits;
    }

-- what the table of a list holds: one part for each set that can be reached and no other, in rising order of their bytes; for each part one split, of its
-- set, with that one slot; for each byte its class, as coarse as the list permits, and the row that a part and a byte select
pub record Tabled (L : List ℕ) (T : Table) : Type 0 where
  pub sound : (p : ℕ) → p < part_count T.parts → Reach L (part T.parts p)
  pub all : (S : ℕ) → Reach L S → (p : ℕ) × (p < part_count T.parts) × (part T.parts p ≡ S)
  pub rise : (i j : ℕ) → i < j → j < part_count T.parts
      → Smaller set_size (λ k. get_or (set_bytes (part T.parts i)) k 0) (λ k. get_or (set_bytes (part T.parts j)) k 0)
  pub as_many : split_count T.splits ≡ part_count T.parts
  pub same_set : (i : ℕ) → i < part_count T.parts → split_set T.splits i ≡ part T.parts i
  pub one-slot : (i : ℕ) → i < part_count T.parts → slots T.splits i ≡ i ∷ (65535 ∷ (65535 ∷ (65535 ∷ [])))
  pub class-of : (c : ℕ) → c < byte_values → get_or T.classes c 0 ≡ class_of L c
  pub coarsest : Coarsest L T.classes
  pub row-of : (p c : ℕ) → p < part_count T.parts → c < byte_values → row T.classes T.rows p c ≡ step L (part T.parts p) c

-- refused with n: no lengths, and T in the lists
abbrev pub unbuilt : ℕ → Table → Building
unbuilt n T = record { refusal = n; classes = 0; parts = 0; rows = 0; splits = 0; lists = T }

-- b is as long as the list lent, and has zeros from n, which lies in it, to its very end
abbrev pub Ends : List ℕ → List ℕ → ℕ → Type 0
Ends lent b n = (length b ≡ length lent) × ((i : ℕ) → n ≤ i → get_or b i 0 ≡ 0) × (n ≤ length lent)

-- so have all four, from the lengths answered on
pub record ZerosBehind (T : Table) (o : Building) : Type 0 where
  pub classes : Ends T.classes o.lists.classes o.classes
  pub parts : Ends T.parts o.lists.parts o.parts
  pub rows : Ends T.rows o.lists.rows o.rows
  pub splits : Ends T.splits o.lists.splits o.splits
