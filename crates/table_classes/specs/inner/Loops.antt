-- What the loops over classes keep: a set for each byte, and the classes state by state.
use Rattle.std.specs.Prelude.{ℕ, ◌^◌, ◌≤◌, ◌<◌, ◌≡◌, Bool, ◌&&◌, List, length, get_or, eqb}
use Rattle.rules.specs.Scan.{every, first}
use Rattle.list.specs.List.{is_edge, low, high}
use Rattle.list.specs.Automaton.{step}
use Rattle.table.specs.Table.{byte_values, part}
use Rattle.table_classes.specs.Classes.{most_classes, lowest_like, class_of, class_total}

-- the first n states step alike on both bytes
unfoldable pub alike_to : List ℕ → ℕ → ℕ → ℕ → Bool
alike_to L n c d = every n (λ s. eqb (step L (2 ^ s) c) (step L (2 ^ s) d))

-- the lowest byte on which they do as on c
unfoldable pub low_to : List ℕ → ℕ → ℕ → ℕ
low_to L n c = first byte_values (λ d. alike_to L n d c)

-- the first n sets of X are f 0, f 1, .., and the others are W's
pub record SetsAre (W X : List ℕ) (f : ℕ → ℕ) (n : ℕ) : Type 0 where
  pub long : length X ≡ length W
  pub sets : (c : ℕ) → c < n → part X c ≡ f c
  pub rest : (c : ℕ) → n ≤ c → part X c ≡ part W c

-- record i is an edge from byte 0 to byte 255, which every byte takes
abbrev pub wide : List ℕ → ℕ → Bool
wide L i = (is_edge L i && eqb (low L i) 0) && eqb (high L i) 255

-- bytes c and d have one class in C, and one set in W
abbrev pub like : List ℕ → List ℕ → ℕ → ℕ → Bool
like C W c d = eqb (get_or C d 0) (get_or C c 0) && eqb (part W d) (part W c)

-- what byte c gets: the lowest byte that is like it
unfoldable pub parted : List ℕ → List ℕ → ℕ → ℕ
parted C W c = first byte_values (like C W c)

-- the classes C split by the sets of W, from byte c on
pub record Parting (C D W : List ℕ) (c : ℕ) : Type 0 where
  pub long : length D ≡ length C
  pub upto : c ≤ byte_values
  pub below : (d : ℕ) → d < c → get_or D d 0 ≡ get_or C d 0
  pub above : (d : ℕ) → c ≤ d → d < byte_values → get_or D d 0 ≡ parted C W d
  pub rest : (d : ℕ) → byte_values ≤ d → get_or D d 0 ≡ get_or C d 0

-- D has f at the bytes below n, and is C from there on
pub record Filled (C D : List ℕ) (f : ℕ → ℕ) (n : ℕ) : Type 0 where
  pub long : length D ≡ length C
  pub below : (d : ℕ) → d < n → get_or D d 0 ≡ f d
  pub rest : (d : ℕ) → n ≤ d → get_or D d 0 ≡ get_or C d 0

-- C gives each byte the lowest of its class
abbrev pub Lows : List ℕ → List ℕ → Type 0
Lows L C = (c : ℕ) → c < byte_values → get_or C c 0 ≡ lowest_like L c

-- C gives each byte its class, and k classes are as many as a table may have
pub record Classed (L C : List ℕ) (k : ℕ) : Type 0 where
  pub long : byte_values ≤ length C
  pub numbers : (c : ℕ) → c < byte_values → get_or C c 0 ≡ class_of L c
  pub total : k ≡ class_total L
  pub few : k ≤ most_classes

-- C' gives each byte its class and has zeros behind, and k is the number of classes
pub record Numbered (L C W C' W' : List ℕ) (k : ℕ) : Type 0 where
  pub long : length C' ≡ length C
  pub rows_long : length W' ≡ length W
  pub numbers : (c : ℕ) → c < byte_values → get_or C' c 0 ≡ class_of L c
  pub zeros : (c : ℕ) → byte_values ≤ c → get_or C' c 0 ≡ 0
  pub total : k ≡ class_total L
