-- The flow record: 144 bytes, its fields, and the rules 4 to 6.
use Rattle.std.specs.Prelude.{ℕ, ◌+◌, ◌*◌, Bool, ◌||◌, not, List, ◌∷◌, ◌++◌, length, take, drop, ltb, eqb}
use Rattle.numbers.specs.Number.{num, digits}
use Rattle.sets.specs.Set.{states, set_size, set_bytes, set_at, within}
use Rattle.rules.specs.Rules.{Rule}
use Rattle.list.specs.List.{list_rules}
use Rattle.list.specs.Automaton.{named}
use Rattle.feed.specs.Engine.{Layout}
use Rattle.feed.specs.Piece.{piece_rules}

-- bytes of a record
abbrev pub flow_size : ℕ
flow_size = set_size + 16

-- ---- its fields: frontier, offset (4 bytes), zero (4 bytes), rows read (8 bytes)

abbrev pub frontier_of : List ℕ → ℕ
frontier_of R = set_at R 0

abbrev pub offset_of : List ℕ → ℕ
offset_of R = num 8 (take 4 (drop set_size R))

abbrev pub reserved_of : List ℕ → ℕ
reserved_of R = num 8 (take 4 (drop (set_size + 4) R))

abbrev pub rows_of : List ℕ → ℕ
rows_of R = num 8 (take 8 (drop (set_size + 8) R))

-- the record of frontier F, offset k and n rows read
unfoldable pub flow_bytes : ℕ → ℕ → ℕ → List ℕ
flow_bytes F k n = set_bytes F ++ (digits 8 4 k ++ (digits 8 4 0 ++ digits 8 8 n))

-- so a feed over a list reads and writes it
abbrev pub flow_layout : Layout ℕ
flow_layout = record { config = frontier_of; offset = offset_of; rows = rows_of; save = flow_bytes }

-- ---- what each rule refuses

-- 4, at opening and when fed: not the size of a record
abbrev pub wrong_size : List ℕ → Bool
wrong_size R = not (eqb (length R) flow_size)

-- 4, when fed: that, or reserved bytes that are not zero, or more rows read than all states at each byte
unfoldable pub bad_flow : List ℕ → Bool
bad_flow R = wrong_size R || not (eqb (reserved_of R) 0) || ltb (states * offset_of R) (rows_of R)

-- 4 to 6, in this order; 4 is given as well where it is not `known` that every state of the frontier is one that is named
abbrev pub flow_rules : Bool → List ℕ → ℕ → List ℕ → List Rule
flow_rules known R at piece = (4, bad_flow R || not known) ∷ piece_rules (offset_of R) at piece

-- every feed over a list: 1 to 6; 4 also where the frontier holds a state that no record of the list names
abbrev pub feed_rules : List ℕ → List ℕ → ℕ → List ℕ → List Rule
feed_rules L R at piece = list_rules L ++ flow_rules (within (frontier_of R) (named L)) R at piece
