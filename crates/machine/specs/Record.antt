-- The flow record of the automaton with bits and counters: 80 bytes, its fields, and the rules 4 to 6.
use Rattle.std.specs.Prelude.{ℕ, zero, suc, ◌+◌, ◌*◌, Bool, ◌||◌, not, List, [], ◌∷◌, ◌++◌, length, get_or, take, drop, leb, ltb, eqb}
use Rattle.numbers.specs.Number.{num, digits}
use Rattle.rules.specs.Scan.{every}
use Rattle.rules.specs.Rules.{Rule}
use Rattle.feed.specs.Engine.{Layout}
use Rattle.feed.specs.Piece.{piece_rules}
use Rattle.machine.specs.declared.Config.{Config}
use Rattle.machine.specs.Program.{counter_count, off}

-- bytes of a record
abbrev pub flow_size : ℕ
flow_size = 16 + 4 * counter_count

-- ---- its fields: state (2 bytes), zero (2), offset (4), bits (8), then the counters (4 bytes each)

abbrev pub state_of : List ℕ → ℕ
state_of R = num 8 (take 2 R)

abbrev pub reserved_of : List ℕ → ℕ
reserved_of R = num 8 (take 2 (drop 2 R))

abbrev pub offset_of : List ℕ → ℕ
offset_of R = num 8 (take 4 (drop 4 R))

-- m numbers of four bytes each that a list begins with, and the bytes of such numbers
unfoldable pub fours : ℕ → List ℕ → List ℕ
fours zero b = []
fours (suc m) b = num 8 (take 4 b) ∷ fours m (drop 4 b)

unfoldable pub four_bytes : List ℕ → List ℕ
four_bytes [] = []
four_bytes (n ∷ ns) = digits 8 4 n ++ four_bytes ns

-- the configuration of bytes that have the state first, the bits at a place, and the counters behind them
unfoldable pub config_at : ℕ → List ℕ → Config
config_at at b = record { state = state_of b; bits = num 8 (take 8 (drop at b)); counters = fours counter_count (drop (at + 8) b) }

abbrev pub config_of : List ℕ → Config
config_of R = config_at 8 R

-- the record of a configuration at offset k
unfoldable pub flow_bytes : Config → ℕ → List ℕ
flow_bytes x k = digits 8 2 x.state ++ (digits 8 2 0 ++ (digits 8 4 k ++ (digits 8 8 x.bits ++ four_bytes x.counters)))

-- so a feed reads and writes it; it has no place for rows
abbrev pub flow_layout : Layout Config
flow_layout = record { config = config_of; offset = offset_of; rows = λ R. 0; save = λ x k n. flow_bytes x k }

-- ---- what each rule refuses

-- 4, at opening and when fed: not the size of a record
abbrev pub wrong_size : List ℕ → Bool
wrong_size R = not (eqb (length R) flow_size)

-- no counter is over the number that says off
abbrev pub good_counters : List ℕ → Bool
good_counters cs = every counter_count (λ i. leb (get_or cs i 0) off)

-- 4, when fed under n states: that, or a state that is none of them, a reserved byte that is not zero, or a counter over off
unfoldable pub bad_flow : ℕ → List ℕ → Bool
bad_flow n R = wrong_size R || not (ltb (state_of R) n) || not (eqb (reserved_of R) 0) || not (good_counters (config_of R).counters)

-- 4 to 6, in this order
abbrev pub flow_rules : ℕ → List ℕ → ℕ → List ℕ → List Rule
flow_rules n R at piece = (4, bad_flow n R) ∷ piece_rules (offset_of R) at piece
