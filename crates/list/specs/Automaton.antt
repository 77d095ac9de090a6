-- The automaton that a list writes down: start set, frontier step, the signatures that a frontier accepts, the states that are named and the highest of them.
-- Sets are numbers.
use Rattle.std.specs.Prelude.{ℕ, zero, suc, ◌+◌, ◌-◌, max, Bool, ◌&&◌, ◌||◌, cond, List, leb}
use Rattle.sets.specs.Set.{states, signatures, holds, join, insert}
use Rattle.rules.specs.Scan.{gather}
use Rattle.list.specs.List.{records, is_edge, is_start, is_accept, low, high, either_case, from, target}

-- the ASCII letters: capital, 41 to 5A, and small, 61 to 7A, in hex
abbrev pub capital : ℕ → Bool
capital c = leb 65 c && leb c 90

abbrev pub small : ℕ → Bool
small c = leb 97 c && leb c 122

-- a byte with ASCII letter case exchanged; one that is no letter stays
abbrev pub exchanged : ℕ → ℕ
exchanged c = cond (capital c) (c + 32) (cond (small c) (c - 32) c)

-- byte c lies between low and high of record i
abbrev pub between : List ℕ → ℕ → ℕ → Bool
between L c i = leb (low L i) c && leb c (high L i)

-- record i is an edge that byte c takes: c lies between low and high or, where byte 3 is 1, c with its case exchanged does
abbrev pub edge : List ℕ → ℕ → ℕ → Bool
edge L c i = is_edge L i && (between L c i || either_case L i && between L (exchanged c) i)

-- q holds of record i, and the state that it leaves is in F
abbrev pub leaves : List ℕ → ℕ → (ℕ → Bool) → ℕ → Bool
leaves L F q i = q i && holds F (from L i)

-- the states of the start records
unfoldable pub start : List ℕ → ℕ
start L = gather states (is_start L) (target L) (records L)

-- the next frontier: the targets of all states of F on byte c
unfoldable pub step : List ℕ → ℕ → ℕ → ℕ
step L F c = gather states (leaves L F (edge L c)) (target L) (records L)

-- the signatures that some state of F accepts
unfoldable pub accepted : List ℕ → ℕ → ℕ
accepted L F = gather signatures (leaves L F (is_accept L)) (target L) (records L)

-- the states that some accept record names
unfoldable pub accepting : List ℕ → ℕ
accepting L = gather states (is_accept L) (from L) (records L)

-- the states that some edge record leads to
unfoldable pub reached : List ℕ → ℕ
reached L = gather states (is_edge L) (target L) (records L)

-- record i names the state `from`, as an edge and an accept do, or the state `target`, as an edge and a start do; an accept's signature is no state
abbrev pub names_from : List ℕ → ℕ → Bool
names_from L i = is_edge L i || is_accept L i

abbrev pub names_target : List ℕ → ℕ → Bool
names_target L i = is_edge L i || is_start L i

-- n with the states that record i names; a set of numbers below m takes in no other
abbrev pub with_named : ℕ → List ℕ → ℕ → ℕ → ℕ
with_named m L i n =
    let k = cond (names_from L i) (insert m n (from L i)) n in
    cond (names_target L i) (insert m k (target L i)) k

-- the states that the first n records name
unfoldable pub named_by : List ℕ → ℕ → ℕ
named_by L n = join (gather states (names_from L) (from L) n) (gather states (names_target L) (target L) n)

-- the states that some record names: an edge those that it leaves and leads to, a start and an accept theirs; a signature names nothing
abbrev pub named : List ℕ → ℕ
named L = named_by L (records L)

-- the higher of n and the states that record i names
abbrev pub higher : List ℕ → ℕ → ℕ → ℕ
higher L i n = max (max n (cond (names_from L i) (from L i) 0)) (cond (names_target L i) (target L i) 0)

-- the highest state that the first n records name; 0 where they name none
unfoldable pub highest_by : List ℕ → ℕ → ℕ
highest_by L zero = 0
highest_by L (suc i) = higher L i (highest_by L i)

-- the highest state that a record of the list names. A list that passes 1 to 3 has a start record, so it names one
abbrev pub highest : List ℕ → ℕ
highest L = highest_by L (records L)
