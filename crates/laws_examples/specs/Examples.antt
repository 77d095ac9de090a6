-- The barn examples marked P: the list L, the table T, and one table of rows, each what a definition gives beside what the example says.
use Rattle.std.specs.Prelude.{ℕ, zero, suc, ◌*◌, ◌+◌, ◌^◌, cond, List, [], ◌∷◌, ◌++◌, ◌≡◌, replicate}
use Rattle.numbers.specs.Number.{digits}
use Rattle.sets.specs.Set.{states, signatures, set_size, set_bytes}
use Rattle.list.specs.List.{most_records, list_refusal}
use Rattle.list.specs.Automaton.{start, edge, step}
use Rattle.feed.specs.Engine.{Outcome, most_offset, run}
use Rattle.feed.specs.Opening.{Opening}
use Rattle.list_flow.specs.Flow.{flow_size, flow_bytes, rows_of}
use Rattle.list_flow.specs.Opening.{opened, open_flow}
use Rattle.list_feed.specs.Plain.{plain, pairs_of}
use Rattle.table.specs.Table.{Table, table, split_size, most_class, most_parts, most_splits, most_bound, table_refusal}
use Rattle.matrix.specs.Matrix.{matrix_length, cell_at}
use Rattle.index.specs.Entry.{entry_size, sigs_place, cost_place, flag_place, entry_place, telling}
use Rattle.index.specs.Stand.{stand_feed, stood_at}
use Rattle.index_fill.specs.Filled.{filled_index}
use Rattle.table_classes.specs.Classes.{most_classes, alike}
use Rattle.table_build.specs.Build.{most_rows, lower, parts_of, splits_of}
use Rattle.feed.specs.Calls.{outcome, asked, all_told, record_after}
use Rattle.laws.specs.Calls.{Via, by_list, by_table, by_matrix, Call, way_of}

-- a row: what a definition gives, and what the example says
abbrev pub Row : Type 0
Row = List ℕ × List ℕ

-- every row agrees
abbrev pub Agree : List Row → Type 0
Agree [] = Unit {0}
Agree (r ∷ rs) = (r.0 ≡ r.1) × Agree rs

-- ---- list L: signature 7 after any "ab"

-- byte 3 of the edge on "a": 0 in L
abbrev pub edges_by : ℕ → List ℕ
edges_by flag =
    0x01 ∷ 0x00 ∷ 0xFF ∷ 0x00 ∷ 0x00 ∷ 0x00 ∷ 0x00 ∷ 0x00
    ∷ 0x01 ∷ 0x61 ∷ 0x61 ∷ flag ∷ 0x00 ∷ 0x00 ∷ 0x01 ∷ 0x00
    ∷ 0x01 ∷ 0x62 ∷ 0x62 ∷ 0x00 ∷ 0x01 ∷ 0x00 ∷ 0x02 ∷ 0x00 ∷ []

abbrev pub edges : List ℕ
edges = edges_by 0

abbrev pub starts : List ℕ
starts = 0x02 ∷ 0x00 ∷ 0x00 ∷ 0x00 ∷ 0x00 ∷ 0x00 ∷ 0x00 ∷ 0x00 ∷ []

abbrev pub accepts : List ℕ
accepts = 0x03 ∷ 0x00 ∷ 0x00 ∷ 0x00 ∷ 0x02 ∷ 0x00 ∷ 0x07 ∷ 0x00 ∷ []

abbrev pub L : List ℕ
L = edges ++ (starts ++ accepts)

-- the same after "Ab" too
abbrev pub loud : List ℕ
loud = edges_by 1 ++ (starts ++ accepts)

-- one edge alone, from 0 to 1, by low, high and byte 3; the bytes below n that take it
abbrev pub edge_of : ℕ → ℕ → ℕ → List ℕ
edge_of l h flag = 0x01 ∷ l ∷ h ∷ flag ∷ 0x00 ∷ 0x00 ∷ 0x01 ∷ 0x00 ∷ []

abbrev pub takers : List ℕ → ℕ → List ℕ
takers E zero = []
takers E (suc n) = takers E n ++ cond (edge E n 0) (n ∷ []) []

-- n numbers from k on
abbrev pub from : ℕ → ℕ → List ℕ
from k zero = []
from k (suc n) = k ∷ from (k + 1) n

-- state 0 accepts a signature
abbrev pub start_accepts : ℕ → List ℕ
start_accepts g = 0x03 ∷ 0x00 ∷ 0x00 ∷ 0x00 ∷ 0x00 ∷ 0x00 ∷ g ∷ 0x00 ∷ []

-- L with accept records of state 0, the start state, in this order: 5, 3, 5
abbrev pub L₀ : List ℕ
L₀ = L ++ (start_accepts 5 ++ (start_accepts 3 ++ start_accepts 5))

-- ---- table T

-- the bytes of some sets: {0} is the number 1, {0,1} is 3, {2} is 4, {0,2} is 5
abbrev pub sets_of : List ℕ → List ℕ
sets_of [] = []
sets_of (n ∷ ns) = set_bytes n ++ sets_of ns

-- a split with parts p and q; 65,535 for an unused slot
abbrev pub split_of₂ : ℕ → ℕ → ℕ → List ℕ
split_of₂ n p q = set_bytes n ++ (digits 8 2 p ++ (digits 8 2 q ++ digits 8 4 0xFFFFFFFF))

abbrev pub s0 : List ℕ
s0 = split_of₂ 1 0 65535

abbrev pub s01 : List ℕ
s01 = split_of₂ 3 0 1

abbrev pub s02 : List ℕ
s02 = split_of₂ 5 0 2

-- classes 1 for a, 2 for b, else 0; parts {0}, {1}, {2}; rows as given, {0} {0,1} {0}, {} {} {2}, {} {} {} in T
abbrev pub table_by : List ℕ → List ℕ → Table
table_by rows splits = table (replicate 97 0 ++ (1 ∷ 2 ∷ replicate 157 0)) (sets_of (1 ∷ 2 ∷ 4 ∷ [])) (sets_of rows) splits

abbrev pub table_of : List ℕ → Table
table_of splits = table_by (1 ∷ 3 ∷ 1 ∷ 0 ∷ 0 ∷ 4 ∷ 0 ∷ 0 ∷ 0 ∷ []) splits

abbrev pub T₃ : Table
T₃ = table_of (s0 ++ (s01 ++ s02))

-- a table of bound 1 for L, by hand: parts {0}, {0,1}, {0,2}, rows {0} {0,1} {0}, {0} {0,1} {0,2}, {0} {0,1} {0}, and each part a split
abbrev pub T₁ : Table
T₁ =
    table (replicate 97 0 ++ (1 ∷ 2 ∷ replicate 157 0)) (sets_of (1 ∷ 3 ∷ 5 ∷ [])) (sets_of (1 ∷ 3 ∷ 1 ∷ 1 ∷ 3 ∷ 5 ∷ 1 ∷ 3 ∷ 1 ∷ []))
    (split_of₂ 1 0 65535 ++ (split_of₂ 3 1 65535 ++ split_of₂ 5 2 65535))

-- ---- calls

-- bytes a and b
abbrev pub a : ℕ
a = 97

abbrev pub b : ℕ
b = 98

-- words with room for n pairs
abbrev pub room : ℕ → List ℕ
room n = replicate (2 * n) 0

abbrev pub fed : Via → List ℕ → ℕ → List ℕ → ℕ → Outcome
fed via R at piece n = outcome way_of R (record { by = record { list = L; via = via }; at = at; piece = piece; out = room n })

-- an answer as numbers: refusal, bytes, pairs, all
abbrev pub answered : Outcome → List ℕ
answered o = o.refusal ∷ o.bytes ∷ o.pairs ∷ cond o.all 1 0 ∷ []

-- a record full of FF; opening a record on L₀ with n words, each 9; an opening's answer as numbers: refusal, pairs
abbrev pub full : List ℕ
full = replicate (set_size + 16) 0xFF

abbrev pub begin : List ℕ → ℕ → Opening
begin R n = open_flow L₀ R (replicate n 9)

abbrev pub open_answered : Opening → List ℕ
open_answered o = o.refusal ∷ o.pairs ∷ []

abbrev pub plain_abab : ℕ → Outcome
plain_abab n = fed by_list (opened L) 0 (a ∷ b ∷ a ∷ b ∷ []) n

abbrev pub split_abab : ℕ → List ℕ → ℕ → Outcome
split_abab bound splits n = fed (by_table bound (table_of splits)) (opened L) 0 (a ∷ b ∷ a ∷ b ∷ []) n

-- a list with a start at 4, and an accept of 6 under signature 200
abbrev pub lone : List ℕ
lone = 0x02 ∷ 0x00 ∷ 0x00 ∷ 0x00 ∷ 0x00 ∷ 0x00 ∷ 0x04 ∷ 0x00 ∷ 0x03 ∷ 0x00 ∷ 0x00 ∷ 0x00 ∷ 0x06 ∷ 0x00 ∷ 0xC8 ∷ 0x00 ∷ []

-- the refusal of a piece from a start, plain and with T at 2, on a list, for a frontier at offset 0
abbrev pub refused_at : List ℕ → ℕ → ℕ → List ℕ → List ℕ
refused_at M F at piece =
    (outcome way_of (flow_bytes F 0 0) (record { by = record { list = M; via = by_list }; at = at; piece = piece; out = room 2 })).refusal
    ∷ (outcome way_of (flow_bytes F 0 0) (record { by = record { list = M; via = by_table 2 T₃ }; at = at; piece = piece; out = room 2 })).refusal ∷ []

-- "abab" plain with three words, each 9
abbrev pub odd : Outcome
odd = outcome way_of (opened L) (record { by = record { list = L; via = by_list }; at = 0; piece = a ∷ b ∷ a ∷ b ∷ []; out = 9 ∷ 9 ∷ 9 ∷ [] })

-- after "a", and after "bab" from there
abbrev pub after_a : List ℕ
after_a = (fed by_list (opened L) 0 (a ∷ []) 2).saved

abbrev pub after_bab : List ℕ
after_bab = (fed by_list after_a 1 (b ∷ a ∷ b ∷ []) 2).saved

-- "abab" on L: "a" plain, "b" through T at 2, "ab" through the table of bound 1
abbrev pub swaps : List Call
swaps =
    record { by = record { list = L; via = by_list }; at = 0; piece = a ∷ []; out = room 1 }
    ∷ record { by = record { list = L; via = by_table 2 T₃ }; at = 1; piece = b ∷ []; out = room 1 }
    ∷ record { by = record { list = L; via = by_table 1 T₁ }; at = 2; piece = a ∷ b ∷ []; out = room 1 } ∷ []

-- ---- the rows

abbrev pub feed_rows : List Row
feed_rows =
    -- the limits that the rules name: records, states, signatures; offset; class, parts, splits, bound; and the bytes of a set, a flow record, a split
    (most_records ∷ states ∷ signatures ∷ [], 8192 ∷ 1024 ∷ 256 ∷ [])
    ∷ (set_size ∷ flow_size ∷ split_size ∷ [], 128 ∷ 144 ∷ 136 ∷ [])
    ∷ (most_offset ∷ [], 4294967295 ∷ [])
    ∷ (most_class ∷ most_parts ∷ most_splits ∷ most_bound ∷ [], 63 ∷ 1024 ∷ 4096 ∷ 4 ∷ [])
    -- "abab": words 7, 2, 7, 4; 7 rows read
    ∷ ((plain_abab 2).words, 7 ∷ 2 ∷ 7 ∷ 4 ∷ [])
    ∷ (rows_of (plain_abab 2).saved ∷ [], 7 ∷ [])
    -- split with T at 2: the same words, 7 rows, and 8 is the ceiling
    ∷ (answered (split_abab 2 (s0 ++ (s01 ++ s02)) 2), 0 ∷ 4 ∷ 2 ∷ 1 ∷ [])
    ∷ ((split_abab 2 (s0 ++ (s01 ++ s02)) 2).words, 7 ∷ 2 ∷ 7 ∷ 4 ∷ [])
    ∷ (rows_of (split_abab 2 (s0 ++ (s01 ++ s02)) 2).saved ∷ [], 7 ∷ [])
    ∷ (2 * (split_abab 2 (s0 ++ (s01 ++ s02)) 2).bytes ∷ [], 8 ∷ [])
    -- "aba" plain leaves 03 and 127 zeros, 03 00 00 00, four zeros, 05 and 7 zeros
    ∷ (
      (fed by_list (opened L) 0 (a ∷ b ∷ a ∷ []) 2).saved,
      0x03 ∷ (replicate 127 0 ++ (0x03 ∷ 0 ∷ 0 ∷ 0 ∷ 0 ∷ 0 ∷ 0 ∷ 0 ∷ 0x05 ∷ 0 ∷ 0 ∷ 0 ∷ 0 ∷ 0 ∷ 0 ∷ 0 ∷ [])),
    )
    -- "a" then "bab" from start 1: the same pairs
    ∷ (answered (fed by_list (opened L) 0 (a ∷ []) 2), 0 ∷ 1 ∷ 0 ∷ 1 ∷ [])
    ∷ ((fed by_list after_a 1 (b ∷ a ∷ b ∷ []) 2).words, 7 ∷ 2 ∷ 7 ∷ 4 ∷ [])
    -- "bab" from start 0 then: 5, after "a" as after "abab"
    ∷ (answered (fed by_list after_a 0 (b ∷ a ∷ b ∷ []) 2), 5 ∷ 0 ∷ 0 ∷ 0 ∷ [])
    ∷ (answered (fed by_list after_bab 0 (b ∷ a ∷ b ∷ []) 2), 5 ∷ 0 ∷ 0 ∷ 0 ∷ [])
    -- "abab" with room 1 consumes 3 bytes; with room 0, 1 byte
    ∷ (answered (plain_abab 1), 0 ∷ 3 ∷ 1 ∷ 0 ∷ [])
    ∷ (answered (plain_abab 0), 0 ∷ 1 ∷ 0 ∷ 0 ∷ [])
    -- empty piece, room 0: zero bytes, all consumed
    ∷ (answered (fed by_list (opened L) 0 [] 0), 0 ∷ 0 ∷ 0 ∷ 1 ∷ [])
    -- an odd buffer filled with other numbers, "abab": room for one pair, and the words behind it stay, the odd last one too
    ∷ (odd.words, 7 ∷ 2 ∷ 9 ∷ [])
    ∷ (answered odd, 0 ∷ 3 ∷ 1 ∷ 0 ∷ [])
    -- opening a record of another size, as that of 256 states, 48 bytes: 4, and it stays
    ∷ (open_answered (open_flow L (0xFF ∷ []) []) ++ (open_flow L (0xFF ∷ []) []).saved, 4 ∷ 0 ∷ 0xFF ∷ [])
    ∷ (open_answered (open_flow L (replicate 48 0xFF) []) ++ (open_flow L (replicate 48 0xFF) []).saved, 4 ∷ 0 ∷ replicate 48 0xFF)
    -- L₀ with four words of 9: the pairs (3, 0) and (5, 0); with three: 15, and nothing changes
    ∷ (open_answered (begin full 4) ++ (begin full 4).words, 0 ∷ 2 ∷ 3 ∷ 0 ∷ 5 ∷ 0 ∷ [])
    ∷ ((begin full 4).saved, opened L)
    ∷ (open_answered (begin full 3) ++ (begin full 3).words, 15 ∷ 0 ∷ 9 ∷ 9 ∷ 9 ∷ [])
    ∷ ((begin full 3).saved, full)
    -- a record one byte short, and no room: 4
    ∷ (open_answered (begin (replicate (set_size + 15) 0xFF) 0), 4 ∷ 0 ∷ [])
    -- fed "ab" from there: the pairs of offset 1 and 2, of which 7 ends at 2; state 0 stays in the frontier
    ∷ (pairs_of L₀ (a ∷ b ∷ []), 3 ∷ 0 ∷ 5 ∷ 0 ∷ 3 ∷ 1 ∷ 5 ∷ 1 ∷ 3 ∷ 2 ∷ 5 ∷ 2 ∷ 7 ∷ 2 ∷ [])
    -- state 1,023 passes, state 1,024 gives 2; a record of kind 4 gives 2
    ∷ (list_refusal (L ++ (2 ∷ 0 ∷ 0 ∷ 0 ∷ 0 ∷ 0 ∷ 0xFF ∷ 3 ∷ [])) ∷ list_refusal (L ++ (2 ∷ 0 ∷ 0 ∷ 0 ∷ 0 ∷ 0 ∷ 0 ∷ 4 ∷ [])) ∷ [], 0 ∷ 2 ∷ [])
    ∷ (list_refusal (L ++ (4 ∷ 0 ∷ 0 ∷ 0 ∷ 2 ∷ 0 ∷ 7 ∷ 0 ∷ [])) ∷ [], 2 ∷ [])
    -- either case: "a" takes 41 and 61, 5A to 61 also 41 and 7A, 40 to 5B also 61 to 7A, and E1 no other
    ∷ (takers (edge_of 0x61 0x61 1) 256, 0x41 ∷ 0x61 ∷ [])
    ∷ (takers (edge_of 0x5A 0x61 1) 256, 0x41 ∷ (from 0x5A 8 ++ (0x7A ∷ [])))
    ∷ (takers (edge_of 0x40 0x5B 1) 256, from 0x40 28 ++ from 0x61 26)
    ∷ (takers (edge_of 0xE1 0xE1 1) 256, 0xE1 ∷ [])
    ∷ (takers (edge_of 0x61 0x61 0) 256, 0x61 ∷ [])
    -- byte 3 of an edge: 1 passes, 2 and 255 give 2, and so do low over high beside it, and 1 in a start or an accept
    ∷ (list_refusal (L ++ edge_of 0x61 0x61 1) ∷ list_refusal (L ++ edge_of 0x61 0x61 2) ∷ list_refusal (L ++ edge_of 0x61 0x61 255) ∷ [], 0 ∷ 2 ∷ 2 ∷ [])
    ∷ (list_refusal (L ++ edge_of 0x62 0x61 1) ∷ [], 2 ∷ [])
    ∷ (list_refusal (L ++ (2 ∷ 0 ∷ 0 ∷ 1 ∷ 0 ∷ 0 ∷ 0 ∷ 0 ∷ [])) ∷ list_refusal (L ++ (3 ∷ 0 ∷ 0 ∷ 1 ∷ 0 ∷ 0 ∷ 0 ∷ 0 ∷ [])) ∷ [], 2 ∷ 2 ∷ [])
    -- "AbaB" on the loud list: one pair, since its "b" is for one case
    ∷ ((outcome way_of (opened loud) (record { by = record { list = loud; via = by_list }; at = 0; piece = 0x41 ∷ b ∷ a ∷ 0x42 ∷ []; out = room 2 })).words, 7 ∷ 2 ∷ 0 ∷ 0 ∷ [])
    -- L without its start record: 3
    ∷ (list_refusal (edges ++ accepts) ∷ [], 3 ∷ [])
    -- T without its split {0,2}, fed "abab": 14 at the third byte, after the pair (7, 2); with room 0 the pause comes first
    ∷ (answered (split_abab 2 (s0 ++ s01) 4), 14 ∷ 2 ∷ 1 ∷ 0 ∷ [])
    ∷ ((split_abab 2 (s0 ++ s01) 4).words, 7 ∷ 2 ∷ 0 ∷ 0 ∷ 0 ∷ 0 ∷ 0 ∷ 0 ∷ [])
    ∷ ((split_abab 2 (s0 ++ s01) 4).saved, flow_bytes 5 2 3)
    ∷ (answered (split_abab 2 (s0 ++ s01) 0), 0 ∷ 1 ∷ 0 ∷ 0 ∷ [])
    -- T with the row {0} in place of {0,1}, fed "ab": the feed goes by the rows, so that nothing is told; the check gives 10 for such a table
    ∷ ((fed (by_table 2 (table_by (1 ∷ 1 ∷ 1 ∷ 0 ∷ 0 ∷ 4 ∷ 0 ∷ 0 ∷ 0 ∷ []) (s0 ++ (s01 ++ s02)))) (opened L) 0 (a ∷ b ∷ []) 2).saved, flow_bytes 1 2 2)
    -- a state that no record names, {3} on L: 4, and {0,1,2} and the empty set are taken; 4 too beside a wrong start, and for an empty piece
    ∷ (refused_at L 8 0 (a ∷ []) ++ refused_at L 7 0 [] ++ refused_at L 0 0 [], 4 ∷ 4 ∷ 0 ∷ 0 ∷ 0 ∷ 0 ∷ [])
    ∷ (refused_at L 8 1 (a ∷ []) ++ refused_at L 7 1 (a ∷ []) ++ refused_at L 8 0 [], 4 ∷ 4 ∷ 5 ∷ 5 ∷ 4 ∷ 4 ∷ [])
    -- start 4 and accept 6 under signature 200 name {4,6}: {200} and {5} are refused, and opening takes a record that holds them
    ∷ (refused_at lone 80 0 [] ++ refused_at lone (2 ^ 200) 0 [] ++ refused_at lone 32 0 [], 0 ∷ 0 ∷ 4 ∷ 4 ∷ 4 ∷ 4 ∷ [])
    ∷ (open_answered (open_flow lone (flow_bytes (2 ^ 200) 0 0) []), 0 ∷ 0 ∷ [])
    -- "abab" with the engine swapped twice: the same words, and 1 + 2 + 1 + 1 rows
    ∷ (all_told (asked way_of) (opened L) swaps, 7 ∷ 2 ∷ 7 ∷ 4 ∷ [])
    ∷ (rows_of (record_after (asked way_of) (opened L) swaps) ∷ [], 5 ∷ [])
    -- the matrix of L has 3 × 256 sets, and that of `lone` 7 × 256; state 1 and byte "b" have index 354, and 128 bytes a set
    ∷ (matrix_length L ∷ matrix_length lone ∷ cell_at 1 b ∷ [], 98304 ∷ 229376 ∷ 45312 ∷ [])
    -- what the filler writes there for 0 and "a", 1 and "b", 2 and "b": {0,1}, {2}, {}
    ∷ (step L (2 ^ 0) a ∷ step L (2 ^ 1) b ∷ step L (2 ^ 2) b ∷ [], 3 ∷ 4 ∷ 0 ∷ [])
    -- a matrix of no bytes: 8, of the empty piece too, which is not all consumed; 5 comes before 8
    ∷ (answered (fed (by_matrix []) (opened L) 0 (a ∷ []) 2) ++ answered (fed (by_matrix []) (opened L) 0 [] 2), 8 ∷ 0 ∷ 0 ∷ 0 ∷ 8 ∷ 0 ∷ 0 ∷ 0 ∷ [])
    ∷ (answered (fed (by_matrix []) (opened L) 1 (a ∷ []) 2), 5 ∷ 0 ∷ 0 ∷ 0 ∷ [])
    -- T at bound 1, fed "abab": 14 at the second byte
    ∷ (answered (split_abab 1 (s0 ++ (s01 ++ s02)) 4), 14 ∷ 1 ∷ 0 ∷ 0 ∷ [])
    ∷ []

-- T with its splits {0,1} and {0,2} exchanged; the split {0} alone with slots 7, 3, 900 and 1; a split {8}, whose bytes come before those of {0}
abbrev pub exchanged : List ℕ
exchanged = s0 ++ (s02 ++ s01)

abbrev pub wild : List ℕ
wild = set_bytes 1 ++ (digits 8 2 7 ++ (digits 8 2 3 ++ (digits 8 2 900 ++ digits 8 2 1)))

abbrev pub s8 : List ℕ
s8 = split_of₂ 256 0 65535

-- ---- the index of T for L

-- so many times the four bytes of one word
abbrev pub word_bytes : ℕ → ℕ → List ℕ
word_bytes zero w = []
word_bytes (suc n) w = digits 8 4 w ++ word_bytes n w

-- an entry by hand: the words of "a", of "b" and of every other byte, the signatures told as a number, and the rows of a byte; its states are all named
abbrev pub entry_by : ℕ → ℕ → ℕ → ℕ → ℕ → List ℕ
entry_by other to_a to_b sigs n = word_bytes 97 other ++ (word_bytes 1 to_a ++ (word_bytes 1 to_b ++ (word_bytes 157 other ++ (digits 8 32 sigs ++ (n ∷ 1 ∷ replicate 30 0)))))

-- L names {0,1,2}; by "a" {0} goes on as the word `to_a` says; {0,1} by "b" to {0,2}, at 2,304, which tells 7; one slot is taken at {0}, and two at the others
abbrev pub index_by : ℕ → List ℕ
index_by to_a = set_bytes 7 ++ (entry_by 128 to_a 128 0 1 ++ (entry_by 128 1216 (2304 + telling) 0 2 ++ entry_by 128 1216 128 128 2))

-- the index of T: "a" leads from {0} to {0,1}, at 1,216
abbrev pub X₃ : List ℕ
X₃ = index_by 1216

-- a prepared feed by T's splits, an index and a hint, from a record; and the split that it answers
abbrev pub prepared_by : List ℕ → ℕ → List ℕ → ℕ → List ℕ → ℕ → Outcome
prepared_by X h R at piece n = stand_feed T₃.splits X h R at piece (room n)

abbrev pub stood_by : List ℕ → ℕ → List ℕ → ℕ → List ℕ → ℕ → ℕ
stood_by X h R at piece n = stood_at T₃.splits X h R at piece (room n)

-- what the filler writes for T is the index by hand
abbrev pub index_row : Row
index_row = (filled_index L T₃, X₃)

abbrev pub index_rows : List Row
index_rows =
    -- bytes of an entry, the places of its signatures, its cost and its flag, and bytes of an index of 3 splits and of the most
    (entry_size ∷ sigs_place ∷ cost_place ∷ flag_place ∷ entry_place 3 ∷ entry_place most_splits ∷ [], 1088 ∷ 1024 ∷ 1056 ∷ 1057 ∷ 3392 ∷ 4456576 ∷ [])
    -- "abab" by the index, from split 0 and from a hint that names none: the words and the 7 rows of the split feed; it then stands at split 2
    ∷ (answered (prepared_by X₃ 0 (opened L) 0 (a ∷ b ∷ a ∷ b ∷ []) 2) ++ answered (prepared_by X₃ 9 (opened L) 0 (a ∷ b ∷ a ∷ b ∷ []) 2), 0 ∷ 4 ∷ 2 ∷ 1 ∷ 0 ∷ 4 ∷ 2 ∷ 1 ∷ [])
    ∷ ((prepared_by X₃ 0 (opened L) 0 (a ∷ b ∷ a ∷ b ∷ []) 2).words, 7 ∷ 2 ∷ 7 ∷ 4 ∷ [])
    ∷ ((prepared_by X₃ 0 (opened L) 0 (a ∷ b ∷ a ∷ b ∷ []) 2).saved, flow_bytes 5 4 7)
    ∷ (stood_by X₃ 0 (opened L) 0 (a ∷ b ∷ a ∷ b ∷ []) 2 ∷ stood_by X₃ 1 (opened L) 0 (a ∷ []) 2 ∷ stood_by X₃ 9 (opened L) 0 [] 2 ∷ [], 2 ∷ 1 ∷ 0 ∷ [])
    -- "a" leads to place 3,392, behind the last entry: it is consumed, tells nothing and costs one row; "b" halts with 14, the frontier between them is empty, and 3 is answered
    ∷ (answered (prepared_by (index_by 3392) 0 (opened L) 0 (a ∷ b ∷ []) 2), 14 ∷ 1 ∷ 0 ∷ 0 ∷ [])
    ∷ ((prepared_by (index_by 3392) 0 (opened L) 0 (a ∷ b ∷ []) 2).saved, flow_bytes 0 1 1)
    ∷ (stood_by (index_by 3392) 0 (opened L) 0 (a ∷ b ∷ []) 2 ∷ [], 3 ∷ [])
    -- a frontier that is no split, {0,1,2}: 14 at the first byte, and 3; of an empty piece nothing, and it stays
    ∷ (answered (prepared_by X₃ 0 (flow_bytes 7 0 0) 0 (a ∷ []) 2) ++ answered (prepared_by X₃ 0 (flow_bytes 7 0 0) 0 [] 2), 14 ∷ 0 ∷ 0 ∷ 0 ∷ 0 ∷ 0 ∷ 0 ∷ 1 ∷ [])
    ∷ (stood_by X₃ 0 (flow_bytes 7 0 0) 0 (a ∷ []) 2 ∷ [], 3 ∷ [])
    -- {3}, which the index does not name: 4, and the hint is answered; an index of no bytes names none, so that 8 is given, of the empty piece too; 5 comes before 8
    ∷ (answered (prepared_by X₃ 7 (flow_bytes 8 0 0) 0 (a ∷ []) 2) ++ (stood_by X₃ 7 (flow_bytes 8 0 0) 0 (a ∷ []) 2 ∷ []), 4 ∷ 0 ∷ 0 ∷ 0 ∷ 7 ∷ [])
    ∷ (answered (prepared_by [] 0 (flow_bytes 8 0 0) 0 [] 2) ++ answered (prepared_by [] 0 (opened L) 1 (a ∷ []) 2), 8 ∷ 0 ∷ 0 ∷ 0 ∷ 5 ∷ 0 ∷ 0 ∷ 0 ∷ [])
    ∷ []

-- the order of the splits, tested at the start of each split feed
abbrev pub order_rows : List Row
order_rows =
    -- exchanged: 9, of the empty piece too, which is not all consumed; 5 and 7 come before 9, and 9 before the 14 of a frontier that is no split
    (answered (split_abab 2 exchanged 2), 9 ∷ 0 ∷ 0 ∷ 0 ∷ [])
    ∷ (answered (fed (by_table 2 (table_of exchanged)) (opened L) 0 [] 2), 9 ∷ 0 ∷ 0 ∷ 0 ∷ [])
    ∷ (answered (fed (by_table 2 (table_of exchanged)) (opened L) 1 (a ∷ []) 2), 5 ∷ 0 ∷ 0 ∷ 0 ∷ [])
    ∷ (answered (split_abab 5 exchanged 2), 7 ∷ 0 ∷ 0 ∷ 0 ∷ [])
    ∷ (answered (split_abab 2 (s02 ++ s01) 2), 9 ∷ 0 ∷ 0 ∷ 0 ∷ [])
    -- a set twice: 9
    ∷ (answered (split_abab 2 (s0 ++ (s0 ++ (s01 ++ s02))) 2), 9 ∷ 0 ∷ 0 ∷ 0 ∷ [])
    -- slots are not looked at: no 9, and 14 at the byte
    ∷ (answered (split_abab 2 wild 2), 14 ∷ 0 ∷ 0 ∷ 0 ∷ [])
    ∷ (answered (fed (by_table 2 (table_of wild)) (opened L) 0 [] 2), 0 ∷ 0 ∷ 0 ∷ 1 ∷ [])
    -- {8} before {0} rises, though its number is larger; behind it: 9
    ∷ (answered (split_abab 2 (s8 ++ (s0 ++ (s01 ++ s02))) 2), 0 ∷ 4 ∷ 2 ∷ 1 ∷ [])
    ∷ (answered (split_abab 2 (s0 ++ (s8 ++ (s01 ++ s02))) 2), 9 ∷ 0 ∷ 0 ∷ 0 ∷ [])
    ∷ []

-- the table that is built
abbrev pub build_rows : List Row
build_rows =
    -- {0,1} can be reached by "a", {0,2} by "ab", and {0} again by "abb"; of these sets the parts and the splits are those made by hand
    (run (plain L) (start L) (a ∷ []) ∷ run (plain L) (start L) (a ∷ b ∷ []) ∷ run (plain L) (start L) (a ∷ b ∷ b ∷ []) ∷ [], 3 ∷ 5 ∷ 1 ∷ [])
    ∷ (parts_of (1 ∷ 3 ∷ 5 ∷ []), T₁.parts)
    ∷ (splits_of (1 ∷ 3 ∷ 5 ∷ []), T₁.splits)
    -- the empty set comes before {8}, and {8} before {0}
    ∷ (cond (lower 0 256) 1 0 ∷ cond (lower 256 1) 1 0 ∷ cond (lower 1 256) 1 0 ∷ [], 1 ∷ 1 ∷ 0 ∷ [])
    -- bytes of parts, rows and splits that are to be lent, and the most classes
    ∷ (set_size * most_parts ∷ set_size * most_rows ∷ split_size * most_parts ∷ most_classes ∷ [], 131072 ∷ 8388608 ∷ 139264 ∷ 64 ∷ [])
    ∷ []

-- "A" and "a" share a class where the edge takes either case, and else they do not
abbrev pub alike_row : Row
alike_row = (cond (alike (edge_of 0x61 0x61 1) 0x41 0x61) 1 0 ∷ cond (alike (edge_of 0x61 0x61 0) 0x41 0x61) 1 0 ∷ [], 1 ∷ 0 ∷ [])

-- opening on L₀ with five words of 9: the pairs (3, 0) and (5, 0), and the fifth word stays
abbrev pub opened_row : Row
opened_row = (open_answered (begin full 5) ++ (begin full 5).words, 0 ∷ 2 ∷ 3 ∷ 0 ∷ 5 ∷ 0 ∷ 9 ∷ [])

-- opening a record full of FF, with no room: no start state of L accepts, so it opens
abbrev pub open_row : Row
open_row = (open_answered (open_flow L full []) ++ (open_flow L full []).saved, 0 ∷ 0 ∷ opened L)

-- the table check: T at 2 is accepted; at bound 1: 9; without {0,2}: 13; without {0}: 12
abbrev pub accepted_row : Row
accepted_row = (table_refusal L 2 T₃ ∷ [], 0 ∷ [])

-- the table of bound 1 at 1
abbrev pub accepted_row₁ : Row
accepted_row₁ = (table_refusal L 1 T₁ ∷ [], 0 ∷ [])

-- and T for L₀, whose edges and start states are L's
abbrev pub accepted_row₀ : Row
accepted_row₀ = (table_refusal L₀ 2 T₃ ∷ [], 0 ∷ [])

abbrev pub bound_row : Row
bound_row = (table_refusal L 1 T₃ ∷ [], 9 ∷ [])

abbrev pub closed_row : Row
closed_row = (table_refusal L 2 (table_of (s0 ++ s01)) ∷ [], 13 ∷ [])

abbrev pub start_row : Row
start_row = (table_refusal L 2 (table_of (s01 ++ s02)) ∷ [], 12 ∷ [])

-- T on the loud list, whose step of {0} on "A" is another: 10
abbrev pub loud_row : Row
loud_row = (table_refusal loud 2 T₃ ∷ [], 10 ∷ [])

-- the one table
abbrev pub examples : List Row
examples =
    open_row ∷ opened_row ∷ accepted_row ∷ accepted_row₁ ∷ accepted_row₀ ∷ bound_row ∷ closed_row ∷ start_row ∷ loud_row ∷ index_row ∷ alike_row
    ∷ (feed_rows ++ (order_rows ++ (index_rows ++ build_rows)))
