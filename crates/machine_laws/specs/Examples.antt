-- Worked examples of the automaton with bits and counters: one table of rows, each what a definition gives beside what the example says.
use Rattle.std.specs.Prelude.{ℕ, zero, suc, cond, List, [], ◌∷◌, ◌++◌, ◌≡◌, replicate, take, drop, set}
use Rattle.feed.specs.Engine.{Outcome, run, most_offset}
use Rattle.feed.specs.Opening.{Opening}
use Rattle.machine.specs.Program.{bit_count, counter_count, off, program_length, record_size, blank}
use Rattle.machine.specs.Machine.{most_states, byte_values, move_size, program_size, good_instruction, machine_refusal, machine, first}
use Rattle.machine.specs.Record.{flow_size}
use Rattle.machine.specs.Extended.{opened, extended_open, pairs_of, extended_feed}

-- a row: what a definition gives, and what the example says
abbrev pub Row : Type 0
Row = List ℕ × List ℕ

-- every row agrees
abbrev pub Agree : List Row → Type 0
Agree [] = Unit {0}
Agree (r ∷ rs) = (r.0 ≡ r.1) × Agree rs

-- n times the same bytes, and n records of nothing
abbrev pub times : ℕ → List ℕ → List ℕ
times zero xs = []
times (suc n) xs = xs ++ times n xs

abbrev pub nothings : ℕ → List ℕ
nothings n = times n (0 ∷ 0 ∷ 0 ∷ 0 ∷ [])

-- ---- two states, all moves to state 1: state 0 sets counter 0 to 2, state 1 lowers it and alerts 9 where it is 0

abbrev pub two_moves : List ℕ
two_moves = times 512 (1 ∷ 0 ∷ [])

abbrev pub two_programs : List ℕ
two_programs = (3 ∷ 0 ∷ 2 ∷ 0 ∷ []) ++ (nothings 7 ++ ((5 ∷ 0 ∷ 0 ∷ 0 ∷ 8 ∷ 0 ∷ 9 ∷ 0 ∷ []) ++ nothings 6))

-- ---- one state: alert 4, set bit 3, alert 1 if bit 3, alert 4, clear bit 3, alert 2 if bit 3

abbrev pub one_moves : List ℕ
one_moves = replicate 512 0

abbrev pub one_programs : List ℕ
one_programs =
    (6 ∷ 0 ∷ 4 ∷ 0 ∷ 1 ∷ 3 ∷ 0 ∷ 0 ∷ 7 ∷ 3 ∷ 1 ∷ 0 ∷ 6 ∷ 0 ∷ 4 ∷ 0 ∷ 2 ∷ 3 ∷ 0 ∷ 0 ∷ 7 ∷ 3 ∷ 2 ∷ 0 ∷ []) ++ nothings 2

-- one state whose program is one record
abbrev pub only : List ℕ → List ℕ
only r = r ++ nothings 7

-- ---- two states by the same moves: state 0 sets bit 9, state 1 alerts 5 where it is set

abbrev pub kept_programs : List ℕ
kept_programs = only (1 ∷ 9 ∷ 0 ∷ 0 ∷ []) ++ only (7 ∷ 9 ∷ 5 ∷ 0 ∷ [])

-- one state sets counter 0 to 300
abbrev pub long_programs : List ℕ
long_programs = only (3 ∷ 0 ∷ 44 ∷ 1 ∷ [])

-- byte 1 leads state 0 to state 258
abbrev pub far_moves : List ℕ
far_moves = 0 ∷ 0 ∷ 2 ∷ 1 ∷ []

-- the two lists of one record: 24 or 0
abbrev pub refusal_of : ℕ → ℕ → ℕ → ℕ
refusal_of k w n = cond (good_instruction k w n) 0 24

-- ---- what a call answers and leaves

abbrev pub open_answer : Opening → List ℕ
open_answer o = o.refusal ∷ (o.pairs ∷ o.words)

abbrev pub answer : Outcome → List ℕ
answer o = o.refusal ∷ (o.bytes ∷ (o.pairs ∷ (cond o.all 1 0 ∷ o.words)))

-- the one state, fed "zz" at offset 0, and the two states, fed "." on a record
abbrev pub fed_one : List ℕ → Outcome
fed_one out = extended_feed one_moves one_programs (opened one_programs) 0 (122 ∷ 122 ∷ []) out

abbrev pub fed_two : List ℕ → ℕ → Outcome
fed_two R at = extended_feed two_moves two_programs R at (46 ∷ []) (8 ∷ 8 ∷ [])

-- the two states that keep a bit, fed so
abbrev pub fed_kept : List ℕ → ℕ → Outcome
fed_kept R at = extended_feed two_moves kept_programs R at (46 ∷ []) (8 ∷ 8 ∷ [])

-- a record of the two states at the last offset
abbrev pub late : List ℕ
late = take 4 (opened two_programs) ++ (255 ∷ 255 ∷ 255 ∷ 255 ∷ drop 8 (opened two_programs))

abbrev pub eights : ℕ → List ℕ
eights n = replicate n 8

-- a counter that is off, in a record
abbrev pub offs : ℕ → List ℕ
offs n = times n (0 ∷ 0 ∷ 1 ∷ 0 ∷ [])

-- ---- the rows

unfoldable pub flow_rows : List Row
flow_rows =
    -- "....": 9 at offset 2 alone; after three bytes counter 0 is off again
    (pairs_of two_moves two_programs (46 ∷ 46 ∷ 46 ∷ 46 ∷ []), 9 ∷ 2 ∷ [])
    ∷ ((run (machine two_moves two_programs) (first two_programs) (46 ∷ 46 ∷ [])).counters, 0 ∷ replicate 15 off)
    ∷ ((run (machine two_moves two_programs) (first two_programs) (46 ∷ 46 ∷ 46 ∷ [])).counters, replicate 16 off)
    -- "z": by signature and not in program order, each once, and none by a bit that is clear again
    ∷ (pairs_of one_moves one_programs (122 ∷ []), 1 ∷ 0 ∷ 4 ∷ 0 ∷ 1 ∷ 1 ∷ 4 ∷ 1 ∷ [])
    -- the record after the opening: state 0, offset 0, no bits, counter 0 at 2 and the others off
    ∷ (opened two_programs, replicate 16 0 ++ ((2 ∷ 0 ∷ 0 ∷ 0 ∷ []) ++ offs 15))
    -- both bytes of a number and of a target: counter 0 at 300, and state 258
    ∷ ((first long_programs).counters, 300 ∷ replicate 15 off)
    ∷ (opened long_programs, replicate 16 0 ++ ((44 ∷ 1 ∷ 0 ∷ 0 ∷ []) ++ offs 15))
    ∷ ((run (machine far_moves []) blank (1 ∷ [])).state ∷ [], 258 ∷ [])
    -- a bit stays over the bytes, and every one of them tells it
    ∷ (pairs_of two_moves kept_programs (46 ∷ 46 ∷ []), 5 ∷ 1 ∷ 5 ∷ 2 ∷ [])
    ∷ (opened kept_programs, replicate 9 0 ++ (2 ∷ (replicate 6 0 ++ offs 16)))
    ∷ []

unfoldable pub open_rows : List Row
open_rows =
    -- five words: the pairs of offset 0, the odd last word stays; three words: 15, and nothing else
    (open_answer (extended_open one_moves one_programs (replicate 80 7) (eights 5)), 0 ∷ 2 ∷ 1 ∷ 0 ∷ 4 ∷ 0 ∷ 8 ∷ [])
    ∷ (open_answer (extended_open one_moves one_programs (replicate 80 7) (eights 3)), 15 ∷ 0 ∷ 8 ∷ 8 ∷ 8 ∷ [])
    ∷ ((extended_open one_moves one_programs (replicate 80 7) (eights 3)).saved, replicate 80 7)
    -- 4 for the length alone, before 15; 24 before 4
    ∷ ((extended_open one_moves one_programs (replicate 79 7) (eights 3)).refusal ∷ [], 4 ∷ [])
    ∷ ((extended_open one_moves (only (4 ∷ 0 ∷ 1 ∷ 0 ∷ [])) (replicate 79 7) (eights 3)).refusal ∷ [], 24 ∷ [])
    ∷ []

unfoldable pub feed_rows : List Row
feed_rows =
    -- room for two pairs: one byte; room for one: none, and the paused byte's program is not saved
    (answer (fed_one (eights 5)), 0 ∷ 1 ∷ 2 ∷ 0 ∷ 1 ∷ 1 ∷ 4 ∷ 1 ∷ 8 ∷ [])
    ∷ (answer (fed_one (eights 3)), 0 ∷ 0 ∷ 0 ∷ 0 ∷ 8 ∷ 8 ∷ 8 ∷ [])
    ∷ ((fed_one (eights 3)).saved, opened one_programs)
    -- a byte of the two states: state 1, offset 1, counter 0 at 1
    ∷ (answer (fed_two (opened two_programs) 0), 0 ∷ 1 ∷ 0 ∷ 1 ∷ 8 ∷ 8 ∷ [])
    ∷ ((fed_two (opened two_programs) 0).saved, (1 ∷ 0 ∷ 0 ∷ 0 ∷ 1 ∷ []) ++ (replicate 11 0 ++ ((1 ∷ 0 ∷ 0 ∷ 0 ∷ []) ++ offs 15)))
    -- 4: a counter of 65,537, a state that is none, a reserved byte, another length; 5 behind them
    ∷ ((fed_two (set (opened two_programs) 20 1) 0).refusal ∷ [], 4 ∷ [])
    ∷ ((fed_two (set (opened two_programs) 0 2) 0).refusal ∷ [], 4 ∷ [])
    ∷ ((fed_two (set (opened two_programs) 3 1) 1).refusal ∷ [], 4 ∷ [])
    ∷ ((fed_two (take 79 (opened two_programs)) 0).refusal ∷ [], 4 ∷ [])
    ∷ ((fed_two (opened two_programs) 1).refusal ∷ [], 5 ∷ [])
    -- a byte after the last offset: 6; 5 and 4 come before it; an empty piece passes there
    ∷ ((fed_two late 4294967295).refusal ∷ (fed_two late 0).refusal ∷ (fed_two (set late 3 1) 0).refusal ∷ [], 6 ∷ 5 ∷ 4 ∷ [])
    ∷ (answer (extended_feed two_moves two_programs late 4294967295 [] (8 ∷ 8 ∷ [])), 0 ∷ 0 ∷ 0 ∷ 1 ∷ 8 ∷ 8 ∷ [])
    -- a bit is saved, and a feed goes on with it
    ∷ ((fed_kept (opened kept_programs) 0).saved, (1 ∷ 0 ∷ 0 ∷ 0 ∷ 1 ∷ 0 ∷ 0 ∷ 0 ∷ 0 ∷ 2 ∷ []) ++ (replicate 6 0 ++ offs 16))
    ∷ (answer (fed_kept (fed_kept (opened kept_programs) 0).saved 1), 0 ∷ 1 ∷ 1 ∷ 1 ∷ 5 ∷ 2 ∷ [])
    ∷ []

unfoldable pub check_rows : List Row
check_rows =
    (machine_refusal two_moves two_programs ∷ machine_refusal one_moves one_programs ∷ [], 0 ∷ 0 ∷ [])
    -- kind 4 with number 1, a target that is no state, a program too many
    ∷ (machine_refusal one_moves (only (4 ∷ 0 ∷ 1 ∷ 0 ∷ [])) ∷ machine_refusal (set one_moves 0 1) one_programs ∷ machine_refusal one_moves two_programs ∷ [], 24 ∷ 24 ∷ 24 ∷ [])
    -- by kind, the last bit or counter and one more, then the last number or signature and one more
    ∷ (refusal_of 0 0 0 ∷ refusal_of 0 1 0 ∷ refusal_of 0 0 1 ∷ refusal_of 0 0 256 ∷ [], 0 ∷ 24 ∷ 24 ∷ 24 ∷ [])
    ∷ (refusal_of 1 63 0 ∷ refusal_of 1 64 0 ∷ refusal_of 1 63 1 ∷ refusal_of 2 63 0 ∷ refusal_of 2 64 0 ∷ refusal_of 2 63 256 ∷ [], 0 ∷ 24 ∷ 24 ∷ 0 ∷ 24 ∷ 24 ∷ [])
    ∷ (refusal_of 3 15 65535 ∷ refusal_of 3 16 65535 ∷ refusal_of 4 15 0 ∷ refusal_of 4 16 0 ∷ refusal_of 5 15 0 ∷ refusal_of 5 16 0 ∷ refusal_of 5 15 1 ∷ [], 0 ∷ 24 ∷ 0 ∷ 24 ∷ 0 ∷ 24 ∷ 24 ∷ [])
    ∷ (refusal_of 6 0 255 ∷ refusal_of 6 0 256 ∷ refusal_of 6 1 255 ∷ refusal_of 7 63 255 ∷ refusal_of 7 64 255 ∷ refusal_of 7 63 256 ∷ [], 0 ∷ 24 ∷ 24 ∷ 0 ∷ 24 ∷ 24 ∷ [])
    ∷ (refusal_of 8 15 255 ∷ refusal_of 8 16 255 ∷ refusal_of 8 15 256 ∷ refusal_of 9 0 0 ∷ refusal_of 255 0 0 ∷ [], 0 ∷ 24 ∷ 24 ∷ 24 ∷ 24 ∷ [])
    ∷ []

unfoldable pub size_rows : List Row
size_rows =
    -- bits, counters, off, records of a program, their bytes
    (bit_count ∷ counter_count ∷ off ∷ program_length ∷ record_size ∷ [], 64 ∷ 16 ∷ 65536 ∷ 8 ∷ 4 ∷ [])
    -- states, bytes that may come, bytes of a state's targets, of its program, and of a flow record; the last offset
    ∷ (most_states ∷ byte_values ∷ move_size ∷ program_size ∷ flow_size ∷ most_offset ∷ [], 1024 ∷ 256 ∷ 512 ∷ 32 ∷ 80 ∷ 4294967295 ∷ [])
    ∷ []

unfoldable pub examples : List Row
examples = flow_rows ++ (open_rows ++ (feed_rows ++ (check_rows ++ size_rows)))
