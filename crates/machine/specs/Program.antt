-- A configuration of the automaton with bits and counters, the instructions, and a state's program.
use Rattle.std.specs.Prelude.{ℕ, zero, suc, ◌+◌, ◌-◌, ◌*◌, ◌^◌, Bool, ◌&&◌, ◌||◌, cond, List, get_or, set, replicate, take, drop, eqb}
use Rattle.std.specs.Int.Bits.{bit_xor}
use Rattle.numbers.specs.Number.{num}
use Rattle.sets.specs.Set.{signatures, holds, join, insert}
use Rattle.machine.specs.declared.Config.{Config}

-- ---- sizes: each stands here, and once in src/

-- bits are the numbers below this one, counters the numbers below that one
abbrev pub bit_count : ℕ
bit_count = 64

abbrev pub counter_count : ℕ
counter_count = 16

-- a counter that is off; on it is a number below this one
abbrev pub off : ℕ
off = 65536

-- a program is so many records, each of so many bytes
abbrev pub program_length : ℕ
program_length = 8

abbrev pub record_size : ℕ
record_size = 4

-- ---- a configuration is one state, the set of the bits that are set, and the counters

-- all bits clear, all counters off
abbrev pub blank : Config
blank = record { state = 0; bits = 0; counters = replicate counter_count off }

-- the same in state q
abbrev pub moved : ℕ → Config → Config
moved q x = record { state = q; bits = x.bits; counters = x.counters }

-- ---- instructions: a kind, a bit or counter, and a number or signature

-- D without s: s is put in, and then turned over
unfoldable pub without : ℕ → ℕ → ℕ
without D s = bit_xor (join D (2 ^ s)) (2 ^ s)

-- one less; 0 becomes off, and off stays
abbrev pub lower : ℕ → ℕ
lower n = cond (eqb n 0) off (cond (eqb n off) off (n - 1))

-- kind 1 sets bit w, kind 2 clears it
unfoldable pub bits_by : ℕ → ℕ → ℕ → ℕ
bits_by k w D = cond (eqb k 1) (insert bit_count D w) (cond (eqb k 2) (without D w) D)

-- kind 3 sets counter w to n, kind 4 turns it off, kind 5 lowers it
unfoldable pub counters_by : ℕ → ℕ → ℕ → List ℕ → List ℕ
counters_by k w n cs = cond (eqb k 3) (set cs w n) (cond (eqb k 4) (set cs w off) (cond (eqb k 5) (set cs w (lower (get_or cs w 0))) cs))

-- kind 6 alerts n, kind 7 where bit w is set, kind 8 where counter w is 0; A is what is alerted before
abbrev pub alert_now : ℕ → ℕ → ℕ → List ℕ → Bool
alert_now k w D cs = eqb k 6 || eqb k 7 && holds D w || eqb k 8 && eqb (get_or cs w 0) 0

unfoldable pub alerts_by : ℕ → ℕ → ℕ → ℕ → List ℕ → ℕ → ℕ
alerts_by k w n D cs A = cond (alert_now k w D cs) (insert signatures A n) A

-- what an instruction makes of a configuration
abbrev pub done : ℕ → ℕ → ℕ → Config → Config
done k w n x = record { state = x.state; bits = bits_by k w x.bits; counters = counters_by k w n x.counters }

-- ---- record i of a list of programs: byte 0 the kind, byte 1 the bit or counter, bytes 2 and 3 the number or signature

-- two bytes at a place of a list, low byte first
abbrev pub word : List ℕ → ℕ → ℕ
word b at = num 8 (take 2 (drop at b))

abbrev pub kind_of : List ℕ → ℕ → ℕ
kind_of P i = get_or P (record_size * i) 0

abbrev pub which_of : List ℕ → ℕ → ℕ
which_of P i = get_or P (record_size * i + 1) 0

abbrev pub number_of : List ℕ → ℕ → ℕ
number_of P i = word P (record_size * i + 2)

-- ---- the program of state q: records 8 q to 8 q + 7, run in their order

-- the configuration after the first j of them
unfoldable pub after : List ℕ → ℕ → Config → ℕ → Config
after P q x zero = x
after P q x (suc j) = let i = program_length * q + j in done (kind_of P i) (which_of P i) (number_of P i) (after P q x j)

-- the signatures that these alert: each sees what those before it did
unfoldable pub alerted : List ℕ → ℕ → Config → ℕ → ℕ
alerted P q x zero = 0
alerted P q x (suc j) = let i = program_length * q + j in let y = after P q x j in alerts_by (kind_of P i) (which_of P i) (number_of P i) y.bits y.counters (alerted P q x j)

-- all of it
abbrev pub programmed : List ℕ → ℕ → Config → Config
programmed P q x = after P q x program_length

abbrev pub alerts_of : List ℕ → ℕ → Config → ℕ
alerts_of P q x = alerted P q x program_length
