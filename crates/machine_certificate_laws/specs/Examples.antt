-- Worked examples of the check of a certificate: one table of rows, each what a definition gives beside what the example says.
use Rattle.std.specs.Prelude.{ℕ, ◌+◌, ◌*◌, ◌^◌, List, [], ◌∷◌, ◌++◌, replicate, take, drop, set}
use Rattle.rules.specs.Rules.{verdict}
use Rattle.feed.specs.Opening.{Opening}
use Rattle.list_flow.specs.Opening.{open_flow}
use Rattle.feed.specs.Demands.{open_told}
use Rattle.laws.specs.Calls as list
use Rattle.machine.specs.Program.{off}
use Rattle.machine.specs.Extended.{extended_open}
use Rattle.feed.specs.Calls.{asked, all_told, all_bytes}
use Rattle.machine_laws.specs.Calls.{Call, way_of}
use Rattle.machine_laws.specs.Examples.{Row, nothings, offs, two_moves}
use Rattle.machine_certificate.specs.Certificate.{config_size, note_size, most_notes, note_config, note_set, numbers_of, bad_certificate, certificate_refusal}

-- ---- list L: signature 7 after any "ab"; its frontiers are {0}, {0, 1} and {0, 2}

abbrev pub L : List ℕ
L =
    1 ∷ 0 ∷ 255 ∷ 0 ∷ 0 ∷ 0 ∷ 0 ∷ 0
    ∷ 1 ∷ 97 ∷ 97 ∷ 0 ∷ 0 ∷ 0 ∷ 1 ∷ 0
    ∷ 1 ∷ 98 ∷ 98 ∷ 0 ∷ 1 ∷ 0 ∷ 2 ∷ 0
    ∷ 2 ∷ 0 ∷ 0 ∷ 0 ∷ 0 ∷ 0 ∷ 0 ∷ 0
    ∷ 3 ∷ 0 ∷ 0 ∷ 0 ∷ 2 ∷ 0 ∷ 7 ∷ 0 ∷ []

-- ---- the machine: state 1 after "a", state 2 after "ab", else 0

-- a state's targets: "a" leads to 1, "b" to q, every other byte to 0
abbrev pub targets : ℕ → List ℕ
targets q = replicate 194 0 ++ (1 ∷ 0 ∷ q ∷ 0 ∷ replicate 314 0)

abbrev pub M : List ℕ
M = targets 0 ++ (targets 2 ++ targets 0)

-- the program of state 2 alerts a signature
abbrev pub alerting : ℕ → List ℕ
alerting g = nothings 16 ++ ((6 ∷ 0 ∷ g ∷ 0 ∷ []) ++ nothings 7)

abbrev pub P : List ℕ
P = alerting 7

-- ---- records: the counters, a state, the first byte of the bits, and the first byte of the set

abbrev pub note_of : List ℕ → ℕ → ℕ → ℕ → List ℕ
note_of counters q bits F = (q ∷ 0 ∷ 0 ∷ 0 ∷ bits ∷ []) ++ (replicate 7 0 ++ (counters ++ (F ∷ replicate 127 0)))

-- every counter is off; counter 15 is over that
abbrev pub note : ℕ → ℕ → ℕ → List ℕ
note q bits F = note_of (offs 16) q bits F

abbrev pub over : ℕ → ℕ → List ℕ
over q F = note_of (offs 15 ++ (1 ∷ 0 ∷ 1 ∷ 0 ∷ [])) q 0 F

-- a certificate of three records
abbrev pub three : List ℕ → List ℕ → List ℕ → List ℕ
three a b c = a ++ (b ++ c)

-- L's certificate for the machine; the order is free
abbrev pub Z : List ℕ
Z = three (note 0 0 1) (note 1 0 3) (note 2 0 5)

abbrev pub Z₁ : List ℕ
Z₁ = three (note 1 0 3) (note 0 0 1) (note 2 0 5)

-- ---- one state: every byte leads it to itself, and signature 7 is accepted after each, and at once

abbrev pub L₁ : List ℕ
L₁ = 1 ∷ 0 ∷ 255 ∷ 0 ∷ 0 ∷ 0 ∷ 0 ∷ 0 ∷ 2 ∷ 0 ∷ 0 ∷ 0 ∷ 0 ∷ 0 ∷ 0 ∷ 0 ∷ 3 ∷ 0 ∷ 0 ∷ 0 ∷ 0 ∷ 0 ∷ 7 ∷ 0 ∷ []

abbrev pub M₁ : List ℕ
M₁ = replicate 512 0

abbrev pub P₁ : List ℕ
P₁ = (6 ∷ 0 ∷ 7 ∷ 0 ∷ []) ++ nothings 7

-- ---- two states: every byte leads to the second; nothing is accepted, and the first one's program alerts 7 at opening alone

abbrev pub L₂ : List ℕ
L₂ = 1 ∷ 0 ∷ 255 ∷ 0 ∷ 0 ∷ 0 ∷ 1 ∷ 0 ∷ 1 ∷ 0 ∷ 255 ∷ 0 ∷ 1 ∷ 0 ∷ 1 ∷ 0 ∷ 2 ∷ 0 ∷ 0 ∷ 0 ∷ 0 ∷ 0 ∷ 0 ∷ 0 ∷ []

abbrev pub P₂ : List ℕ
P₂ = (6 ∷ 0 ∷ 7 ∷ 0 ∷ []) ++ nothings 15

-- ---- a record whose fields all differ, behind another

abbrev pub marked : List ℕ
marked =
    replicate 204 9
    ++ ((2 ∷ 1 ∷ 0 ∷ 0 ∷ 1 ∷ 0 ∷ 0 ∷ 0 ∷ 0 ∷ 0 ∷ 0 ∷ 128 ∷ 3 ∷ 0 ∷ 0 ∷ 0 ∷ []) ++ (offs 14 ++ ((5 ∷ 0 ∷ 0 ∷ 0 ∷ 1 ∷ []) ++ (replicate 126 0 ++ (128 ∷ [])))))

-- ---- the rows

-- where the list and the machine pass, 22 alone is left
abbrev pub only22 : List ℕ → List ℕ → List ℕ → List ℕ → List ℕ
only22 list moves programs Y = verdict ((22, bad_certificate list moves programs Y) ∷ []) ∷ []

abbrev pub refusal_of : List ℕ → List ℕ
refusal_of Y = only22 L M P Y

-- by other moves and programs for L
abbrev pub refusal_by : List ℕ → List ℕ → List ℕ
refusal_by moves programs = only22 L moves programs Z₁

-- of the one state
abbrev pub refusal_one : List ℕ → List ℕ → List ℕ
refusal_one programs Y = only22 L₁ M₁ programs Y

unfoldable pub accepted_rows : List Row
accepted_rows =
    (certificate_refusal L M P Z ∷ [], 0 ∷ [])
    -- one state: its record; with one behind it that nothing reaches and that closes; and the other way about
    ∷ (refusal_one P₁ (note 0 0 1), 0 ∷ [])
    ∷ (refusal_one P₁ (note 0 0 1 ++ note 0 1 1), 0 ∷ [])
    ∷ (refusal_one P₁ (note 0 1 1 ++ note 0 0 1), 0 ∷ [])
    ∷ []

unfoldable pub missing_rows : List Row
missing_rows =
    -- no record; without the third, the second, the first
    (refusal_of [], 22 ∷ [])
    ∷ (refusal_of (note 1 0 3 ++ note 0 0 1), 22 ∷ [])
    ∷ (refusal_of (note 0 0 1 ++ note 2 0 5), 22 ∷ [])
    ∷ (refusal_of (note 1 0 3 ++ note 2 0 5), 22 ∷ [])
    -- {1} for {0, 1}, {0} for {0, 2}, and {0, 1} for {0}
    ∷ (refusal_of (three (note 0 0 1) (note 1 0 2) (note 2 0 5)), 22 ∷ [])
    ∷ (refusal_of (three (note 1 0 3) (note 0 0 1) (note 2 0 1)), 22 ∷ [])
    ∷ (refusal_of (three (note 0 0 3) (note 1 0 3) (note 2 0 5)), 22 ∷ [])
    -- a record more that does not close: state 0 with bit 0 set; of the one state, the last record, with an empty set
    ∷ (refusal_of (note 0 1 1 ++ Z), 22 ∷ [])
    ∷ (refusal_one P₁ (note 0 0 1 ++ note 0 1 0), 22 ∷ [])
    ∷ []

unfoldable pub field_rows : List Row
field_rows =
    -- a record twice, with its set and with another
    (refusal_of (Z ++ note 1 0 3), 22 ∷ [])
    ∷ (refusal_of (Z ++ note 1 0 1), 22 ∷ [])
    -- a byte too few, a byte too many
    ∷ (refusal_of (take 611 Z), 22 ∷ [])
    ∷ (refusal_of (Z ++ (0 ∷ [])), 22 ∷ [])
    -- a reserved byte: the first of the first record, the last of the last
    ∷ (refusal_of (set Z 2 1), 22 ∷ [])
    ∷ (refusal_of (set Z 411 1), 22 ∷ [])
    -- a state that is none, and counters over off in records that would close
    ∷ (refusal_of (Z ++ note 3 0 1), 22 ∷ [])
    ∷ (refusal_of (Z ++ three (over 0 1) (over 1 3) (over 2 5)), 22 ∷ [])
    ∷ []

unfoldable pub alert_rows : List Row
alert_rows =
    -- after "ab": nothing, 8 for 7, and 8 beside 7
    (refusal_by M (nothings 24), 22 ∷ [])
    ∷ (refusal_by M (alerting 8), 22 ∷ [])
    ∷ (refusal_by M (nothings 16 ++ ((6 ∷ 0 ∷ 7 ∷ 0 ∷ 6 ∷ 0 ∷ 8 ∷ 0 ∷ []) ++ nothings 6)), 22 ∷ [])
    -- at opening: 7 where nothing is accepted, by a state that is left and by one that is met again; of the one state nothing for 7
    ∷ (only22 L₂ two_moves P₂ (note 0 0 1 ++ note 1 0 2), 22 ∷ [])
    ∷ (refusal_by M ((6 ∷ 0 ∷ 7 ∷ 0 ∷ []) ++ (nothings 15 ++ drop 64 P)), 22 ∷ [])
    ∷ (refusal_one (nothings 8) (note 0 0 1), 22 ∷ [])
    -- a byte that leads elsewhere: the first and the last of state 1
    ∷ (refusal_by (set M 512 1) P, 22 ∷ [])
    ∷ (refusal_by (set M 1022 1) P, 22 ∷ [])
    ∷ []

unfoldable pub order_rows : List Row
order_rows =
    -- the list before the machine, the machine before the certificate
    (certificate_refusal [] [] [] [] ∷ certificate_refusal (take 24 L) [] [] [] ∷ certificate_refusal L [] [] [] ∷ certificate_refusal L M P [] ∷ [], 1 ∷ 3 ∷ 24 ∷ 22 ∷ [])
    -- bytes of a configuration and of a record, the most records, and their bytes
    ∷ (config_size ∷ note_size ∷ most_notes ∷ note_size * most_notes ∷ [], 76 ∷ 204 ∷ 4096 ∷ 835584 ∷ [])
    -- the second of two records: its state, bits, counters and set
    ∷ (numbers_of (note_config marked 1) ++ (note_set marked 1 ∷ []), 258 ∷ (2 ^ 63 + 1) ∷ ((3 ∷ replicate 14 off) ++ (5 ∷ (2 ^ 1023 + 1) ∷ [])))
    ∷ []

-- ---- "ab" by both of the one state, each from its opening on a record of sevens: by the list at once; by the machine cut in two, with the first piece sent again between

abbrev pub list_begun : Opening
list_begun = open_flow L₁ (replicate 144 7) (replicate 3 8)

abbrev pub list_calls : List list.Call
list_calls = record { by = record { list = L₁; via = list.by_list }; at = 0; piece = 97 ∷ 98 ∷ []; out = replicate 4 8 } ∷ []

abbrev pub machine_begun : Opening
machine_begun = extended_open M₁ P₁ (replicate 80 7) (replicate 2 8)

abbrev pub machine_fed : ℕ → ℕ → Call
machine_fed at c = record { by = record { moves = M₁; programs = P₁ }; at = at; piece = c ∷ []; out = replicate 3 8 }

abbrev pub machine_calls : List Call
machine_calls = machine_fed 0 97 ∷ (machine_fed 0 97 ∷ (machine_fed 1 98 ∷ []))

unfoldable pub told_rows : List Row
told_rows =
    (list_begun.refusal ∷ machine_begun.refusal ∷ certificate_refusal L₁ M₁ P₁ (note 0 0 1) ∷ [], 0 ∷ 0 ∷ 0 ∷ [])
    ∷ (all_bytes (asked list.way_of) list_begun.saved list_calls, 97 ∷ 98 ∷ [])
    ∷ (all_bytes (asked way_of) machine_begun.saved machine_calls, 97 ∷ 98 ∷ [])
    ∷ (open_told list_begun ++ all_told (asked list.way_of) list_begun.saved list_calls, 7 ∷ 0 ∷ 7 ∷ 1 ∷ 7 ∷ 2 ∷ [])
    ∷ (open_told machine_begun ++ all_told (asked way_of) machine_begun.saved machine_calls, 7 ∷ 0 ∷ 7 ∷ 1 ∷ 7 ∷ 2 ∷ [])
    ∷ []

unfoldable pub examples : List Row
examples = told_rows ++ (accepted_rows ++ (missing_rows ++ (field_rows ++ (alert_rows ++ order_rows))))
