-- Renewals by number: each row has what a definition gives beside what is expected.
use Rattle.std.specs.Prelude.{ℕ, suc, List, [], ◌∷◌, ◌++◌, replicate, take, drop}
use Rattle.feed.specs.Calls.{record_after, all_told}
use Rattle.list_flow.specs.Flow.{flow_bytes, frontier_of, offset_of, rows_of}
use Rattle.list_renew.specs.Renewal.{renewal, offset_said, no_offset}
use Rattle.laws.specs.Calls.{by_list}
use Rattle.laws_examples.specs.Examples.{Row, L}
use Rattle.list_renew_laws.specs.Renewed.{Flow, Act, feeding, renewing, acts}

-- a feed of the barn's list, whose signature 7 is told after any "ab"
abbrev pub piece : ℕ → List ℕ → Act
piece at bs = feeding (record { by = record { list = L; via = by_list }; at = at; piece = bs; out = replicate 4 0 })

-- a flow that has just been opened, and one that is one byte before its end
abbrev pub fresh : Flow
fresh = record { before = 0; saved = flow_bytes 1 0 0 }

abbrev pub late : Flow
late = record { before = 0; saved = flow_bytes 1 4294967294 0 }

-- the words told, and then the bytes before the last renewal, the frontier, the offset and the rows
abbrev pub went_from : Flow → List Act → List ℕ
went_from S cs =
    let Q = record_after acts S cs in
    all_told acts S cs ++ (Q.before ∷ frontier_of Q.saved ∷ offset_of Q.saved ∷ rows_of Q.saved ∷ [])

abbrev pub flow_rows : List Row
flow_rows =
    -- "ab", a renewal, "ab": 7 at 2 and at 4, as without it; then 2 bytes before and 2 since
    (went_from fresh (piece 0 (97 ∷ 98 ∷ []) ∷ renewing ∷ piece 0 (97 ∷ 98 ∷ []) ∷ []), 7 ∷ 2 ∷ 7 ∷ 4 ∷ 2 ∷ 5 ∷ 2 ∷ 4 ∷ [])
    -- a renewal between "a" and "b" loses nothing, and two renewals are one
    ∷ (went_from fresh (piece 0 (97 ∷ []) ∷ renewing ∷ renewing ∷ piece 0 (98 ∷ []) ∷ []), 7 ∷ 2 ∷ 1 ∷ 5 ∷ 1 ∷ 2 ∷ [])
    -- at offset 4,294,967,294 "ab" is refused with 6; renewed, it is taken, and 7 is told at 4,294,967,296
    ∷ (went_from late (piece 4294967294 (97 ∷ 98 ∷ []) ∷ renewing ∷ piece 0 (97 ∷ 98 ∷ []) ∷ []), 7 ∷ 4294967296 ∷ 4294967294 ∷ 5 ∷ 2 ∷ 3 ∷ [])
    ∷ []

-- the answer, and whether the record stays
abbrev pub answers : List ℕ → ℕ
answers R = (renewal R).refusal

-- the record of three bytes with one of its own at a place
abbrev pub spoilt : ℕ → List ℕ
spoilt i = take i (flow_bytes 3 3 5) ++ (1 ∷ drop (suc i) (flow_bytes 3 3 5))

abbrev pub single_rows : List Row
single_rows =
    -- 1,024 rows a byte pass, and one more is refused; so are a byte more or less, 80 bytes, and the first and the last reserved byte
    (answers (flow_bytes 1 1 1024) ∷ answers (flow_bytes 1 1 1025) ∷ answers (flow_bytes 1 0 0) ∷ answers (flow_bytes 1 0 1) ∷ [], 0 ∷ 4 ∷ 0 ∷ 4 ∷ [])
    ∷ (answers (take 143 (flow_bytes 3 3 5)) ∷ answers (flow_bytes 3 3 5 ++ (0 ∷ [])) ∷ answers (replicate 80 0) ∷ answers (spoilt 132) ∷ answers (spoilt 135) ∷ [], 4 ∷ 4 ∷ 4 ∷ 4 ∷ 4 ∷ [])
    -- the record of "aba" keeps its frontier alone; one that is refused stays
    ∷ ((renewal (flow_bytes 3 3 5)).saved, flow_bytes 3 0 0)
    ∷ ((renewal (spoilt 132)).saved, spoilt 132)
    -- the offset of 144 and of 80 bytes, of a record that is refused too, and of bytes of another length
    ∷ (offset_said (flow_bytes 3 4294967295 0) ∷ offset_said (spoilt 132) ∷ offset_said (0 ∷ 0 ∷ 0 ∷ 0 ∷ 1 ∷ 2 ∷ replicate 74 0) ∷ [], 4294967295 ∷ 3 ∷ 513 ∷ [])
    ∷ (offset_said [] ∷ offset_said (replicate 79 0) ∷ offset_said (replicate 145 0) ∷ [], no_offset ∷ no_offset ∷ no_offset ∷ [])
    ∷ []

abbrev pub renewal_examples : List Row
renewal_examples = flow_rows ++ single_rows
