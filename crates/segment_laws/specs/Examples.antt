-- The worked cases of resends: one table of rows, each what a definition gives beside what the case says.
use Rattle.std.specs.Prelude.{ℕ, cond, List, [], ◌∷◌, ◌++◌, replicate, take}
use Rattle.laws_examples.specs.Examples.{Row, L}
use Rattle.list_flow.specs.Flow.{flow_size, flow_bytes, offset_of}
use Rattle.list_flow.specs.Opening.{open_flow}
use Rattle.feed.specs.Calls.{record_after, all_told, all_bytes}
use Rattle.laws.specs.Calls.{Call, by_list, way_of}
use Rattle.segment.specs.Resend.{held_size, bad_sizes, Held, taking, due}
use Rattle.segment_feed.specs.Segment.{Kept}
use Rattle.segment_feed.specs.Calls.{hears, handed}
use Rattle.segment_feed.specs.Streamed.{fresh}

-- ---- taking and what is due: `next`, the held place, and a segment

-- a held buffer with some bytes in front
abbrev pub holding : List ℕ → List ℕ
holding bs = bs ++ replicate 4092 0

abbrev pub DEFG : List ℕ
DEFG = 68 ∷ 69 ∷ 70 ∷ 71 ∷ []

-- the refusal, the held place and the first bytes of the held buffer after taking a segment; nothing is held before
abbrev pub took_of : Held → List ℕ
took_of h = h.refusal ∷ h.start ∷ h.length ∷ take 4 h.bytes

abbrev pub took : ℕ → ℕ → List ℕ → List ℕ
took next q seg = took_of (taking next (replicate held_size 0) 0 0 q seg)

-- the same where four bytes, DEFG, are held from 13 on
abbrev pub took_held : ℕ → ℕ → List ℕ → List ℕ
took_held next q seg = took_of (taking next (holding DEFG) 13 4 q seg)

-- what is due where nothing is held, and where DEFG is from 13 on
abbrev pub due_of : ℕ → ℕ → List ℕ → List ℕ
due_of next q seg = due next (replicate held_size 0) 0 0 q seg

abbrev pub due_held : ℕ → ℕ → List ℕ → List ℕ
due_held next q seg = due next (holding DEFG) 13 4 q seg

abbrev pub a-j : List ℕ
a-j = 97 ∷ 98 ∷ 99 ∷ 100 ∷ 101 ∷ 102 ∷ 103 ∷ 104 ∷ 105 ∷ 106 ∷ []

abbrev pub take_rows : List Row
take_rows =
    -- next 10: "abc" from 10 on is due; of "xxabc" from 8 on the new end is
    (due_of 10 10 (97 ∷ 98 ∷ 99 ∷ []), 97 ∷ 98 ∷ 99 ∷ [])
    ∷ (due_of 10 8 (120 ∷ 120 ∷ 97 ∷ 98 ∷ 99 ∷ []), 97 ∷ 98 ∷ 99 ∷ [])
    -- five bytes from 5 on all came before: dropped
    ∷ (took 10 5 (1 ∷ 2 ∷ 3 ∷ 4 ∷ 5 ∷ []) ++ due_of 10 5 (1 ∷ 2 ∷ 3 ∷ 4 ∷ 5 ∷ []), 0 ∷ 0 ∷ 0 ∷ 0 ∷ 0 ∷ 0 ∷ 0 ∷ [])
    -- "DEFG" from 13 on is held
    ∷ (took 10 13 DEFG, 0 ∷ 13 ∷ 4 ∷ DEFG)
    -- while it is: of "abcdefghij" from 10 on "abc" is due, at 13 the held one, at 15 its end, and at 17 "hij"
    ∷ (due_held 10 10 a-j, 97 ∷ 98 ∷ 99 ∷ [])
    ∷ (due_held 13 10 a-j, DEFG)
    ∷ (due_held 15 10 a-j, 70 ∷ 71 ∷ [])
    ∷ (due_held 17 10 a-j, 104 ∷ 105 ∷ 106 ∷ [])
    -- one from 30 on gives 18 while DEFG is held, and the held bytes stay due; at 17 the place is free and it is held
    ∷ (took_held 13 30 (1 ∷ []) ++ due_held 13 30 (1 ∷ []), 18 ∷ 13 ∷ 4 ∷ (DEFG ++ DEFG))
    ∷ (took_held 17 30 (1 ∷ []), 0 ∷ 30 ∷ 1 ∷ 1 ∷ 69 ∷ 70 ∷ 71 ∷ [])
    -- the held segment itself again while it is held: 18
    ∷ (took_held 10 13 DEFG, 18 ∷ 13 ∷ 4 ∷ DEFG)
    -- an empty one ahead while another is held: dropped; the place of one whose bytes all came before is free
    ∷ (took_held 10 30 [], 0 ∷ 13 ∷ 4 ∷ DEFG)
    ∷ (took_held 17 30 [], 0 ∷ 13 ∷ 0 ∷ DEFG)
    -- numbers wrap: next 4,294,967,294, ten bytes from 4,294,967,290 on: the last six
    ∷ (due_of 4294967294 4294967290 a-j, 101 ∷ 102 ∷ 103 ∷ 104 ∷ 105 ∷ 106 ∷ [])
    -- 2,147,483,648 ahead counts as before, one less as ahead
    ∷ (took 10 2147483658 (1 ∷ []), 0 ∷ 0 ∷ 0 ∷ 0 ∷ 0 ∷ 0 ∷ 0 ∷ [])
    ∷ (took 10 2147483657 (1 ∷ []), 0 ∷ 2147483657 ∷ 1 ∷ 1 ∷ 0 ∷ 0 ∷ 0 ∷ [])
    ∷ []

-- ---- sizes: the most bytes of a segment, the buffer's size, the most bytes held

abbrev pub refused : ℕ → ℕ → ℕ → ℕ
refused h n s = cond (bad_sizes h n s) 18 0

abbrev pub size_row : Row
size_row = (
  refused 4096 0 65535 ∷ refused 4096 0 65536 ∷ refused 4095 0 0 ∷ refused 4097 0 0 ∷ refused 4096 4096 0 ∷ refused 4096 4097 0
      ∷ (taking 10 (replicate 4096 0) 0 0 11 (replicate 4096 1)).refusal ∷ (taking 10 (replicate 4096 0) 0 0 11 (replicate 4097 1)).refusal ∷ [],
  0 ∷ 18 ∷ 18 ∷ 18 ∷ 0 ∷ 18 ∷ 0 ∷ 18 ∷ [],
)

-- ---- whole flows of the barn list, whose first byte has number 1000 or 4,294,967,295

abbrev pub segment : ℕ → List ℕ → Call
segment q bs = record { by = record { list = L; via = by_list }; at = q; piece = bs; out = replicate 8 0 }

abbrev pub begun₀ : Kept
begun₀ = fresh (open_flow L (replicate flow_size 0) []) (replicate held_size 0)

-- the bytes passed down, a dot, the words told, a dot, and how many bytes are held then
abbrev pub heard : ℕ → List Call → List ℕ
heard s cs = all_bytes (handed way_of s) begun₀ cs ++ (0 ∷ (all_told (handed way_of s) begun₀ cs ++ (0 ∷ (record_after (handed way_of s) begun₀ cs).length ∷ [])))

abbrev pub flow_rows : List Row
flow_rows =
    -- "a", then "ab" that overlaps it, then "ab" again: 7 is told once
    (heard 1000 (segment 1000 (97 ∷ []) ∷ segment 1000 (97 ∷ 98 ∷ []) ∷ segment 1000 (97 ∷ 98 ∷ []) ∷ []), 97 ∷ 98 ∷ 0 ∷ 7 ∷ 2 ∷ 0 ∷ 0 ∷ [])
    -- "b" comes early and is held; "a_x" brings its place the byte that is held, and not X
    ∷ (heard 1000 (segment 1001 (98 ∷ []) ∷ segment 1000 (97 ∷ 88 ∷ 97 ∷ []) ∷ []), 97 ∷ 98 ∷ 97 ∷ 0 ∷ 7 ∷ 2 ∷ 0 ∷ 0 ∷ [])
    -- across the end of the numbers: the flow's first byte has the last one
    ∷ (heard 4294967295 (segment 0 (98 ∷ 97 ∷ []) ∷ segment 4294967295 (97 ∷ 99 ∷ []) ∷ segment 4294967294 (1 ∷ 2 ∷ 3 ∷ 4 ∷ 98 ∷ []) ∷ []), 97 ∷ 98 ∷ 97 ∷ 98 ∷ 0 ∷ 7 ∷ 2 ∷ 7 ∷ 4 ∷ 0 ∷ 0 ∷ [])
    ∷ []

-- ---- single segments on a flow of the barn list, whose first byte has number 1000

-- the record R is kept, and n bytes, "b" first, are held from number p on
abbrev pub kept_as : List ℕ → ℕ → ℕ → Kept
kept_as R p n = record { flow = R; held = holding (98 ∷ 0 ∷ 0 ∷ 0 ∷ []); start = p; length = n }

-- the refusal, the bytes passed down, and then the offset and how many bytes are held
abbrev pub heard_from : Kept → Call → List ℕ
heard_from S c =
    let h = hears way_of 1000 S c in
    h.refusal ∷ (h.down ++ (offset_of h.kept.flow ∷ h.kept.length ∷ []))

-- the refusal, and 1 where nothing is due any more
abbrev pub said_from : Kept → Call → List ℕ
said_from S c =
    let h = hears way_of 1000 S c in h.refusal ∷ cond h.all 1 0 ∷ []

-- a segment with no room for pairs
abbrev pub bare : ℕ → List ℕ → Call
bare q bs = record { by = record { list = L; via = by_list }; at = q; piece = bs; out = [] }

abbrev pub single_rows : List Row
single_rows =
    -- at offset 4,294,967,294 one byte more is the last; two are refused with 6, both of them; behind the last any new end is
    (heard_from (kept_as (flow_bytes 1 4294967294 0) 0 0) (segment 998 (97 ∷ [])), 0 ∷ 97 ∷ 4294967295 ∷ 0 ∷ [])
    ∷ (heard_from (kept_as (flow_bytes 1 4294967294 0) 0 0) (segment 998 (97 ∷ 98 ∷ [])), 6 ∷ 4294967294 ∷ 0 ∷ [])
    ∷ (heard_from (kept_as (flow_bytes 1 4294967295 0) 0 0) (segment 998 (97 ∷ 98 ∷ [])), 6 ∷ 4294967295 ∷ 0 ∷ [])
    -- a segment that would be dropped, on a record with more rows than there can be: 4
    ∷ (heard_from (kept_as (flow_bytes 1 5 5121) 0 0) (segment 1000 (97 ∷ [])), 4 ∷ 5 ∷ 0 ∷ [])
    -- the "b" held from 1001 on is due when another segment comes ahead: "b" is passed down, and the other is then held and not refused
    ∷ (heard_from (kept_as (flow_bytes 3 1 0) 1001 1) (segment 1005 (97 ∷ 98 ∷ [])), 0 ∷ 98 ∷ 2 ∷ 2 ∷ [])
    -- nothing is due any more behind a segment that is consumed, and behind one that is dropped
    ∷ (said_from (kept_as (flow_bytes 1 0 0) 0 0) (segment 1000 (97 ∷ [])), 0 ∷ 1 ∷ [])
    ∷ (said_from (kept_as (flow_bytes 1 0 0) 0 0) (segment 990 (97 ∷ [])), 0 ∷ 1 ∷ [])
    -- 18 for the sizes at the door, 18 of one ahead while another is held, and 6: something is left
    ∷ (said_from (kept_as (flow_bytes 1 0 0) 0 4097) (segment 1000 (97 ∷ [])), 18 ∷ 0 ∷ [])
    ∷ (said_from (kept_as (flow_bytes 1 0 0) 1005 1) (segment 1010 (97 ∷ [])), 18 ∷ 0 ∷ [])
    ∷ (said_from (kept_as (flow_bytes 1 4294967294 0) 0 0) (segment 998 (97 ∷ 98 ∷ [])), 6 ∷ 0 ∷ [])
    -- "ab" with no room for its pair: no refusal, and "b" is still due
    ∷ (said_from (kept_as (flow_bytes 1 0 0) 0 0) (bare 1000 (97 ∷ 98 ∷ [])), 0 ∷ 0 ∷ [])
    ∷ []

-- ---- the table

abbrev pub resend_examples : List Row
resend_examples = size_row ∷ (take_rows ++ (flow_rows ++ single_rows))
