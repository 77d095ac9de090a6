-- The state of a line: bytes of one size, of which each part has its place; and what is done to it.
use Rattle.std.specs.Prelude.{ℕ, ◌+◌, ◌*◌, ◌%◌, ◌^◌, Bool, false, cond, List, [], ◌∷◌, length, take, drop, ◌==◌, nat_le}
use Rattle.numbers.specs.Number.{num, digits, placed}
use Rattle.list_flow.specs.Flow.{flow_size, offset_of}
use Rattle.list_renew.specs.Renewal.{renewal}
use Rattle.segment.specs.Resend.{circle, held_size}

-- ---- the places

abbrev pub state_size : ℕ
state_size = 4304

abbrev pub length_at : ℕ
length_at = 0

abbrev pub sum_at : ℕ
sum_at = 8

abbrev pub kind_at : ℕ
kind_at = 16

abbrev pub first_at : ℕ
first_at = 20

abbrev pub held_start_at : ℕ
held_start_at = 24

abbrev pub held_length_at : ℕ
held_length_at = 28

abbrev pub before_at : ℕ
before_at = 32

abbrev pub place_at : ℕ
place_at = 40

abbrev pub lines_at : ℕ
lines_at = 48

abbrev pub flow_at : ℕ
flow_at = 64

abbrev pub held_at : ℕ
held_at = 208

-- ---- the parts

-- as many numbers as 64 bits write
abbrev pub whole_numbers : ℕ
whole_numbers = 2 ^ 64

-- a number of 8 bytes, and one of 4, low byte first
abbrev pub long_at : List ℕ → ℕ → ℕ
long_at S at = num 8 (take 8 (drop at S))

abbrev pub word_at : List ℕ → ℕ → ℕ
word_at S at = num 8 (take 4 (drop at S))

abbrev pub short_at : List ℕ → ℕ → ℕ
short_at S at = word_at S at % circle

-- the record, and the held buffer
abbrev pub flow_of : List ℕ → List ℕ
flow_of S = take flow_size (drop flow_at S)

abbrev pub held_of : List ℕ → List ℕ
held_of S = take held_size (drop held_at S)

-- the kinds of a line: bytes; segments, of which none came yet; segments, and the first came
abbrev pub bytes_kind : ℕ
bytes_kind = 0

abbrev pub segments_kind : ℕ
segments_kind = 1

abbrev pub numbered_kind : ℕ
numbered_kind = 2

-- the flow's offset: the bytes before the last renewal and those since
abbrev pub flow_offset : List ℕ → ℕ
flow_offset S = (long_at S before_at + offset_of (flow_of S)) % whole_numbers

-- ---- what is done to it

-- n is added to one of the counts
abbrev pub plus_number : List ℕ → ℕ → ℕ → List ℕ
plus_number S at n = placed S at (digits 8 8 ((long_at S at + n) % whole_numbers))

-- a record, the held buffer and the held place are kept
abbrev pub kept_state : List ℕ → List ℕ → List ℕ → ℕ → ℕ → List ℕ
kept_state S flow held start n =
    placed (placed (placed (placed S flow_at flow) held_at held) held_start_at (digits 8 4 start)) held_length_at (digits 8 4 n)

-- the first segment's number is that of the flow's first byte
unfoldable pub numbered : ℕ → List ℕ → List ℕ
numbered start S = cond (word_at S kind_at == segments_kind) (placed (placed S first_at (digits 8 4 start)) kind_at (digits 8 4 numbered_kind)) S

-- up to this offset a record is fed as it stands: a segment and the held bytes behind it do not come past the largest
abbrev pub near : ℕ
near = 4294897664

-- a renewal: the record is renewed, and the bytes since the last renewal are added to those before it and to the first number
abbrev pub renewed_state : List ℕ → List ℕ
renewed_state S =
    let at = offset_of (flow_of S) in
    placed (plus_number (placed S flow_at (renewal (flow_of S)).saved) before_at at) first_at (digits 8 4 ((short_at S first_at + at) % circle))

-- it is made where the offset comes near the largest, unless the record is refused
unfoldable pub renew_on : List ℕ → List ℕ
renew_on S = cond (nat_le (offset_of (flow_of S)) near) S (cond ((renewal (flow_of S)).refusal == 0) (renewed_state S) S)

-- ---- the list that it goes by

-- a checksum
unfoldable pub sum_from : ℕ → List ℕ → ℕ
sum_from s [] = s
sum_from s (b ∷ bs) = sum_from ((s * 257 + b) % 4294967291) bs

abbrev pub sum_of : List ℕ → ℕ
sum_of L = sum_from 0 L

unfoldable pub is_state_of : List ℕ → List ℕ → Bool
is_state_of L S = cond (long_at S length_at == length L) (long_at S sum_at == sum_of L) false

-- a state of L before the opening, made of zeros
abbrev pub fresh_state : List ℕ → ℕ → List ℕ → List ℕ
fresh_state L kind S = placed (placed (placed S length_at (digits 8 8 (length L))) sum_at (digits 8 8 (sum_of L))) kind_at (digits 8 4 kind)
