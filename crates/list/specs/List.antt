-- The signature list: records of 8 bytes, and the rules 1 to 3.
use Rattle.std.specs.Prelude.{ℕ, ◌+◌, ◌*◌, ◌/◌, ◌%◌, Bool, ◌&&◌, ◌||◌, not, List, [], ◌∷◌, length, get_or, leb, ltb, eqb}
use Rattle.sets.specs.Set.{states, signatures}
use Rattle.rules.specs.Scan.{some, every}
use Rattle.rules.specs.Rules.{Rule, verdict}

-- ---- a record and its fields

-- bytes of a record, and the most records of a list
abbrev pub record_size : ℕ
record_size = 8

abbrev pub most_records : ℕ
most_records = 8192

-- two bytes at a place of a list, low byte first
abbrev pub word : List ℕ → ℕ → ℕ
word b at = get_or b at 0 + 256 * get_or b (at + 1) 0

abbrev pub records : List ℕ → ℕ
records L = length L / record_size

-- record i: its byte k, and its two-byte number at bytes k and k + 1
abbrev pub byte_of : List ℕ → ℕ → ℕ → ℕ
byte_of L i k = get_or L (record_size * i + k) 0

abbrev pub word_of : List ℕ → ℕ → ℕ → ℕ
word_of L i k = word L (record_size * i + k)

-- byte 0 is the kind: 1 an edge, 2 a start, 3 an accept
abbrev pub is_edge : List ℕ → ℕ → Bool
is_edge L i = eqb (byte_of L i 0) 1

abbrev pub is_start : List ℕ → ℕ → Bool
is_start L i = eqb (byte_of L i 0) 2

abbrev pub is_accept : List ℕ → ℕ → Bool
is_accept L i = eqb (byte_of L i 0) 3

-- an edge: 1 low, 2 high, 3 zero or 1 for either case, 4-5 from, 6-7 to
abbrev pub low : List ℕ → ℕ → ℕ
low L i = byte_of L i 1

abbrev pub high : List ℕ → ℕ → ℕ
high L i = byte_of L i 2

abbrev pub either_case : List ℕ → ℕ → Bool
either_case L i = eqb (byte_of L i 3) 1

-- the state that an edge leaves, or that an accept record names
abbrev pub from : List ℕ → ℕ → ℕ
from L i = word_of L i 4

-- the state that an edge leads to, or that a start record names; an accept record's signature
abbrev pub target : List ℕ → ℕ → ℕ
target L i = word_of L i 6

-- record i with other numbers at bytes 4 and 5, and at 6 and 7
unfoldable pub record_with : List ℕ → ℕ → ℕ → ℕ → List ℕ
record_with L i f t =
    byte_of L i 0 ∷ byte_of L i 1 ∷ byte_of L i 2 ∷ byte_of L i 3 ∷ f % 256 ∷ f / 256 % 256 ∷ t % 256 ∷ t / 256 % 256 ∷ []

-- ---- good records

-- bytes 1 to n of record i are zero
abbrev pub zeros : List ℕ → ℕ → ℕ → Bool
zeros L i n = every n (λ k. eqb (byte_of L i (k + 1)) 0)

abbrev pub good_edge : List ℕ → ℕ → Bool
good_edge L i = is_edge L i && leb (low L i) (high L i) && leb (byte_of L i 3) 1 && ltb (from L i) states && ltb (target L i) states

abbrev pub good_start : List ℕ → ℕ → Bool
good_start L i = is_start L i && zeros L i 5 && ltb (target L i) states

abbrev pub good_accept : List ℕ → ℕ → Bool
good_accept L i = is_accept L i && zeros L i 3 && ltb (from L i) states && ltb (target L i) signatures

unfoldable pub good_record : List ℕ → ℕ → Bool
good_record L i = good_edge L i || good_start L i || good_accept L i

-- ---- what each rule refuses

-- 1: the length is 0, over that of the most records, or no multiple of a record's
unfoldable pub bad_length : List ℕ → Bool
bad_length L = eqb (length L) 0 || ltb (record_size * most_records) (length L) || not (eqb (length L % record_size) 0)

-- 2: a record has another kind, a non-zero reserved byte, a byte 3 of an edge over 1, low > high, or a state or signature over the largest
unfoldable pub bad_record : List ℕ → Bool
bad_record L = not (every (records L) (good_record L))

-- 3: no start record
unfoldable pub no_start : List ℕ → Bool
no_start L = not (some (records L) (is_start L))

-- the list check: 1 to 3, in this order
abbrev pub list_rules : List ℕ → List Rule
list_rules L = (1, bad_length L) ∷ (2, bad_record L) ∷ (3, no_start L) ∷ []

abbrev pub list_refusal : List ℕ → ℕ
list_refusal L = verdict (list_rules L)
