-- Segments by 32-bit sequence numbers: which bytes are due next, and the one place where a segment that comes too early is held.
use Rattle.std.specs.Prelude.{ℕ, ◌+◌, ◌-◌, ◌%◌, Bool, cond, not, ◌&&◌, ◌||◌, List, ◌++◌, length, take, drop, ◌==◌, nat_lt}

-- ---- numbers

-- numbers wrap past 4,294,967,295 to 0
abbrev pub circle : ℕ
circle = 4294967296

-- one number comes after another when it lies less than this ahead
abbrev pub half : ℕ
half = 2147483648

-- the most bytes of a segment, and the bytes of the held buffer
abbrev pub most_segment : ℕ
most_segment = 65535

abbrev pub held_size : ℕ
held_size = 4096

-- how far `to` lies past `from`, round the circle
unfoldable pub distance : ℕ → ℕ → ℕ
distance from to = (to + (circle - from)) % circle

-- number p comes after the next one
unfoldable pub ahead : ℕ → ℕ → Bool
ahead next p = nat_lt 0 (distance next p) && nat_lt (distance next p) half

-- ---- n bytes, of which the first has number p

-- the next byte is one of them
unfoldable pub has_next : ℕ → ℕ → ℕ → Bool
has_next next p n = nat_lt (distance p next) n

-- there are none, or all came before: a start that is neither next nor ahead counts as before
unfoldable pub all_before : ℕ → ℕ → ℕ → Bool
all_before next p n = n == 0 || not (ahead next p || has_next next p n)

-- ---- taking a segment: n bytes from number p on are held; the segment's first byte has number q

-- 18 first: a segment over 65,535 bytes, a held buffer not of 4,096, or a held length over that
unfoldable pub bad_sizes : ℕ → ℕ → ℕ → Bool
bad_sizes h n s = nat_lt most_segment s || not (h == held_size) || nat_lt held_size n

-- it begins ahead, and so is held or refused; an empty one is dropped
unfoldable pub early : ℕ → ℕ → ℕ → Bool
early next q s = nat_lt 0 s && ahead next q

-- it can't be held: another is, or it has more than 4,096 bytes
unfoldable pub full : ℕ → ℕ → ℕ → ℕ → Bool
full next p n s = not (all_before next p n) || nat_lt held_size s

-- what taking a segment answers, the held place and the held buffer at its exit
pub record Held : Type 0 where
  pub refusal : ℕ
  pub start : ℕ
  pub length : ℕ
  pub bytes : List ℕ

-- 18 changes nothing; one that begins ahead is held; else nothing is, and a place whose bytes all came before is free
unfoldable pub taking : ℕ → List ℕ → ℕ → ℕ → ℕ → List ℕ → Held
taking next held p n q seg =
    let s = length seg in
    cond (bad_sizes (length held) n s || (early next q s && full next p n s)) (record { refusal = 18; start = p; length = n; bytes = held })
    (cond (early next q s) (record { refusal = 0; start = q; length = s; bytes = seg ++ drop s held })
    (record { refusal = 0; start = p; length = cond (all_before next p n) 0 n; bytes = held }))

-- ---- the bytes due

-- m bytes from the next on, or fewer where a held part begins among them
unfoldable pub up_to : ℕ → ℕ → ℕ → ℕ → ℕ
up_to next p n m = cond (nat_lt 0 n && ahead next p && nat_lt (distance next p) m) (distance next p) m

-- a part of the held buffer (1) or of the segment (2), where it begins and how long it is; or nothing (0)
pub record Part : Type 0 where
  pub source : ℕ
  pub at : ℕ
  pub length : ℕ

-- whichever has the next byte, the held one first; the arriving part ends where the held one begins. h and s are the lengths of buffer and segment
unfoldable pub part_due : ℕ → ℕ → ℕ → ℕ → ℕ → ℕ → Part
part_due next h p n q s =
    let a = distance p next in
    let b = distance q next in
    cond (bad_sizes h n s) (record { source = 0; at = 0; length = 0 })
    (cond (has_next next p n) (record { source = 1; at = a; length = n - a })
    (cond (has_next next q s) (record { source = 2; at = b; length = up_to next p n (s - b) }) (record { source = 0; at = 0; length = 0 })))

-- its bytes
unfoldable pub due : ℕ → List ℕ → ℕ → ℕ → ℕ → List ℕ → List ℕ
due next held p n q seg =
    let d = part_due next (length held) p n q (length seg) in
    take d.length (drop d.at (cond (d.source == 1) held seg))
