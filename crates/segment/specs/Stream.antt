-- The bytes that are passed down: looks at segments, one after the other, and what was first consumed or held at each place of the flow.
use Rattle.std.specs.Prelude.{◌≡◌, ℕ, suc, ◌+◌, ◌-◌, ◌%◌, ◌<◌, Bool, cond, not, ◌&&◌, ◌⊎◌, List, [], ◌∷◌, ◌++◌, length, take, ◌==◌, nat_le, nat_lt, slice_index}
use Rattle.segment.specs.Resend.{circle, distance, bad_sizes, early, full, taking, due}

-- the bytes passed down, the held place and the held buffer; and at each place of the flow 0, or 1 and the byte first consumed or held there
pub record Line : Type 0 where
  pub down : List ℕ
  pub start : ℕ
  pub length : ℕ
  pub held : List ℕ
  pub first : ℕ → ℕ

-- one look at a segment: its first number, its bytes, and how many of the bytes then due the feed consumes; torn, where the caller is killed when the held
-- buffer is saved and the held place is not
pub record Look : Type 0 where
  pub start : ℕ
  pub seg : List ℕ
  pub eaten : ℕ
  pub torn : Bool

-- the bytes bs at places p and on
unfoldable pub mark : ℕ → List ℕ → ℕ → ℕ
mark p bs i = cond (nat_le p i && nat_lt i (p + length bs)) (suc (slice_index bs (i - p))) 0

-- bytes first consumed or held count: bs at places p and on, where nothing was before
unfoldable pub claim : (ℕ → ℕ) → ℕ → List ℕ → ℕ → ℕ
claim f p bs i = cond (f i == 0) (mark p bs i) (f i)

-- the number of the next byte, where the flow's first has number s: the place moves on only by the bytes consumed
abbrev pub number_of : ℕ → Line → ℕ
number_of s W = (s + length W.down) % circle

-- the segment is held
abbrev pub kept : ℕ → Line → ℕ → List ℕ → Bool
kept next W q seg = not (bad_sizes (length W.held) W.length (length seg)) && early next q (length seg) && not (full next W.start W.length (length seg))

-- a segment is taken
unfoldable pub taken : ℕ → Line → ℕ → List ℕ → Line
taken s W q seg =
    let next = number_of s W in
    let h = taking next W.held W.start W.length q seg in
    record {
      down = W.down;
      start = h.start;
      length = h.length;
      held = h.bytes;
      first = cond (kept next W q seg) (claim W.first (length W.down + distance next q) seg) W.first;
    }

-- the first m of the bytes due are consumed
unfoldable pub passed : ℕ → Line → ℕ → List ℕ → ℕ → Line
passed s W q seg m =
    let bs = take m (due (number_of s W) W.held W.start W.length q seg) in
    record { down = W.down ++ bs; start = W.start; length = W.length; held = W.held; first = claim W.first (length W.down) bs }

-- a torn look: only the buffer is that of the segment taken
unfoldable pub torn_by : ℕ → Line → ℕ → List ℕ → Line
torn_by s W q seg =
    record { down = W.down; start = W.start; length = W.length; held = (taking (number_of s W) W.held W.start W.length q seg).bytes; first = W.first }

-- the line after a look, and after any number of them
unfoldable pub looking : ℕ → Line → Look → Line
looking s W l = cond l.torn (torn_by s W l.start l.seg) (passed s (taken s W l.start l.seg) l.start l.seg l.eaten)

unfoldable pub looks : ℕ → Line → List Look → Line
looks s W [] = W
looks s W (l ∷ ls) = looks s (looking s W l) ls

-- nothing is passed down yet, and nothing is held
abbrev pub begun : List ℕ → Line
begun held = record { down = []; start = 0; length = 0; held = held; first = λ i. 0 }

-- each segment's first number is one of the circle
abbrev pub Numbered : List Look → Type 0
Numbered [] = Unit {0}
Numbered (l ∷ ls) = (l.start < circle) × Numbered ls

-- some segment looked at carries the byte v under number p: its byte j has the number of its first and j more, round the circle
abbrev pub Carried : ℕ → ℕ → List Look → Type 0
Carried p v [] = ⊥
Carried p v (l ∷ ls) = ((j : ℕ) × (j < length l.seg) × ((l.start + j) % circle ≡ p) × (slice_index l.seg j ≡ v)) ⊎ Carried p v ls
