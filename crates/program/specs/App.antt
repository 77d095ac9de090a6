-- What the program says, turn by turn; and the texts of an undisturbed run.
use Rattle.std.specs.Prelude.{Option, Some, None, ℕ, zero, suc, ◌+◌, ◌*◌, ◌-◌, ◌%◌, ◌≡◌, Bool, true, false, cond, List, [], ◌∷◌, length, take, drop, replicate, eqb}
use Rattle.io.specs.Counts.{IsPrefixLen}
use Rattle.list_flow.specs.Flow.{flow_size}
use Rattle.list_flow.specs.Opening.{open_flow}
use Rattle.list_feed.specs.Plain.{plain_feed}
use Rattle.program_text.specs.Text.{line_size, lines, last_line}
use Rattle.program.specs.declared.Said.{Said}

-- the most pairs of a feed; the most bytes of a text; the bytes of a piece
abbrev pub most_pairs : ℕ
most_pairs = 1024

abbrev pub text_size : ℕ
text_size = line_size * most_pairs

abbrev pub piece_size : ℕ
piece_size = 4096

-- ---- a turn

-- whether its text is the last, the bytes consumed, the text, and the record after it
pub record Turn : Type 0 where
  pub last : Bool
  pub bytes : ℕ
  pub text : List ℕ
  pub saved : List ℕ

abbrev pub last_turn : ℕ → ℕ → List ℕ → Turn
last_turn refusal at R = record { last = true; bytes = 0; text = last_line refusal at; saved = R }

-- the words before an opening or a feed, and the record before the opening
abbrev pub no_words : List ℕ
no_words = replicate (2 * most_pairs) 0

abbrev pub no_record : List ℕ
no_record = replicate flow_size 0

-- the opening, on the record R: the lines of the pairs of offset 0, or the last line where it is refused
unfoldable pub open_turn : List ℕ → List ℕ → Turn
open_turn L R =
    let o = open_flow L R no_words in
    cond (eqb o.refusal 0) (record { last = false; bytes = 0; text = lines o.words o.pairs; saved = o.saved }) (last_turn o.refusal 0 o.saved)

-- on the record R at an offset, with `rest` left of a piece: the last line where nothing is left or the feed is refused, else the lines of its pairs
unfoldable pub turn_of : List ℕ → List ℕ → ℕ → List ℕ → Turn
turn_of L R at rest =
    let o = plain_feed L R at rest no_words in
    cond (eqb (length rest) 0) (last_turn 0 at R)
    (cond (eqb o.refusal 0) (record { last = false; bytes = o.bytes; text = lines o.words o.pairs; saved = o.saved }) (last_turn o.refusal at o.saved))

-- ---- an undisturbed run on the input B

-- what is left at an offset of the piece that it stands in: pieces are filled, the last alone is shorter
unfoldable pub rest_at : List ℕ → ℕ → List ℕ
rest_at B at = take (piece_size - at % piece_size) (drop at B)

-- the texts of at most n turns, from the record R at an offset on
unfoldable pub texts_from : ℕ → List ℕ → List ℕ → List ℕ → ℕ → List (List ℕ)
texts_from zero L B R at = []
texts_from (suc n) L B R at =
    let t = turn_of L R at (rest_at B at) in
    t.text ∷ cond t.last [] (texts_from n L B t.saved (at + t.bytes))

-- the texts of a run, the opening's first: a turn but the last consumes a byte
unfoldable pub texts : List ℕ → List ℕ → List (List ℕ)
texts L B =
    let t = open_turn L no_record in
    t.text ∷ cond t.last [] (texts_from (suc (length B)) L B t.saved 0)

-- ---- what the code does

-- whether nothing follows a turn; the bytes that it consumed
abbrev pub is_last : Option ℕ → Bool
is_last None = true
is_last (Some n) = false

abbrev pub bytes_of : Option ℕ → ℕ
bytes_of None = 0
bytes_of (Some n) = n

-- the code says s, with the text at the start of a buffer, and leaves the record `sv`: a turn
pub record Says (t : Turn) (s : Said) (buffer sv : List ℕ) : Type 0 where
  pub last : is_last s.next ≡ t.last
  pub bytes : bytes_of s.next ≡ t.bytes
  pub counts : IsPrefixLen s.length buffer
  pub text : take s.length buffer ≡ t.text
  pub saved : sv ≡ t.saved

-- the first n bytes of a buffer end in what is left at an offset of the piece
abbrev pub Held : List ℕ → ℕ → List ℕ → ℕ → Type 0
Held B at piece n = take (n - at % piece_size) (drop (at % piece_size) piece) ≡ rest_at B at
