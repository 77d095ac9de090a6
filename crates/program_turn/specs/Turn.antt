-- One turn of a run: what feeding a unit gives, the text of its lines, and the state after it.
use Rattle.std.specs.Prelude.{◌≡◌, ℕ, zero, suc, Option, Some, None, ◌+◌, ◌*◌, ◌%◌, ◌≤◌, Bool, true, false, cond, List, [], ◌∷◌, ◌++◌, length, take, replicate, ◌==◌, slice_index}
use Rattle.io.specs.Counts.{IsPrefixLen}
use Rattle.numbers.specs.Number.{placed}
use Rattle.list_flow.specs.Flow.{flow_size, offset_of}
use Rattle.list_flow.specs.Opening.{open_flow}
use Rattle.list_feed.specs.Plain.{plain_feed}
use Rattle.segment_feed.specs.Ways.{plain_segment}
use Rattle.segment_feed.specs.Post.{sent, kept}
use Rattle.program_text.specs.Text.{decimal, line, line_size, last_line}
use Rattle.program_turn.specs.State.{kept_state, whole_numbers, long_at, word_at, short_at, flow_of, held_of, flow_offset, kind_at, first_at, held_start_at, held_length_at, before_at, place_at, lines_at, flow_at, bytes_kind, segments_kind, numbered_kind, plus_number, numbered, renew_on}
use Rattle.program_turn.specs.declared.Given as given
use Rattle.program_turn.specs.declared.Said as said
use Rattle.program_turn.specs.declared.Kind.{Kind}
use Rattle.program_turn.specs.declared.Kind.TheVariants.{Bytes, Segments, Numbered}
use Rattle.program_turn.specs.declared.Next.{Next}
use Rattle.program_turn.specs.declared.Next.TheVariants.{Save, Feed}

-- the most pairs of a turn; the most bytes of a unit, and what is recorded before them; the most bytes of a text
abbrev pub most_pairs : ℕ
most_pairs = 1024

abbrev pub most_unit : ℕ
most_unit = 65536

abbrev pub head_size : ℕ
head_size = 6

abbrev pub text_size : ℕ
text_size = line_size * most_pairs + line_size

-- ---- what is fed

-- what feeding a unit gives: a refusal's number or 0, the pairs, the bytes that are done with, how far the place in the line moves, whether the segment has to be sent again, the words, and the state
pub record Given : Type 0 where
  pub refusal : ℕ
  pub pairs : ℕ
  pub done : ℕ
  pub moved : ℕ
  pub again : Bool
  pub words : List ℕ
  pub saved : List ℕ

-- bytes
abbrev pub plain_given : List ℕ → List ℕ → List ℕ → List ℕ → Given
plain_given L S rest out =
    let o = plain_feed L (flow_of S) (offset_of (flow_of S)) rest out in
    record { refusal = o.refusal; pairs = o.pairs; done = o.bytes; moved = o.bytes; again = false; words = o.words; saved = placed S flow_at o.saved }

-- a segment that has to be sent again is no refusal of the flow; it is over, and so is one of which nothing is due any more
unfoldable pub passed_of : ℕ → ℕ
passed_of n = cond (n == 18) 0 n

unfoldable pub over_of : Bool → ℕ → ℕ → ℕ
over_of all refusal n = cond all n (cond (refusal == 18) n 0)

-- a segment
abbrev pub segment_given : List ℕ → List ℕ → ℕ → List ℕ → List ℕ → Given
segment_given L S start bytes out =
    let h = plain_segment L (sent (short_at S first_at) start bytes) (kept (flow_of S) (held_of S) (short_at S held_start_at) (short_at S held_length_at)) out in
    record {
      refusal = passed_of h.refusal;
      pairs = h.pairs;
      done = over_of h.all h.refusal (length bytes);
      moved = over_of h.all h.refusal (length bytes + head_size);
      again = (h.refusal == 18);
      words = h.words;
      saved = kept_state S h.kept.flow h.kept.held h.kept.start h.kept.length;
    }

-- by the kind of the line
unfoldable pub given_of : List ℕ → List ℕ → ℕ → List ℕ → List ℕ → Given
given_of L S start rest out = cond (word_at S kind_at == bytes_kind) (plain_given L S rest out) (segment_given L S start rest out)

-- ---- texts

-- the lines of the first n pairs of some words, with a number added to each offset
unfoldable pub lines_from : ℕ → List ℕ → ℕ → List ℕ
lines_from before ws zero = []
lines_from before ws (suc n) = lines_from before ws n ++ line (slice_index ws (2 * n)) ((before + slice_index ws (2 * n + 1)) % whole_numbers)

-- `again `, and the line of a segment that has to be sent again, where it is told
abbrev pub again_word : List ℕ
again_word = 97 ∷ 103 ∷ 97 ∷ 105 ∷ 110 ∷ 32 ∷ []

unfoldable pub again_text : Bool → ℕ → List ℕ
again_text told start = cond told (again_word ++ decimal start ++ (10 ∷ [])) []

abbrev pub turn_text : ℕ → List ℕ → ℕ → Bool → ℕ → List ℕ
turn_text before ws n told start = lines_from before ws n ++ again_text told start

-- ---- a turn

-- whether its text is the last, whether the state comes next, the bytes that are done with, the text, and the state after it
pub record Turn : Type 0 where
  pub last : Bool
  pub saving : Bool
  pub done : ℕ
  pub text : List ℕ
  pub saved : List ℕ

-- the last line: `end` and the offset, or `refused` and the number
abbrev pub last_turn : ℕ → List ℕ → Turn
last_turn refusal S = record { last = true; saving = false; done = 0; text = last_line refusal (flow_offset S); saved = S }

-- `again` is told where no state is kept: what is sent again depends on when a run was cut, and the lines that are kept do not
unfoldable pub is_told : Bool → Bool → Bool
is_told keeping again = cond keeping false again

-- the lines of n pairs; the place in the line and the lines' length move on
abbrev pub lines_turn : Bool → ℕ → ℕ → ℕ → Bool → List ℕ → List ℕ → ℕ → Turn
lines_turn keeping n done moved again ws S start =
    let t = turn_text (long_at S before_at) ws n (is_told keeping again) start in
    record { last = false; saving = keeping; done = done; text = t; saved = plus_number (plus_number S place_at moved) lines_at (length t) }

-- the words before an opening or a feed, and the record before the opening
abbrev pub no_words : List ℕ
no_words = replicate (2 * most_pairs) 0

abbrev pub no_record : List ℕ
no_record = replicate flow_size 0

-- a unit is fed, to a record that is renewed where its offset comes near the largest
unfoldable pub feed_turn : Bool → List ℕ → List ℕ → ℕ → List ℕ → Turn
feed_turn keeping L S start rest =
    let g = given_of L (renew_on (numbered start S)) start rest no_words in
    cond (g.refusal == 0) (lines_turn keeping g.pairs g.done g.moved g.again g.words g.saved start) (last_turn g.refusal g.saved)

-- nothing more comes: no unit was read, or, of bytes, none came
unfoldable pub is_end : List ℕ → Bool → ℕ → Bool
is_end S more n = cond more (cond (n == 0) (word_at S kind_at == bytes_kind) false) true

-- the state, where it comes next; the last line, where nothing more comes; else a unit is fed
unfoldable pub turn_of : Bool → Bool → List ℕ → List ℕ → Bool → ℕ → List ℕ → Turn
turn_of keeping saving L S more start rest =
    cond saving (record { last = false; saving = false; done = 0; text = S; saved = S })
    (cond (is_end S more (length rest)) (last_turn 0 S) (feed_turn keeping L S start rest))

-- the opening, of a fresh state: the lines of the pairs of offset 0, or the last line where it is refused
unfoldable pub open_turn : Bool → List ℕ → List ℕ → Turn
open_turn keeping L S =
    let o = open_flow L no_record no_words in
    cond (o.refusal == 0) (lines_turn keeping o.pairs 0 0 false o.words (placed S flow_at o.saved) 0) (last_turn o.refusal S)

-- ---- what the code does

-- the number of a line's kind in a state
abbrev pub number_of : Kind → ℕ
number_of Bytes = bytes_kind
number_of Segments = segments_kind
number_of Numbered = numbered_kind

-- a unit that is read has a number; none where no unit is
abbrev pub comes : Option ℕ → Bool
comes None = false
comes (Some n) = true

abbrev pub number_in : Option ℕ → ℕ
number_in None = 0
number_in (Some n) = n

-- the number of a segment, where it has to be sent again
abbrev pub sent_again : Bool → ℕ → Option ℕ
sent_again again start = cond again (Some start) None

-- what of it is told
abbrev pub told_of : Bool → Option ℕ → Option ℕ
told_of keeping again = cond keeping None again

-- and the text of that
abbrev pub again_of : Option ℕ → List ℕ
again_of None = []
again_of (Some start) = again_word ++ decimal start ++ (10 ∷ [])

-- whether the state comes next
abbrev pub saves : Next → Bool
saves Save = true
saves Feed = false

-- whether a text is the last: nothing comes next
abbrev pub is_last : Option Next → Bool
is_last None = true
is_last (Some n) = false

-- whether the state does
abbrev pub saves_next : Option Next → Bool
saves_next None = false
saves_next (Some n) = saves n

-- the code answers r, and leaves words and a state; the pairs fit the words; the segment has the number `start`
pub record Gives (g : Given) (start : ℕ) (r : given.Given) (ws sv : List ℕ) : Type 0 where
  pub refusal : r.refusal ≡ g.refusal
  pub pairs : r.pairs ≡ g.pairs
  pub done : r.done ≡ g.done
  pub moved : r.moved ≡ g.moved
  pub again : r.again ≡ sent_again g.again start
  pub words : ws ≡ g.words
  pub saved : sv ≡ g.saved
  pub fits : 2 * r.pairs ≤ length ws

-- the code says s, with the text at the start of a buffer, and leaves the state `sv`: a turn
pub record Says (t : Turn) (s : said.Said) (buffer sv : List ℕ) : Type 0 where
  pub last : is_last s.next ≡ t.last
  pub saving : saves_next s.next ≡ t.saving
  pub done : s.done ≡ t.done
  pub counts : IsPrefixLen s.length buffer
  pub text : take s.length buffer ≡ t.text
  pub saved : sv ≡ t.saved
