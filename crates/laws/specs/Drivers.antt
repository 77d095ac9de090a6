-- What the drivers promise: the demands said of the numbers that the code answered and the buffers that it left.
use Rattle.std.specs.Prelude.{ℕ, suc, ◌+◌, ◌-◌, ◌*◌, ◌≤◌, cond, List, [], ◌∷◌, ◌++◌, ◌≡◌, length, get_or, take, drop, ltb}
use Rattle.list.specs.List.{list_refusal}
use Rattle.list.specs.Automaton.{start}
use Rattle.feed.specs.Engine.{Outcome, run}
use Rattle.feed.specs.Calls.{Bytes, record_after, all_told, all_bytes, Pieces, outcome}
use Rattle.feed.specs.Fed.{Answers}
use Rattle.feed.specs.Made.{Made, made, Promised, calls_of}
use Rattle.feed.specs.declared.Fed.{Fed}
use Rattle.feed.specs.declared.Opened.{Opened}
use Rattle.feed.specs.Demands.{open_told}
use Rattle.list_flow.specs.Flow.{frontier_of, offset_of}
use Rattle.list_flow.specs.Opening.{open_flow}
use Rattle.list_feed.specs.Plain.{plain}
use Rattle.table.specs.Table.{Table, table_refusal}
use Rattle.matrix.specs.Matrix.{Fills}
use Rattle.index_fill.specs.Filled.{FillsIndex}
use Rattle.table_build.specs.declared.Built.{Built}
use Rattle.table_build.specs.Words.{Tabled, fronts, unbuilt, ZerosBehind}
use Rattle.table_build.specs.Build.{Building}
use Rattle.rules.specs.Words.{InWords}
use Rattle.laws.specs.Words.{build_words}
use Rattle.laws.specs.declared.Kind.{Kind}
use Rattle.laws.specs.declared.Kind.TheVariants.{Plain, Split, Matrix, Prepared}
use Rattle.laws.specs.Calls.{Via, by_list, by_table, by_matrix, by_index, by_slots, Call, way_of}
use Rattle.laws.specs.Demands.{Due, Swapped}

-- ---- any number of feeds of any kind

-- by what a feed goes: the list alone, the table T at b, the matrix X, or the index Y of T from a split
abbrev pub via_by : ℕ → Table → List ℕ → List ℕ → Kind → Via
via_by b T X Y Plain = by_list
via_by b T X Y Split = by_table b T
via_by b T X Y Matrix = by_matrix X
via_by b T X Y (Prepared split) = by_index b (by_slots T) T.splits Y split

abbrev pub call_of : List ℕ → Via → ℕ → List ℕ → List ℕ → Call
call_of L via at piece out = record { by = record { list = L; via = via }; at = at; piece = piece; out = out }

abbrev pub piece_of : Call → List ℕ
piece_of c = c.piece

abbrev pub does : Call → List ℕ → Outcome
does c R = outcome way_of R c

-- the number, or the nearest to it of those from `low` to `high`
abbrev pub nearest : ℕ → ℕ → ℕ → ℕ
nearest low x high = cond (ltb x low) low (cond (ltb high x) high x)

-- what feeds are to do, each by its place: by what it goes, the start that it states, the byte of the stream that its piece ends at, and the word that its room ends at, of so many
pub record Plan : Type 0 where
  pub via : ℕ → Via
  pub at : ℕ → ℕ
  pub cut : ℕ → ℕ
  pub room : ℕ → ℕ
  pub stream : List ℕ
  pub words : ℕ

-- as lent lists say; past their ends stands 0, and the list alone
abbrev pub planned : ℕ → Table → List ℕ → List ℕ → List Kind → List ℕ → List ℕ → List ℕ → List ℕ → ℕ → Plan
planned b T X Y kinds starts cuts rooms stream words =
    record {
      via = λ i. via_by b T X Y (get_or kinds i Plain);
      at = λ i. get_or starts i 0;
      cut = λ i. get_or cuts i 0;
      room = λ i. get_or rooms i 0;
      stream = stream;
      words = words;
    }

-- one feed by the record R, of the bytes n to e of the stream, with the words w to v of `out`: what is consumed and told goes behind what was, and Q is left
pub record Turn (L : List ℕ) (via : Via) (at : ℕ) (R stream : List ℕ) (n e : ℕ) (out : List ℕ) (w v : ℕ) (f : Fed) (words Q : List ℕ) : Type 0 where
  pub left : List ℕ
  pub answers : Answers (outcome way_of R (call_of L via at (take (e - n) (drop n stream)) (take (v - w) (drop w out)))) f left Q
  pub in_bytes : Bytes (take (e - n) (drop n stream))
  pub room : length (take (v - w) (drop w out)) ≡ v - w
  pub eats : take (n + f.bytes) stream ≡ take n stream ++ take f.bytes (take (e - n) (drop n stream))
  pub tells : take (w + 2 * f.pairs) words ≡ take w out ++ take (2 * f.pairs) left
  pub short : n + f.bytes ≤ length stream
  pub fits : w + 2 * f.pairs ≤ length words

-- a call is the one planned for place k, where the bytes before n are consumed and the words before w told
pub record Meant (L : List ℕ) (P : Plan) (k n w : ℕ) (c : Call) : Type 0 where
  pub list : c.by.list ≡ L
  pub via : c.by.via ≡ P.via k
  pub at : c.at ≡ P.at k
  pub piece : c.piece ≡ take (nearest n (P.cut k) (length P.stream) - n) (drop n P.stream)
  pub room : length c.out ≡ nearest w (P.room k) P.words - w

-- from place k, byte n and word w on each is, and they come to byte e and word v
abbrev pub AsMeant : List ℕ → Plan → ℕ → ℕ → ℕ → List (Made Call) → ℕ → ℕ → Type 0
AsMeant L P k n w [] e v = (n ≡ e) × (w ≡ v)
AsMeant L P k n w (m ∷ ms) e v = Meant L P k n w m.call × AsMeant L P (suc k) (n + m.fed.bytes) (w + 2 * m.fed.pairs) ms e v

-- the four numbers that are noted of a feed: the refusal, the bytes, the pairs, and 1 where all was consumed
abbrev pub answer : Fed → List ℕ
answer f = f.refusal ∷ f.bytes ∷ f.pairs ∷ cond f.all 1 0 ∷ []

abbrev pub answers : List (Made Call) → List ℕ
answers [] = []
answers (m ∷ ms) = answer m.fed ++ answers ms

-- so many feeds as planned, made from the record B on, answered what is noted, each by its definition at the record that it met; they consumed n bytes of the stream, left Q, and told,
-- behind the words `front`, w₀ of them, what stands before word w of ws
pub record Came (L : List ℕ) (P : Plan) (many : ℕ) (B : List ℕ) (w₀ : ℕ) (front : List ℕ) (n w : ℕ) (ws notes Q : List ℕ) : Type 0 where
  pub feeds : List (Made Call)
  pub as_many : length feeds ≡ many
  pub meant : AsMeant L P 0 0 w₀ feeds n w
  pub in_bytes : Pieces (made piece_of) feeds
  pub promised : Promised piece_of does B feeds
  pub noted : answers feeds ≡ take (4 * many) notes
  pub eaten : all_bytes (made piece_of) B feeds ≡ take n P.stream
  pub told : front ++ all_told (made piece_of) B feeds ≡ take w ws
  pub left : record_after (made piece_of) B feeds ≡ Q

-- the checks of L and of T at b, filling the matrix and the index, and opening on the record R with all of the words `out` answered so, and left the matrix X and the index Y;
-- then so many feeds as the lent lists plan
pub record Driven (L : List ℕ) (b : ℕ) (T : Table) (R out X₀ X Y₀ Y : List ℕ) (kinds : List Kind) (starts cuts rooms stream : List ℕ) (many listed checked filled indexed : ℕ) (opened : Opened) (n w : ℕ) (ws notes Q : List ℕ) : Type 0 where
  pub lists : listed ≡ list_refusal L
  pub tables : checked ≡ table_refusal L b T
  pub matrices : Fills L X₀ filled X
  pub indexes : FillsIndex L b T Y₀ indexed Y
  pub opens : (opened.refusal ≡ (open_flow L R out).refusal) × (opened.pairs ≡ (open_flow L R out).pairs)
  pub came : Came L (planned b T X Y kinds starts cuts rooms stream (length out)) many (open_flow L R out).saved (2 * (open_flow L R out).pairs) (open_told (open_flow L R out)) n w ws notes Q
  -- where all are answered 0: the pairs of the flow from offset 0 on, where the record stands, and all that holds of calls that change between what is checked
  pub due : opened.refusal ≡ 0 → checked ≡ 0 → filled ≡ 0 → indexed ≡ 0 → Due L (take n stream) (take w ws)
  pub frontier : opened.refusal ≡ 0 → checked ≡ 0 → filled ≡ 0 → indexed ≡ 0 → frontier_of Q ≡ run (plain L) (start L) (take n stream)
  pub offset : opened.refusal ≡ 0 → checked ≡ 0 → filled ≡ 0 → indexed ≡ 0 → offset_of Q ≡ length (take n stream)
  pub swapped : opened.refusal ≡ 0 → checked ≡ 0 → filled ≡ 0 → indexed ≡ 0 → Swapped L (open_flow L R out) (calls_of came.feeds)

-- ---- the builder, and the check of what it made

-- what its caller holds: the answer, and the four lists at exit
abbrev pub built : Built → Table → Building
built r T = record { refusal = r.refusal; classes = r.classes; parts = r.parts; rows = r.rows; splits = r.splits; lists = T }

-- it was lent T; its refusal is given exactly when the words say; one but 16 changes nothing, 16 leaves zeros, and without one the check of the fronts at 1 answered 0
pub record BuildKept (L : List ℕ) (T : Table) (o : Building) (checked : ℕ) : Type 0 where
  pub refuses : InWords (build_words L T) o.refusal
  pub unchanged : (o.refusal ≡ 0 → ⊥) → (o.refusal ≡ 16 → ⊥) → o ≡ unbuilt o.refusal T
  pub emptied : o.refusal ≡ 16 → (o ≡ unbuilt 16 o.lists) × ZerosBehind T o
  pub made : o.refusal ≡ 0 → Tabled L (fronts o) × ZerosBehind T o
  pub accepted : o.refusal ≡ 0 → checked ≡ 0
