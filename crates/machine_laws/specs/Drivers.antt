-- What the driver promises: the demands said of the numbers that the code answered and the buffers that it left.
use Rattle.std.specs.Prelude.{ℕ, suc, ◌+◌, ◌*◌, ◌≤◌, cond, List, [], ◌∷◌, ◌++◌, ◌≡◌, length, get_or, take}
use Rattle.rules.specs.Words.{InWords}
use Rattle.feed.specs.Engine.{Outcome, run}
use Rattle.feed.specs.Calls.{record_after, all_told, all_bytes, Along, outcome}
use Rattle.feed.specs.Fed.{Answers}
use Rattle.feed.specs.Made.{Made, made, Promised, calls_of}
use Rattle.feed.specs.Demands.{open_told, OneFeed}
use Rattle.feed.specs.declared.Fed.{Fed}
use Rattle.feed.specs.declared.Opened.{Opened}
use Rattle.machine.specs.Machine.{machine, first}
use Rattle.machine.specs.Record.{config_of, offset_of}
use Rattle.machine.specs.Extended.{extended_open}
use Rattle.machine.specs.Words.{machine_words, open_words, feed_words}
use Rattle.machine_laws.specs.Calls.{Call, way_of}
use Rattle.machine_laws.specs.Demands.{Due, Demand2Opened}
use Rattle.machine_laws.specs.declared.Standing.{Standing}

-- ---- a feed that the code made

abbrev pub piece_of : Call → List ℕ
piece_of c = c.piece

abbrev pub does : Call → List ℕ → Outcome
does c R = outcome way_of R c

-- what it answered and left, as an outcome
abbrev pub outcome_of : {A : Type 0} → Made A → Outcome
outcome_of m = record { refusal = m.fed.refusal; bytes = m.fed.bytes; pairs = m.fed.pairs; all = m.fed.all; words = m.words; saved = m.saved }

-- the numbers that the driver notes of it: refusal, bytes, pairs, and 1 where all was consumed, else 0
abbrev pub numbers_of : Fed → List ℕ
numbers_of f = f.refusal ∷ (f.bytes ∷ (f.pairs ∷ (cond f.all 1 0 ∷ [])))

-- those of any number of them
abbrev pub all_numbers : List (Made Call) → List ℕ
all_numbers [] = []
all_numbers (m ∷ ms) = numbers_of m.fed ++ all_numbers ms

-- from feed k on each is by M and P, and states the start at its place
abbrev pub AsSaid : List ℕ → List ℕ → List ℕ → ℕ → List (Made Call) → Type 0
AsSaid M P starts k [] = Unit {0}
AsSaid M P starts k (m ∷ ms) = ((m.call.by.moves ≡ M) × (m.call.by.programs ≡ P) × (m.call.at ≡ get_or starts k 0)) × AsSaid M P starts (suc k) ms

-- the code goes from where it stands, `so`, to r by the feed c on the record R, noted as number i: what is consumed and told goes behind what was, its numbers
-- behind those noted, and Q is left
pub record Turned (c : Call) (R stream : List ℕ) (so : Standing) (ws : List ℕ) (i : ℕ) (ns : List ℕ) (r : Standing) (vs ms Q : List ℕ) : Type 0 where
  pub fed : Fed
  pub words : List ℕ
  pub answers : Answers (outcome way_of R c) fed words Q
  pub eaten : take r.bytes stream ≡ take so.bytes stream ++ take fed.bytes c.piece
  pub told : take r.words vs ≡ take so.words ws ++ take (2 * fed.pairs) words
  pub noted : take (4 * i + 4) ms ≡ take (4 * i) ns ++ numbers_of fed
  pub short : r.bytes ≤ length stream
  pub room : r.words ≤ length vs

-- ---- all of it

-- demand 1 of one feed by M and P that the code made on the record S: its refusal in words; and the longest front, all, and what stays, of the very numbers and buffers
abbrev pub OneMade : List ℕ → List ℕ → List ℕ → Made Call → Type 0
OneMade M P S m =
    InWords (feed_words M P S m.call.at m.call.piece) m.fed.refusal × OneFeed (way_of (record { moves = M; programs = P })) S m.call.at m.call.piece m.call.out (outcome_of m)

-- a check, an opening on the record R with all of the words `out`, and then n feeds that state these starts: the code noted these numbers of them; they consumed bs, told ws,
-- opening's words first, and left Q
pub record Driven (M P starts R out : List ℕ) (n checked : ℕ) (opened : Opened) (numbers bs ws Q : List ℕ) : Type 0 where
  -- demand 1: the check, the opening and each feed refuse as the words say
  pub checks : InWords (machine_words M P) checked
  pub opens : InWords (open_words M P R out) opened.refusal
  pub feeds : List (Made Call)
  pub many : length feeds ≡ n
  pub said : AsSaid M P starts 0 feeds
  pub noted : numbers ≡ all_numbers feeds
  pub promised : Promised piece_of does (extended_open M P R out).saved feeds
  pub each : Along (made piece_of) (OneMade M P) (extended_open M P R out).saved feeds
  -- what they consumed, told and left
  pub consumed : all_bytes (made piece_of) (extended_open M P R out).saved feeds ≡ bs
  pub told : open_told (extended_open M P R out) ++ all_told (made piece_of) (extended_open M P R out).saved feeds ≡ ws
  pub left : record_after (made piece_of) (extended_open M P R out).saved feeds ≡ Q
  -- demand 2: from an opening that is not refused all that is told is what the automaton tells of the bytes consumed, and the record stands there
  pub demand : opened.refusal ≡ 0 → Demand2Opened M P (extended_open M P R out) (calls_of feeds)
  pub due : opened.refusal ≡ 0 → Due M P bs ws
  pub config : opened.refusal ≡ 0 → config_of Q ≡ run (machine M P) (first P) bs
  pub offset : opened.refusal ≡ 0 → offset_of Q ≡ length bs
