-- What the driver promises: the law of an accepted certificate, said of the numbers that the code answered and the buffers that it left.
use Rattle.std.specs.Prelude.{ℕ, ◌*◌, List, ◌++◌, ◌↔◌, ◌≡◌, length, take}
use Rattle.rules.specs.Rules.{Refuses}
use Rattle.feed.specs.Calls as feed
use Rattle.feed.specs.Made.{Made}
use Rattle.feed.specs.Demands.{Answered}
use Rattle.feed.specs.declared.Fed.{Fed}
use Rattle.feed.specs.declared.Opened.{Opened}
use Rattle.list_flow.specs.Opening.{open_rules}
use Rattle.laws.specs.Calls as list
use Rattle.laws.specs.Demands.{Due}
use Rattle.machine.specs.Extended as machine
use Rattle.machine_laws.specs.Calls.{Call}
use Rattle.machine_laws.specs.Drivers.{outcome_of}
use Rattle.machine_certificate.specs.Certificate.{certificate_rules}

-- an opening that the code made: the record and the words at entry, the answer, and the words at exit
pub record Begun : Type 0 where
  pub flow : List ℕ
  pub out : List ℕ
  pub opened : Opened
  pub words : List ℕ

abbrev pub begun : List ℕ → List ℕ → Opened → List ℕ → Begun
begun flow out opened words = record { flow = flow; out = out; opened = opened; words = words }

-- a plain feed of the list L that the code made, and a feed of the machine of M and P
abbrev pub by_list : List ℕ → ℕ → List ℕ → List ℕ → Fed → List ℕ → List ℕ → Made list.Call
by_list L at piece out fed words saved = record { call = record { by = record { list = L; via = list.by_list }; at = at; piece = piece; out = out }; fed = fed; words = words; saved = saved }

abbrev pub by_machine : List ℕ → List ℕ → ℕ → List ℕ → List ℕ → Fed → List ℕ → List ℕ → Made Call
by_machine M P at piece out fed words saved = record { call = record { by = record { moves = M; programs = P }; at = at; piece = piece; out = out }; fed = fed; words = words; saved = saved }

-- what an opening and a feed told, and what the feed consumed
abbrev pub words_made : {A : Type 0} → Begun → Made A → List ℕ
words_made o m = take (2 * o.opened.pairs) o.words ++ take (2 * m.fed.pairs) m.words

abbrev pub bytes_made : {B : Type 0} → Made (feed.Call B) → List ℕ
bytes_made m = take m.fed.bytes m.call.piece

-- a check, an opening and a feed of the list, an opening and a feed of the machine
pub record BothDriven (L M P Z : List ℕ) (checked : ℕ) (o : Begun) (s : Made list.Call) (p : Begun) (t : Made Call) : Type 0 where
  -- demand 1: the check and the openings refuse as their rules say
  pub checks : Refuses (certificate_rules L M P Z) checked
  pub list-opens : Refuses (open_rules L o.flow o.out) o.opened.refusal
  pub machine-opens : Refuses (machine.open_rules M P p.flow p.out) p.opened.refusal
  -- where it answers 0, both openings with the same words lent, each on a record of its right length or neither, answered the same, 15 too, and left the same words
  pub opened : checked ≡ 0 → (length o.flow ≡ 144) ↔ (length p.flow ≡ 80) → o.out ≡ p.out
      → (o.opened.refusal ≡ p.opened.refusal) × (o.opened.pairs ≡ p.opened.pairs) × (o.words ≡ p.words)
  -- and where no opening is refused: what each told is what the list's automaton tells of the bytes consumed, from offset 0 on
  pub list-due : checked ≡ 0 → o.opened.refusal ≡ 0 → Due L (bytes_made s) (words_made o s)
  pub machine-due : checked ≡ 0 → p.opened.refusal ≡ 0 → Due L (bytes_made t) (words_made p t)
  -- so where both consumed as many bytes of one piece, both wrote the same words
  pub alike : checked ≡ 0 → o.opened.refusal ≡ 0 → p.opened.refusal ≡ 0 → s.call.piece ≡ t.call.piece → s.fed.bytes ≡ t.fed.bytes → words_made o s ≡ words_made p t
  -- and where they had the same start, piece and words lent, they answered the same, and left the same words
  pub likewise : checked ≡ 0 → o.opened.refusal ≡ 0 → p.opened.refusal ≡ 0 → s.call.at ≡ t.call.at → s.call.piece ≡ t.call.piece → s.call.out ≡ t.call.out
      → Answered (outcome_of s) (outcome_of t)
