-- Reasons by number: of the barn's list, and of one in which several runs lead to a pair; each row has what a definition gives beside what is expected.
use Rattle.std.specs.Prelude.{ℕ, List, [], ◌∷◌, ◌++◌, take}
use Rattle.numbers.specs.Number.{digits}
use Rattle.sets.specs.Set.{set_bytes}
use Rattle.rules.specs.Scan.{first}
use Rattle.rules.specs.Rules.{verdict}
use Rattle.list.specs.List.{records}
use Rattle.list_flow.specs.Flow.{flow_bytes}
use Rattle.list_flow.specs.Opening.{opened}
use Rattle.list_why.specs.Run.{Question, of_signature, of_state}
use Rattle.list_why.specs.Reason.{reason, fronts, why_rules, links, edge_rules}
use Rattle.laws_examples.specs.Examples.{Row, L, loud, L₀, starts}

abbrev pub abab : List ℕ
abab = 0x61 ∷ 0x62 ∷ 0x61 ∷ 0x62 ∷ []

-- from 0 on "a" to 1 and to 5, from either on "b" to 2, and from 5 to 3; both 2 and 3 accept 7
abbrev pub forked : List ℕ
forked =
    0x01 ∷ 0x61 ∷ 0x61 ∷ 0x00 ∷ 0x00 ∷ 0x00 ∷ 0x05 ∷ 0x00
    ∷ 0x01 ∷ 0x61 ∷ 0x61 ∷ 0x00 ∷ 0x00 ∷ 0x00 ∷ 0x01 ∷ 0x00
    ∷ 0x01 ∷ 0x62 ∷ 0x62 ∷ 0x00 ∷ 0x05 ∷ 0x00 ∷ 0x03 ∷ 0x00
    ∷ 0x01 ∷ 0x62 ∷ 0x62 ∷ 0x00 ∷ 0x05 ∷ 0x00 ∷ 0x02 ∷ 0x00
    ∷ 0x01 ∷ 0x62 ∷ 0x62 ∷ 0x00 ∷ 0x01 ∷ 0x00 ∷ 0x02 ∷ 0x00
    ∷ 0x03 ∷ 0x00 ∷ 0x00 ∷ 0x00 ∷ 0x03 ∷ 0x00 ∷ 0x07 ∷ 0x00
    ∷ 0x03 ∷ 0x00 ∷ 0x00 ∷ 0x00 ∷ 0x02 ∷ 0x00 ∷ 0x07 ∷ 0x00
    ∷ starts

-- the runs: why 7 at 2 and at 4 of "abab"; at 4 from the record saved after 2; why state 1 is in the frontier at 3; in either case; before any byte; and the lowest of three
abbrev pub run_rows : List Row
run_rows =
    (reason L 1 abab 2 (of_signature 7), 0 ∷ 1 ∷ 2 ∷ [])
    ∷ (reason L 1 abab 4 (of_signature 7), 0 ∷ 0 ∷ 0 ∷ 1 ∷ 2 ∷ [])
    ∷ (reason L 5 (0x61 ∷ 0x62 ∷ []) 2 (of_signature 7), 0 ∷ 1 ∷ 2 ∷ [])
    ∷ (reason L 1 abab 3 (of_state 1), 0 ∷ 0 ∷ 0 ∷ 1 ∷ [])
    ∷ (reason loud 1 (0x41 ∷ 0x62 ∷ []) 2 (of_signature 7), 0 ∷ 1 ∷ 2 ∷ [])
    ∷ (reason L₀ 1 [] 0 (of_signature 5), 0 ∷ [])
    ∷ (reason forked 1 abab 2 (of_signature 7), 0 ∷ 1 ∷ 2 ∷ [])
    ∷ (fronts L 1 abab 2, set_bytes 1 ++ (set_bytes 3 ++ set_bytes 5))
    ∷ []

-- what a question of a signature at an offset of "abab" is answered, on the record opened, with so many numbers and bytes
abbrev pub asks : ℕ → ℕ → ℕ → ℕ → ℕ
asks g k n m = verdict (why_rules L (opened L) 0 abab (of_signature g) k (digits 8 n 0) (digits 8 m 0))

-- and what a question is answered on the record of a flow that has consumed "ab", with "ab" behind it, for a stated start
abbrev pub later : ℕ → ℕ → Question → ℕ
later at k q = verdict (why_rules L (flow_bytes 5 2 3) at (0x61 ∷ 0x62 ∷ []) q k (digits 8 3 0) (digits 8 384 0))

-- 0 at 2 with just enough room; 25 a number or a byte below that, and behind the piece; 26 at 1, and for no signature; then on a record at offset 2: 25 before it, 26 at it for a state
-- that is not there, and 5 from another start
abbrev pub answer_rows : List Row
answer_rows =
    (asks 7 2 3 384 ∷ asks 7 2 2 384 ∷ asks 7 2 3 383 ∷ asks 7 5 6 768 ∷ asks 7 1 2 256 ∷ asks 256 2 3 384 ∷ [], 0 ∷ 25 ∷ 25 ∷ 25 ∷ 26 ∷ 26 ∷ [])
    ∷ (later 2 1 (of_signature 7) ∷ later 2 2 (of_state 1) ∷ later 2 2 (of_state 2) ∷ later 0 2 (of_state 2) ∷ [], 25 ∷ 26 ∷ 0 ∷ 5 ∷ [])
    ∷ []

-- the record of the edge that is taken, and the answer: the first of its kind; 26 on another byte, and on one past 255
abbrev pub edge_rows : List Row
edge_rows =
    (verdict (edge_rules L 0 0x61 1) ∷ first (records L) (links L 0 0x61 1) ∷ first (records L) (links L 0 0x62 0) ∷ first (records forked) (links forked 5 0x62 2) ∷ [], 0 ∷ 1 ∷ 0 ∷ 3 ∷ [])
    ∷ (verdict (edge_rules L 0 0x62 1) ∷ verdict (edge_rules L 0 0x161 1) ∷ verdict (edge_rules (take 8 L) 0 0x61 1) ∷ [], 26 ∷ 26 ∷ 3 ∷ [])
    ∷ []
