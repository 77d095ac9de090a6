-- What a live run hands over is turns: lines, and the state behind them, from which a run goes on.
use Rattle.std.specs.Prelude.{ℕ, suc, ◌<◌, true, false, cond, List, [], ◌∷◌, ◌++◌, ◌≡◌, length, take}
use Rattle.numbers.specs.Number.{digits}
use Rattle.segment.specs.Resend.{circle}
use Rattle.program_turn.specs.Turn.{Turn, turn_of}
use Rattle.program_live.specs.Live.{Unit, unit_at, next_of, less_by, texts_from}

-- the turn of a run on the recording B, from the state S and the unit u on
abbrev pub turn_from : List ℕ → List ℕ → List ℕ → Unit → Turn
turn_from L B S u =
    let v = next_of B false u in turn_of true false L S v.more v.start v.bytes

-- its lines are handed over, and unless they are the last the state behind them; then come the texts of a run from that state
abbrev pub StateFollows : Type 0
StateFollows =
    (n : ℕ) (L B S : List ℕ) (u : Unit)
    → texts_from (suc (suc n)) true L B false S u
    ≡ (turn_from L B S u).text
    ∷ cond (turn_from L B S u).last [] ((turn_from L B S u).saved ∷ texts_from n true L B false (turn_from L B S u).saved (less_by (turn_from L B S u).done (next_of B false u)))

-- a unit in a recording: the number of its first byte, its length, and its bytes
abbrev pub written : ℕ → List ℕ → List ℕ
written start bytes = digits 8 4 start ++ (digits 8 2 (length bytes) ++ bytes)

-- what is written down is read, and each byte of it comes once
pub record UnitsFollow : Type 0 where
  -- the unit that stands at a place is the one that was written there, and the next one stands behind it
  pub read : (xs : List ℕ) (start : ℕ) (bytes ys : List ℕ) → start < circle → length bytes < 65536
      → unit_at (xs ++ (written start bytes ++ ys)) (length xs) ≡ record { more = true; start = start; bytes = bytes; at = length (xs ++ written start bytes) }
  -- what is left of a unit stands behind what is done with
  pub left : (n : ℕ) (u : Unit) → take n u.bytes ++ (less_by n u).bytes ≡ u.bytes
  -- a turn goes on with what is left; where nothing is, with the next unit
  pub on : (B : List ℕ) (u : Unit) → (length u.bytes ≡ 0 → ⊥) → next_of B false u ≡ u
  pub next : (B : List ℕ) (u : Unit) → length u.bytes ≡ 0 → next_of B false u ≡ unit_at B u.at
