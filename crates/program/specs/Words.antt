-- The program in words: what a piece of the input is, and what an undisturbed run says and when it is refused, for every list and every input.
use Rattle.std.specs.Prelude.{ℕ, ◌+◌, ◌/◌, ◌%◌, ◌≤◌, ◌<◌, ◌≡◌, cond, List, [], ◌∷◌, ◌++◌, ◌⊎◌, length, take, drop, eqb}
use Rattle.list.specs.List.{list_refusal}
use Rattle.list_feed.specs.Plain.{pairs_of}
use Rattle.program_text.specs.Text.{lines, last_line}
use Rattle.program_text.specs.Hand.{joined}
use Rattle.program.specs.App.{rest_at, texts}

-- what is left of a piece at an offset is a front of what is left of the input; a piece ends at the next multiple of 4,096, and only the last is shorter
pub record Piece (B : List ℕ) (at : ℕ) : Type 0 where
  pub front : rest_at B at ≡ take (length (rest_at B at)) (drop at B)
  pub filled : (at % 4096 + length (rest_at B at) ≡ 4096) ⊎ ((at % 4096 + length (rest_at B at) < 4096) × (at + length (rest_at B at) ≡ length B))

abbrev pub PiecesFilled : Type 0
PiecesFilled = (B : List ℕ) (at : ℕ) → at ≤ length B → Piece B at

-- the lines of all pairs of some words
abbrev pub lines_of : List ℕ → List ℕ
lines_of ws = lines ws (length ws / 2)

-- the lines of all pairs due in some bytes, from offset 0 on; none where the list is refused
abbrev pub lines_due : List ℕ → List ℕ → List ℕ
lines_due L bs = cond (eqb (list_refusal L) 0) (lines_of (pairs_of L bs)) []

-- the largest offset; and the start of the one piece of 4,096 bytes that would end behind it
abbrev pub longest_input : ℕ
longest_input = 4294967295

abbrev pub refused_piece : ℕ
refused_piece = 4294963200

-- texts, and behind them the last line: the texts are the lines of the pairs due in the bytes consumed
pub record Undisturbed (L B : List ℕ) : Type 0 where
  pub before : List (List ℕ)
  pub refusal : ℕ
  pub bytes : ℕ
  pub texts-are : texts L B ≡ before ++ (last_line refusal bytes ∷ [])
  pub lines_are : joined before ≡ lines_due L (take bytes B)
  -- a list that is refused: with the number of its check, and nothing is consumed
  pub bad-list : (list_refusal L ≡ 0 → ⊥) → (refusal ≡ list_refusal L) × (bytes ≡ 0)
  -- a good list and an input that an offset can count: never refused, and all is consumed
  pub ends : list_refusal L ≡ 0 → length B ≤ longest_input → (refusal ≡ 0) × (bytes ≡ length B)
  -- a good list and a longer input: 6, and every piece before the one that would end behind the largest offset is consumed
  pub too-long : list_refusal L ≡ 0 → longest_input < length B → (refusal ≡ 6) × (bytes ≡ refused_piece)

abbrev pub EveryRun : Type 0
EveryRun = (L B : List ℕ) → Undisturbed L B
