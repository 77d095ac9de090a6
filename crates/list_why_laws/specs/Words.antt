-- The refusals of the questions in words: why a pair is due or a state in the frontier, and which edge is taken.
use Rattle.std.specs.Prelude.{ℕ, suc, ◌+◌, ◌-◌, ◌*◌, ◌<◌, List, [], ◌∷◌, ◌++◌, ◌⊎◌, length}
use Rattle.rules.specs.Words.{Row}
use Rattle.list_flow.specs.Flow.{frontier_of, offset_of}
use Rattle.list_why.specs.Run.{Edge, Question, Runs}
use Rattle.laws.specs.Words.{list_words, feed_words}

-- 25: the offset k lies before the flow's or behind the piece, or there are fewer numbers than n + 1 for the states of a run over the n bytes between, or fewer bytes than
-- 128 (n + 1) for the frontiers
abbrev pub place_words : List ℕ → List ℕ → ℕ → List ℕ → List ℕ → List Row
place_words R piece k out work = (
  25,
  ((k < offset_of R) ⊎ (offset_of R + length piece < k))
      ⊎ ((length out < suc (k - offset_of R)) ⊎ (length work < 128 * suc (k - offset_of R))),
)
    ∷ []

-- 26: no run of the automaton from the flow's frontier over these n bytes answers
abbrev pub why_words : List ℕ → List ℕ → ℕ → List ℕ → Question → ℕ → List ℕ → List ℕ → List Row
why_words L R at piece q k out work =
    (feed_words L R at piece ++ place_words R piece k out work)
    ++ ((26, Runs L (frontier_of R) piece (k - offset_of R) q → ⊥) ∷ [])

-- 26: c is no byte, or no edge record that it takes leads from s to t
abbrev pub edge_words : List ℕ → ℕ → ℕ → ℕ → List Row
edge_words L s c t = list_words L ++ ((26, (c < 256) × Edge L c s t → ⊥) ∷ [])
