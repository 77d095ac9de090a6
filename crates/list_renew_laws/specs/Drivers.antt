-- What the driver promises: the theorem on renewals said of the numbers that the code answered and the buffers that it left.
use Rattle.std.specs.Prelude.{ℕ, ◌*◌, List, ◌++◌, ◌≡◌, length, take}
use Rattle.list.specs.Automaton.{start}
use Rattle.feed.specs.Engine.{run}
use Rattle.feed.specs.declared.Fed.{Fed}
use Rattle.list_flow.specs.Flow.{frontier_of, offset_of}
use Rattle.list_feed.specs.Plain.{plain}
use Rattle.laws.specs.Demands.{Due}
use Rattle.list_renew_laws.specs.Renewed.{raised}

-- the bytes that the two feeds consumed of their pieces
abbrev pub fed_bytes : List ℕ → List ℕ → Fed → Fed → List ℕ
fed_bytes piece rest a b = take a.bytes piece ++ take b.bytes rest

-- the words of the opening, of the feed before the renewal and of the one after it, with the offset that was read added to these
abbrev pub told_words : ℕ → Fed → ℕ → Fed → List ℕ → List ℕ → List ℕ → List ℕ
told_words opened a before b out pairs later = take (2 * opened) out ++ (take (2 * a.pairs) pairs ++ raised before (take (2 * b.pairs) later))

-- the renewal is not refused, and reads the bytes consumed before it; the words are the pairs of the automaton of L on all bytes consumed; and the record Q goes on from there
pub record RenewedKept (L piece rest : List ℕ) (opened : ℕ) (a : Fed) (before renewed : ℕ) (b : Fed) (out pairs later Q : List ℕ) : Type 0 where
  pub passes : renewed ≡ 0
  pub reads : before ≡ length (take a.bytes piece)
  pub due : Due L (fed_bytes piece rest a b) (told_words opened a before b out pairs later)
  pub frontier : frontier_of Q ≡ run (plain L) (start L) (fed_bytes piece rest a b)
  pub offset : offset_of Q ≡ length (take b.bytes rest)
