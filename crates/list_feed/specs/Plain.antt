-- The plain feed: what a call answers and leaves.
use Rattle.std.specs.Prelude.{ℕ, false, List, ◌++◌}
use Rattle.sets.specs.Set.{states, size}
use Rattle.list.specs.Automaton.{start, step, accepted}
use Rattle.feed.specs.Engine.{Engine, told, Outcome, feed}
use Rattle.list_flow.specs.Flow.{flow_layout, feed_rules}
use Rattle.list_flow.specs.Opening.{open_pairs}

-- the automaton itself: a byte costs as many rows as the frontier before it has states, and nothing halts
abbrev pub plain : List ℕ → Engine ℕ
plain L = record { next = step L; alerts = λ F c. accepted L (step L F c); cost = size states; halts = λ F. false }

-- the words of all pairs of a flow of L, from its opening on, that has consumed bs: the automaton's definition
abbrev pub pairs_of : List ℕ → List ℕ → List ℕ
pairs_of L bs = open_pairs L ++ told (plain L) (start L) 0 bs

-- ---- the plain feed: 1 to 6, then the longest front of the piece

abbrev pub plain_feed : List ℕ → List ℕ → ℕ → List ℕ → List ℕ → Outcome
plain_feed L R at piece out = feed (feed_rules L R at piece) (plain L) flow_layout R piece out
