-- The feed by places: it stands at a place of an index, and each byte leads to the place that its word names. A call is handed the number of a split, which may be the one where the flow stands. What a call answers and leaves.
use Rattle.std.specs.Prelude.{ℕ, zero, suc, ◌+◌, ◌/◌, ◌<◌, Option, None, Some, length, Bool, ◌&&◌, not, cond, List, [], ◌∷◌, ◌++◌, take, leb, ltb, eqb}
use Rattle.numbers.specs.Number.{before}
use Rattle.sets.specs.Set.{set_bytes}
use Rattle.rules.specs.Rules.{Rule, verdict}
use Rattle.feed.specs.Engine.{Engine, Layout, Outcome, run, consumed, room, feed}
use Rattle.list_flow.specs.Flow.{frontier_of, offset_of, rows_of, flow_bytes, flow_rules}
use Rattle.table.specs.Table.{split_count, split_set}
use Rattle.index_blocks.specs.Block.{word_at}
use Rattle.index.specs.Entry.{entry_place, limit, place_of, told_of, cost_at, flag_at, split_at, known_in, bad_index}

-- ---- the split of a frontier, sought by halving

-- n halvings of the splits from lo to hi: the middle one, where its set is F; else those up to it are left behind where its set comes before F as a string of bytes, and those from it on where it does not
unfoldable pub halved : List ℕ → ℕ → ℕ → ℕ → ℕ → ℕ
halved S F zero lo hi = split_count S
halved S F (suc n) lo hi =
    let m = (lo + hi) / 2 in
    let less = before (set_bytes (split_set S m)) (set_bytes F) in
    let rest = halved S F n (cond less (m + 1) lo) (cond less hi m) in
    cond (ltb lo hi) (cond (eqb (split_set S m) F) m rest) (split_count S)

-- the split that all halvings give; the number of splits where they give none. On splits in order it is the first with set F
unfoldable pub sought_of : List ℕ → ℕ → ℕ
sought_of S F = halved S F (split_count S) 0 (split_count S)

-- the same, where they give one
abbrev pub found_of : List ℕ → ℕ → Option ℕ
found_of S F = cond (ltb (sought_of S F) (split_count S)) (Some (sought_of S F)) None

-- the place of the entry of a split, where there is one; else behind the last entry
abbrev pub place_from : List ℕ → Option ℕ → ℕ
place_from X None = length X
place_from X (Some i) = entry_place i

-- and whole it is there
abbrev pub IsEntry : List ℕ → Option ℕ → Type 0
IsEntry X None = Unit {0}
IsEntry X (Some i) = entry_place i < limit X

-- ---- the hint

-- the lists are good, and h is the number of a split whose set is F
unfoldable pub holds_at : List ℕ → List ℕ → ℕ → ℕ → Bool
holds_at S X h F = not (bad_index S X) && (ltb h (split_count S) && eqb (split_set S h) F)

-- where a call at frontier F begins: at split h where that holds, else at the split that is sought
unfoldable pub began : List ℕ → List ℕ → ℕ → ℕ → ℕ
began S X h F = cond (holds_at S X h F) h (sought_of S F)

-- the states of F count as named: by the flag of split h where that is it, else by the set that X begins with
unfoldable pub named_by : List ℕ → List ℕ → ℕ → ℕ → Bool
named_by S X h F = cond (holds_at S X h F) (not (eqb (flag_at X (entry_place h)) 0)) (known_in X F)

-- ---- the engine

-- where a feed stands: a frontier, and the place of its entry
pub record Stand : Type 0 where
  pub frontier : ℕ
  pub place : ℕ

-- at place p
abbrev pub stand_at : List ℕ → List ℕ → ℕ → Stand
stand_at S X p = record { frontier = split_set S (split_at S X p); place = p }

-- where a call at frontier F begins
abbrev pub stand_of : List ℕ → List ℕ → ℕ → ℕ → Stand
stand_of S X h F = record { frontier = F; place = entry_place (began S X h F) }

-- after i bytes of a call that begins at frontier F, at place p: a frontier is read of the splits once a byte has led there
abbrev pub stands_at : List ℕ → List ℕ → ℕ → ℕ → ℕ → Stand
stands_at S X F i p = record { frontier = cond (eqb i 0) F (split_set S (split_at S X p)); place = p }

-- a byte tells what its word says, and costs what the entry says that it leaves; it halts at a place that has no whole entry
abbrev pub indexed : List ℕ → List ℕ → Engine Stand
indexed S X =
    record {
      next = λ x c. stand_at S X (place_of (word_at X x.place c));
      alerts = λ x c. told_of X (word_at X x.place c);
      cost = λ x. cost_at X x.place;
      halts = λ x. leb (limit X) x.place;
    }

-- the flow record holds the frontier alone
abbrev pub stand_layout : List ℕ → List ℕ → ℕ → Layout Stand
stand_layout S X h =
    record { config = λ R. stand_of S X h (frontier_of R); offset = offset_of; rows = rows_of; save = λ x k n. flow_bytes x.frontier k n }

-- ---- the feed: 4 to 6 and 8, then the longest front of the piece, then 14 where the next byte halts

abbrev pub stand_rules : List ℕ → List ℕ → ℕ → List ℕ → ℕ → List ℕ → List Rule
stand_rules S X h R at piece = flow_rules (named_by S X h (frontier_of R)) R at piece ++ ((8, bad_index S X) ∷ [])

abbrev pub stand_feed : List ℕ → List ℕ → ℕ → List ℕ → ℕ → List ℕ → List ℕ → Outcome
stand_feed S X h R at piece out = feed (stand_rules S X h R at piece) (indexed S X) (stand_layout S X h) R piece out

-- the split that a call answers: where the flow then stands, the number of splits where it stands at none; the hint where a rule refuses
unfoldable pub stood_at : List ℕ → List ℕ → ℕ → List ℕ → ℕ → List ℕ → List ℕ → ℕ
stood_at S X h R at piece out =
    let x = stand_of S X h (frontier_of R) in
    let n = consumed (indexed S X) x (room out) piece in
    cond (eqb (verdict (stand_rules S X h R at piece)) 0) (split_at S X (run (indexed S X) x (take n piece)).place) h
