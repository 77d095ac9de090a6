-- What an engine owes: automata of one kind and their flows, the means by which such a flow is fed, and the one law of each.
use Rattle.std.specs.Prelude.{ℕ, ◌+◌, ◌≤◌, ◌<◌, List, ◌≡◌, length, take}
use Rattle.rules.specs.Rules.{Rule, verdict}
use Rattle.feed.specs.Engine.{Engine, Layout, most_offset, run, feed}
use Rattle.feed.specs.Calls.{Bytes, Way, fed_by, costing}

-- automata, each given by an s of type S, that stand at a configuration of type D: how each moves and where it starts, how a record holds that, and the rules of
-- a feed by the automaton itself; the most rows that a byte may cost; the records that are whole, and the configurations that hold nothing foreign to s
pub record Automata (S D : Type 0) : Type 1 where
  pub engine : S → Engine D
  pub start : S → D
  pub layout : Layout D
  pub rules : S → List ℕ → ℕ → List ℕ → List Rule
  pub most : ℕ
  pub Whole : List ℕ → Type 0
  pub Named : S → D → Type 0

-- the means by which a flow is fed: its rules and its engine; where the engine stands at a configuration of the automaton, and the other way round;
-- what a byte counts there, and the most that this is by what is checked; that it is checked for s; that what it takes for named is what s names; and that what is lent is bytes
pub record Means (S D : Type 0) : Type 1 where
  pub Config : Type 0
  pub rules : S → List ℕ → ℕ → List ℕ → List Rule
  pub engine : S → Engine Config
  pub stands : D → Config
  pub frontier : Config → D
  pub spends : D → ℕ
  pub bound : ℕ
  pub Checked : S → Type 0
  pub Names : S → Type 0
  pub Lent : Type 0

-- means whose engine stands at the automaton's own configurations, and which take for named what s names and are lent nothing: its rules, its engine, what a byte counts, the most that
-- this is, and what is checked
abbrev pub own_means : {S D : Type 0} → (S → List ℕ → ℕ → List ℕ → List Rule) → (S → Engine D) → (D → ℕ) → ℕ → (S → Type 0) → Means S D
own_means {S} {D} rules engine spends bound Checked =
    record {
      Config = D;
      rules = rules;
      engine = engine;
      stands = λ x. x;
      frontier = λ x. x;
      spends = spends;
      bound = bound;
      Checked = Checked;
      Names = λ s. Unit {0};
      Lent = Unit {0};
    }

-- a layout of configurations of type D, for an engine that stands elsewhere: where it stands at each of them, and the other way round
abbrev pub seen_by : {C D : Type 0} → (D → C) → (C → D) → Layout D → Layout C
seen_by stands frontier K = record { config = λ R. stands (K.config R); offset = K.offset; rows = K.rows; save = λ x k n. K.save (frontier x) k n }

-- the way to feed by them: the record holds a configuration of the automaton
abbrev pub way_by : {S D : Type 0} → Automata S D → Means S D → S → Way
way_by A M s = record { Config = M.Config; rules = M.rules s; engine = M.engine s; layout = seen_by M.stands M.frontier A.layout }

-- the automaton of s comes to x by some bytes
abbrev pub Reached : {S D : Type 0} → Automata S D → S → D → Type 0
Reached A s x = (bs : List ℕ) × Bytes bs × (x ≡ run (A.engine s) (A.start s) bs)

-- rule 4 takes the record R for s
abbrev pub Fit : {S D : Type 0} → Automata S D → S → List ℕ → Type 0
Fit A s R = A.Whole R × A.Named s (A.layout.config R)

pub record Lawful {S D : Type 0} (A : Automata S D) (M : Means S D) : Type 0 where
  -- a call that its rules take is on a whole record, and its piece begins at the flow's offset and ends at one
  pub passes : (s : S) (R : List ℕ) (at : ℕ) (piece : List ℕ) → verdict (M.rules s R at piece) ≡ 0
      → A.Whole R × (at ≡ A.layout.offset R) × (A.layout.offset R + length piece ≤ most_offset)
  -- a rule's number is below 14, and is not 4 where the record is fit and named is what s names
  pub below-14 : (s : S) (R : List ℕ) (at : ℕ) (piece : List ℕ) → verdict (M.rules s R at piece) < 14
  pub not-4 : (s : S) (R : List ℕ) (at : ℕ) (piece : List ℕ) → M.Names s → Fit A s R → verdict (M.rules s R at piece) ≡ 4 → ⊥
  -- and they take a front of each piece that they take
  pub shorter : (s : S) (R : List ℕ) (at : ℕ) (piece : List ℕ) (n : ℕ) → verdict (M.rules s R at piece) ≡ 0 → verdict (M.rules s R at (take n piece)) ≡ 0
  -- a byte costs, and counts, at most the most rows
  pub cheap : M.Lent → (s : S) (x : M.Config) → (M.engine s).cost x ≤ A.most
  pub counts : (x : D) → M.spends x ≤ A.most
  -- by what is checked for s: the rules give what those of the automaton's own feed give
  pub same : (s : S) → M.Checked s → (R : List ℕ) (at : ℕ) (piece : List ℕ) → verdict (M.rules s R at piece) ≡ verdict (A.rules s R at piece)
  -- where the automaton can be, a call is a feed by the automaton, at what it counts itself, and that is at most the bound
  pub goes : (s : S) → M.Checked s → (R : List ℕ) (at : ℕ) (piece out : List ℕ) → Bytes piece → Reached A s (A.layout.config R)
      → fed_by (way_by A M s) R at piece out ≡ feed (M.rules s R at piece) (costing (A.engine s) M.spends) A.layout R piece out
  pub few : (s : S) → M.Checked s → (x : D) → Reached A s x → M.spends x ≤ M.bound
  -- and a fit record stays fit, wherever it stands
  pub fits : (s : S) → M.Checked s → (R : List ℕ) (at : ℕ) (piece out : List ℕ) → Bytes piece → Fit A s R → Fit A s (fed_by (way_by A M s) R at piece out).saved
