-- Every pair told has a reason, and everything with a reason is told: over calls by any engine, from any saved record and from opening, however the bytes are cut.
use Rattle.std.specs.Prelude.{ℕ, suc, ◌+◌, ◌-◌, ◌*◌, ◌≤◌, ◌<◌, ◌^◌, ◌≡◌, true, List, ◌++◌, ◌↔◌, length, get_or, drop}
use Rattle.sets.specs.Set.{states, holds}
use Rattle.rules.specs.Rules.{verdict}
use Rattle.list.specs.List.{list_refusal}
use Rattle.list.specs.Automaton.{start}
use Rattle.feed.specs.Pairs.{Pair}
use Rattle.feed.specs.Calls.{Bytes, asked, all_bytes, all_told, record_after, Pieces, Along}
use Rattle.feed.specs.Opening.{Opening}
use Rattle.feed.specs.Demands.{open_told}
use Rattle.list_flow.specs.Flow.{frontier_of, offset_of}
use Rattle.list_flow.specs.Opening.{open_flow}
use Rattle.laws.specs.Calls.{Call, way_of}
use Rattle.laws.specs.Demands.{Plainly, Swaps}
use Rattle.list_why.specs.Run.{of_signature, of_state, Question, Runs}
use Rattle.list_why.specs.Reason.{front, due, reason, why_rules, Reasoned}

-- ==== the run, on frontiers, bytes and offsets alone

-- there is a run exactly when what is asked is so at the frontier after n bytes; the one that is told is one, and none is lower
abbrev pub ReasonsExact : Type 0
ReasonsExact = (L : List ℕ) → list_refusal L ≡ 0 → (F : ℕ) → F < 2 ^ states → (bs : List ℕ) (n : ℕ) → n ≤ length bs → (q : Question) → Reasoned L F bs n q

-- ==== pairs and runs

-- the calls cs on the record R tell (g, k) exactly when k is the offset after one of the bytes that they consume and a run from the frontier of R over the bytes up to it gives g
abbrev pub ToldRuns : List ℕ → List ℕ → List Call → Type 0
ToldRuns L R cs =
    (g k : ℕ) → Pair (all_told (asked way_of) R cs) g k
    ↔ ((n : ℕ) × (n < length (all_bytes (asked way_of) R cs)) × (k ≡ offset_of R + suc n) × Runs L (frontier_of R) (all_bytes (asked way_of) R cs) (suc n) (of_signature g))

-- by plain feeds, from any record
abbrev pub PlainReasons : Type 0
PlainReasons = (L R : List ℕ) (cs : List Call) → Bytes R → Pieces (asked way_of) cs → Along (asked way_of) (Plainly L) R cs → ToldRuns L R cs

-- the opening o and the calls cs after it tell (g, k) exactly when the flow has come to offset k and a run from a start state over its first k bytes gives g
abbrev pub FlowRuns : List ℕ → Opening → List Call → Type 0
FlowRuns L o cs =
    (g k : ℕ) → Pair (open_told o ++ all_told (asked way_of) o.saved cs) g k
    ↔ ((k ≤ length (all_bytes (asked way_of) o.saved cs)) × Runs L (start L) (all_bytes (asked way_of) o.saved cs) k (of_signature g))

-- a question of (g, k) on the record R, with the bytes bs behind it as the piece
abbrev pub asks_pair : List ℕ → List ℕ → List ℕ → ℕ → ℕ → List ℕ → List ℕ → ℕ
asks_pair L R bs g k out work = verdict (why_rules L R (offset_of R) bs (of_signature g) k out work)

-- the lent buffers are long enough for a question n bytes behind the record
abbrev pub Roomy : ℕ → List ℕ → List ℕ → Type 0
Roomy n out work = (suc n ≤ length out) × (128 * suc n ≤ length work)

-- a question on the record R of a pair that the calls cs told is answered 0, and of one that they did not tell, at an offset behind R that they came to, 26
pub record Explained (L R : List ℕ) (cs : List Call) : Type 0 where
  pub told : (g k : ℕ) (out work : List ℕ) → Roomy (k - offset_of R) out work → Pair (all_told (asked way_of) R cs) g k → asks_pair L R (all_bytes (asked way_of) R cs) g k out work ≡ 0
  pub untold : (g k : ℕ) (out work : List ℕ) → Roomy (k - offset_of R) out work → offset_of R < k → k ≤ offset_of R + length (all_bytes (asked way_of) R cs)
      → (Pair (all_told (asked way_of) R cs) g k → ⊥) → asks_pair L R (all_bytes (asked way_of) R cs) g k out work ≡ 26
  -- and so is why a state is in the frontier that they leave: exactly the states of that frontier have a run
  pub stands : (s : ℕ) → Runs L (frontier_of R) (all_bytes (asked way_of) R cs) (length (all_bytes (asked way_of) R cs)) (of_state s) ↔ (holds (frontier_of (record_after (asked way_of) R cs)) s ≡ true)

-- from an opening on, by the plain feed, accepted tables, the list's matrix and indexes that are right for it, changed at any call, refused ones between: of the whole flow, and of the calls ds from
-- the record that the calls cs left
pub record Reasons (L : List ℕ) (o : Opening) (cs ds : List Call) : Type 0 where
  pub flow : FlowRuns L o cs
  pub opening : (g k : ℕ) (out work : List ℕ) → Roomy k out work → Pair (open_told o ++ all_told (asked way_of) o.saved cs) g k → asks_pair L o.saved (all_bytes (asked way_of) o.saved cs) g k out work ≡ 0
  pub saved : ToldRuns L (record_after (asked way_of) o.saved cs) ds
  pub explained : Explained L (record_after (asked way_of) o.saved cs) ds

abbrev pub ListReasons : Type 0
ListReasons =
    (L R out : List ℕ) → (open_flow L R out).refusal ≡ 0 → (cs ds : List Call) → Pieces (asked way_of) cs → Pieces (asked way_of) ds → Along (asked way_of) (Swaps L) (open_flow L R out).saved cs
    → Along (asked way_of) (Swaps L) (record_after (asked way_of) (open_flow L R out).saved cs) ds → Reasons L (open_flow L R out) cs ds

-- ==== backwards from record to record: the run over the bytes bs and then cs is the one over cs from the frontier between, and before it the one over bs to the state that this begins with

abbrev pub ReasonsJoin : Type 0
ReasonsJoin =
    (L : List ℕ) → list_refusal L ≡ 0 → (F : ℕ) → F < 2 ^ states → (bs cs : List ℕ) (n : ℕ) → n ≤ length cs → (q : Question) → let G = front L F bs (length bs) in
    due L (front L G cs n) q ≡ true → let later = reason L G cs n q in
    reason L F (bs ++ cs) (length bs + n) q ≡ reason L F bs (length bs) (of_state (get_or later 0 0)) ++ drop 1 later
