-- What the drivers promise: the theorems on segments said of the numbers that the code answered and the buffers that it left.
use Rattle.std.specs.Prelude.{◌≡◌, ℕ, ◌*◌, ◌≤◌, Bool, false, cond, List, [], ◌∷◌, ◌++◌, length, take, ◌≢◌}
use Rattle.rules.specs.Rules.{verdict, Refuses}
use Rattle.list.specs.Automaton.{start, accepted}
use Rattle.feed.specs.Calls.{Way, Asked, record_after, all_told}
use Rattle.feed.specs.Demands.{open_told}
use Rattle.feed.specs.declared.Opened.{Opened}
use Rattle.list_flow.specs.Flow.{flow_layout}
use Rattle.list_flow.specs.Opening.{open_rules, open_flow}
use Rattle.list_feed.specs.Plain.{plain}
use Rattle.table.specs.Table.{Table, table_refusal}
use Rattle.laws.specs.Calls.{Via, by_list, by_table, way_of}
use Rattle.laws.specs.Demands.{Swapped}
use Rattle.segment_feed.specs.Segment.{Sent, Kept, take_of, due_of, door_rules}
use Rattle.segment_feed.specs.declared.Heard.{Heard}
use Rattle.segment_feed.specs.Post.{kept}
use Rattle.segment_feed.specs.Calls.{handed, looks_at}
use Rattle.segment_feed.specs.Streamed.{fresh, Streamed, Far, whole, placed, torn, glancing, glance_at}
use Rattle.segment_drivers.specs.declared.Reach.{Reach}
use Rattle.segment_drivers.specs.declared.Reach.TheVariants.{Whole, Placed, Torn}
use Rattle.segment_drivers.specs.declared.Standing.{Standing}

-- ---- one segment

-- by the way W, on what is kept, S, with the words `out`, a segment answered h and left the words ws, the record R and the held buffer J
pub record SegmentKept (W : Way) (g : Sent) (S : Kept) (out : List ℕ) (h : Heard) (ws R J : List ℕ) : Type 0 where
  -- one that a rule refuses at the door, 18 for the sizes first, answers its number: nothing is passed down or told, and nothing changes
  pub refused : (verdict (door_rules W g S) ≢ 0)
      → (h.refusal ≡ verdict (door_rules W g S)) × (h.bytes ≡ 0) × (h.pairs ≡ 0) × (ws ≡ out) × (kept R J h.start h.length ≡ S)
  -- behind the door, where nothing is due, the answer is that of taking it
  pub taken : verdict (door_rules W g S) ≡ 0 → length (due_of W g S) ≡ 0 → h.refusal ≡ (take_of W g S).refusal
  -- a refusal never says that nothing is due any more
  pub not-all : (h.refusal ≢ 0) → h.all ≡ false
  -- the pairs fit the words, which stay as many
  pub fits : (2 * h.pairs ≤ length out) × (length ws ≡ length out)

-- ---- any number of them

-- the code goes from where it stands, `so`, to r, as the call a does on what is kept, S: what is kept then, and the words told behind those that were
pub record Turned (a : Asked Kept) (S : Kept) (so : Standing) (ws : List ℕ) (r : Standing) (vs Q H : List ℕ) : Type 0 where
  pub left : kept Q H r.start r.length ≡ a.left S
  pub told : take r.words vs ≡ take so.words ws ++ a.spoken S
  pub room : r.words ≤ length vs

-- through the table where the flag says so, else by the list alone
abbrev pub by_flag : Bool → ℕ → Table → Via
by_flag flag b T = cond flag (by_table b T) by_list

-- how far a look of the driver comes
abbrev pub far_by : Reach → Far
far_by Whole = whole
far_by Placed = placed
far_by Torn = torn

-- the numbers that calls state
abbrev pub numbers_of : {A : Type 0} → (A → ℕ) → List A → List ℕ
numbers_of at [] = []
numbers_of at (c ∷ cs) = at c ∷ numbers_of at cs

-- calls with these numbers, of which `Holds` holds, from the opening of the flow of L on: after its words theirs stand before the last word told, and what they leave is what the code left
pub record Driven {A : Type 0} (ask : A → Asked Kept) (at : A → ℕ) (Holds : List A → Type 0) (numbers : List ℕ) (L R out held : List ℕ) (r : Standing) (ws Q H : List ℕ) : Type 0 where
  pub calls : List A
  pub sent : numbers_of at calls ≡ numbers
  pub holds : Holds calls
  pub told : take r.words ws ≡ open_told (open_flow L R out) ++ all_told ask (fresh (open_flow L R out) held) calls
  pub left : kept Q H r.start r.length ≡ record_after ask (fresh (open_flow L R out) held) calls

-- segments with these numbers, each by the list or through a table that the check accepts: from an opening that is not refused `Streamed` holds of them
pub record SegmentsDriven (L : List ℕ) (b : ℕ) (T : Table) (s : ℕ) (numbers R out held : List ℕ) (checked : ℕ) (opened : Opened) (r : Standing) (ws Q H : List ℕ) : Type 0 where
  pub checks : checked ≡ table_refusal L b T
  pub opens : Refuses (open_rules L R out) opened.refusal
  pub streams : checked ≡ 0 → opened.refusal ≡ 0
      → Driven (handed way_of s) (λ c. c.at)
      (Streamed (handed way_of s) (looks_at way_of s) way_of flow_layout (plain L) (start L) (accepted L (start L)) (Swapped L (open_flow L R out)) (open_flow L R out) s held)
      numbers L R out held r ws Q H

-- looks with these numbers, of a caller who is killed as a list says, and starts again with what is saved: the same of them
pub record LooksDriven (L : List ℕ) (s : ℕ) (numbers R out held : List ℕ) (opened : Opened) (r : Standing) (ws Q H : List ℕ) : Type 0 where
  pub opens : Refuses (open_rules L R out) opened.refusal
  pub restarts : opened.refusal ≡ 0
      → Driven (glancing way_of s) (λ v. v.call.at)
      (Streamed (glancing way_of s) (glance_at way_of s) way_of flow_layout (plain L) (start L) (accepted L (start L)) (Swapped L (open_flow L R out)) (open_flow L R out) s held)
      numbers L R out held r ws Q H
