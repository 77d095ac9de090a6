-- What the list that joining left is good for: a flow under it tells the pairs of both lists, and nothing else.
use Rattle.std.specs.Prelude.{ℕ, ◌+◌, ◌*◌, ◌≤◌, ◌<◌, ◌≡◌, true, List, ◌++◌, ◌⊎◌, ◌↔◌, length, take}
use Rattle.sets.specs.Set.{holds}
use Rattle.list.specs.List.{list_refusal}
use Rattle.list.specs.Automaton.{start}
use Rattle.feed.specs.Pairs.{Pair, Before}
use Rattle.feed.specs.Engine.{run}
use Rattle.feed.specs.Calls.{Bytes, asked, all_bytes, all_told, Pieces, Along}
use Rattle.list_flow.specs.Opening.{open_flow}
use Rattle.list_feed.specs.Plain.{plain, pairs_of}
use Rattle.feed.specs.Demands.{open_told}
use Rattle.laws.specs.Calls.{Call, way_of}
use Rattle.laws.specs.Demands.{Swaps}
use Rattle.list_join.specs.declared.Joined.{Joined}
use Rattle.list_join.specs.Join.{naming, renamed, joined, front, Joins}

-- ---- two lists

-- the frontier of L after the bytes bs
abbrev pub frontier_after : List ℕ → List ℕ → ℕ
frontier_after L bs = run (plain L) (start L) bs

-- J tells what A tells and what B tells
pub record Unites (A B J : List ℕ) : Type 0 where
  -- it passes 1 to 3
  pub passes : list_refusal J ≡ 0
  -- a state is in its frontier exactly when it is in A's, or is the new name of one in B's
  pub frontier : (bs : List ℕ) → Bytes bs → (s : ℕ)
      → holds (frontier_after J bs) s ≡ true ↔ ((holds (frontier_after A bs) s ≡ true) ⊎ ((t : ℕ) × (holds (frontier_after B bs) t ≡ true) × (s ≡ renamed (naming A B) t)))
  -- (g, k) is due under it exactly when it is due under A or under B, k = 0 too
  pub pairs : (bs : List ℕ) → Bytes bs → (g k : ℕ) → Pair (pairs_of J bs) g k ↔ (Pair (pairs_of A bs) g k ⊎ Pair (pairs_of B bs) g k)

-- any two lists that pass 1 to 3, where the joined one does
abbrev pub ListsUnite : Type 0
ListsUnite = (A B : List ℕ) → list_refusal A ≡ 0 → list_refusal B ≡ 0 → list_refusal (joined A B) ≡ 0 → Unites A B (joined A B)

-- what a call that is not refused leaves in front of the lent list
abbrev pub JoinUnites : Type 0
JoinUnites =
    (list : List ℕ) (used : ℕ) (B : List ℕ) (r : Joined) (exit : List ℕ) → Joins list used B r exit → r.refusal ≡ 0
    → Unites (front list used) B (take r.length exit)

-- ---- any number of lists

-- what a list is to tell: signature h after the bytes w
abbrev pub Sense : Type 1
Sense = ℕ → List ℕ → Type 0

-- (h, k) is due under L exactly when the flow has come to offset k and P holds of h and the first k bytes
pub record Signs (L : List ℕ) (P : Sense) : Type 0 where
  pub passes : list_refusal L ≡ 0
  pub pairs : (bs : List ℕ) → Bytes bs → (h k : ℕ) → Pair (pairs_of L bs) h k ↔ ((k ≤ length bs) × P h (take k bs))

-- one or the other
abbrev pub Either : Sense → Sense → Sense
Either P Q h w = P h w ⊎ Q h w

-- ws are the pairs of P on the bytes bs; by offset and then signature, each once
pub record TellsOf (P : Sense) (bs ws : List ℕ) : Type 0 where
  pub told : (h k : ℕ) → Pair ws h k ↔ ((k ≤ length bs) × P h (take k bs))
  pub ordered : (i j : ℕ) → i < j → 2 * j + 1 < length ws → Before ws i j

-- a flow opened on L and fed by any calls, cut anywhere: plain, through tables that the check accepts, by the filler's matrix or index, with refused calls between
abbrev pub FlowsTell : List ℕ → Sense → Type 0
FlowsTell L P =
    (R out : List ℕ) → (open_flow L R out).refusal ≡ 0 → (cs : List Call) → Pieces (asked way_of) cs → Along (asked way_of) (Swaps L) (open_flow L R out).saved cs
    → TellsOf P (all_bytes (asked way_of) (open_flow L R out).saved cs) (open_told (open_flow L R out) ++ all_told (asked way_of) (open_flow L R out).saved cs)

-- the list of two that are joined tells what either is to tell, and a flow of any calls tells it
abbrev pub UnionSigns : Type 1
UnionSigns = (A B J : List ℕ) (P Q : Sense) → Unites A B J → Signs A P → Signs B Q → Signs J (Either P Q)

abbrev pub SignsFlow : Type 1
SignsFlow = (L : List ℕ) (P : Sense) → Signs L P → FlowsTell L P
