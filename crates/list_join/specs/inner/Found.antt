-- What the code of joining finds before it writes: one walk over a list, the new numbers, and the plan.
use Rattle.std.specs.Bool.{then_some}
use Rattle.std.specs.Prelude.{ℕ, Option, zero, suc, ◌+◌, ◌*◌, ◌≤◌, ◌<◌, ◌≡◌, Bool, true, false, ◌&&◌, ◌||◌, not, cond, List, length, get_or, set, ltb, eqb}
use Rattle.std.specs.Int.Bits.{bit_or}
use Rattle.sets.specs.Set.{states, holds}
use Rattle.rules.specs.Scan.{first, gather}
use Rattle.list.specs.List.{most_records, records, is_edge, is_start, from, target, list_refusal}
use Rattle.list.specs.Automaton.{named_by, highest}
use Rattle.list_join.specs.Join.{is_shared, own_state, same_state, stays, ever_at, once_at, two, naming, renamed, new_from, new_target, spare, join_refusal}
use Rattle.list_join.specs.declared.Naming.{Naming}
use Rattle.list_join.specs.declared.Outline.{Outline}
use Rattle.list_join.specs.declared.Plan.{Plan}

-- both have a state that is always there
abbrev pub loop_both : List ℕ → List ℕ → Bool
loop_both A B = two (ever_at A) (ever_at B)

-- both have one that is there once
abbrev pub once_both : List ℕ → List ℕ → Bool
once_both A B = two (once_at A) (once_at B)

-- k records more behind A pass the lent list, or are more than a list may have
abbrev pub overfull : List ℕ → ℕ → ℕ → Bool
overfull A lent k = ltb lent (length A + 8 * k) || ltb most_records (records A + k)

-- what record i adds names states alone
unfoldable pub fits : Naming → List ℕ → ℕ → Bool
fits n B i = spare n B i || ltb (new_from n B i) states && ltb (new_target n B i) states

-- record i is spare where s is the shared state
abbrev pub spare_at : List ℕ → ℕ → ℕ → Bool
spare_at L s i = eqb (target L i) s && (is_start L i || is_edge L i && eqb (from L i) s)

-- how many of the first n records are
unfoldable pub spare_by : List ℕ → ℕ → ℕ → ℕ
spare_by L s zero = 0
spare_by L s (suc i) = cond (spare_at L s i) (suc (spare_by L s i)) (spare_by L s i)

-- w with the bits of k in its number at s, and w with one more there
abbrev pub flag : List ℕ → ℕ → ℕ → List ℕ
flag w s k = set w s (bit_or (get_or w s 0) k)

abbrev pub bump : List ℕ → ℕ → List ℕ
bump w s = set w s (suc (get_or w s 0))

-- a byte for each state, which is not 0 exactly where the state is in N
abbrev pub Marked : List ℕ → ℕ → Type 0
Marked w N = (length w ≡ states) × ((s : ℕ) → s < states → not (eqb (get_or w s 0) 0) ≡ holds N s)

-- bit j of each state's byte says whether the state is in N
abbrev pub Flagged : ℕ → List ℕ → ℕ → Type 0
Flagged j w N = (s : ℕ) → s < states → holds (get_or w s 0) j ≡ holds N s

-- what the first n records say: a mark for each state that they name, with bit 1 where it starts and bit 2 where an edge leads to it, the states with a
-- loop that every byte takes, and for each state how many of the records are spare where it is the shared one
pub record Seen (L : List ℕ) (n : ℕ) (marks staying spares : List ℕ) : Type 0 where
  pub marked : Marked marks (named_by L n)
  pub starts : Flagged 1 marks (gather states (is_start L) (target L) n)
  pub reached : Flagged 2 marks (gather states (is_edge L) (target L) n)
  pub stay : Marked staying (gather states (stays L) (target L) n)
  pub long : length spares ≡ states
  pub counts : (s : ℕ) → s < states → get_or spares s 0 ≡ spare_by L s n

-- the lowest state that starts and stays, and the lowest that starts and that no edge leads to, by the marks
abbrev pub ever : List ℕ → List ℕ → ℕ
ever marks staying = first states (λ s. holds (get_or marks s 0) 1 && not (eqb (get_or staying s 0) 0))

abbrev pub once : List ℕ → ℕ
once marks = first states (λ s. holds (get_or marks s 0) 1 && not (holds (get_or marks s 0) 2))

-- the state k; none where it is the number of states
abbrev pub some_state : ℕ → Option ℕ
some_state k = then_some (ltb k states) k

-- r is one past the highest place below m whose mark is not 0; 0 where there is none
pub record Ends (w : List ℕ) (m r : ℕ) : Type 0 where
  pub most : r ≤ m
  pub none : (s : ℕ) → r ≤ s → s < m → get_or w s 0 ≡ 0
  pub last : (t : ℕ) → r ≡ suc t → get_or w t 0 ≡ 0 → ⊥

-- one walk over a list: its check and, where it passes, its highest state and what its records say
pub record Outlines (L : List ℕ) (r : Outline) : Type 0 where
  pub refusal : r.refusal ≡ list_refusal L
  pub top : list_refusal L ≡ 0 → r.top ≡ highest L
  pub seen : list_refusal L ≡ 0 → Seen L (records L) r.marks r.staying r.spares

-- the new numbers of the states up to the highest stand in `new`
pub record Numbers (n : Naming) (top : ℕ) (new : List ℕ) : Type 0 where
  pub room : top < length new
  pub each : (t : ℕ) → t ≤ top → get_or new t 0 ≡ renamed n t

-- the naming of two lists gives each state a number in two bytes
pub record Narrow (n : Naming) (top : ℕ) : Type 0 where
  pub next : n.next ≤ states
  pub same : same_state n < states
  pub low : is_shared n ≡ true → same_state n < n.next
  pub own : own_state n ≤ top
  pub below : top < states

-- r says whether each state up to the highest that is marked gets the number of a state; where one does not, it is not the shared one
pub record Fitted (n : Naming) (top : ℕ) (w : List ℕ) (r : Bool) : Type 0 where
  pub room : r ≡ true → (t : ℕ) → t ≤ top → (get_or w t 0 ≡ 0 → ⊥) → renamed n t < states
  pub over : r ≡ false → (t : ℕ) × (t ≤ top) × (get_or w t 0 ≡ 0 → ⊥) × (is_shared n ≡ true → t ≡ own_state n → ⊥) × (states ≤ renamed n t)

-- the refusal, and where nothing refuses the naming, and the other list's highest state
pub record Plans (A : List ℕ) (used lent : ℕ) (B : List ℕ) (p : Plan) : Type 0 where
  pub refusal : p.refusal ≡ join_refusal A used lent B
  pub named : join_refusal A used lent B ≡ 0 → p.naming ≡ naming A B
  pub top : join_refusal A used lent B ≡ 0 → p.top ≡ highest B
