-- A flow that is renewed at any points: with the bytes before its last renewal added to each offset it tells what one flow without a largest offset would.
use Rattle.std.specs.Prelude.{ℕ, ◌+◌, cond, List, [], ◌∷◌, ◌++◌, ◌≡◌, length, eqb}
use Rattle.list.specs.Automaton.{start}
use Rattle.feed.specs.Engine.{run}
use Rattle.feed.specs.Calls.{Asked, record_after, all_told, all_bytes, Along, Pieces, outcome, asked}
use Rattle.feed.specs.Opening.{Opening}
use Rattle.feed.specs.Demands.{open_told}
use Rattle.list_flow.specs.Flow.{frontier_of, offset_of}
use Rattle.list_flow.specs.Opening.{open_flow}
use Rattle.list_feed.specs.Plain.{plain}
use Rattle.list_renew.specs.Renewal.{renewal}
use Rattle.laws.specs.Calls.{Call, Names, way_of}
use Rattle.laws.specs.Demands.{Due, Swaps}

-- words with n added to the offset of each pair; an odd last word stays
unfoldable pub raised : ℕ → List ℕ → List ℕ
raised n [] = []
raised n (g ∷ []) = g ∷ []
raised n (g ∷ (k ∷ ws)) = g ∷ ((n + k) ∷ raised n ws)

-- what a caller keeps of a flow: the bytes before its last renewal, and the record
pub record Flow : Type 0 where
  pub before : ℕ
  pub saved : List ℕ

-- what he does with it: a feed by any way, or a renewal
pub data Act : Type 0 where
  feeding : Call → Act
  renewing : Act

-- a renewal that is not refused: the bytes since the last one are added, by the offset that the record had
abbrev pub renew_on : Flow → Flow
renew_on S =
    let o = renewal S.saved in record { before = cond (eqb o.refusal 0) (S.before + offset_of S.saved) S.before; saved = o.saved }

-- each as a call: a feed tells its pairs with the bytes before the last renewal added; a renewal consumes and tells nothing
abbrev pub acts : Act → Asked Flow
acts (feeding c) =
    record {
      piece = c.piece;
      eaten = λ S. (asked way_of c).eaten S.saved;
      spoken = λ S. raised S.before ((asked way_of c).spoken S.saved);
      left = λ S. record { before = S.before; saved = (outcome way_of S.saved c).saved };
    }
acts renewing = record { piece = []; eaten = λ S. []; spoken = λ S. []; left = renew_on }

-- from an opening
abbrev pub begun : Opening → Flow
begun o = record { before = 0; saved = o.saved }

-- a feed that no rule refuses is on L, and what it goes by is checked; one that is refused may hold anything
abbrev pub Meant : List ℕ → Flow → Act → Type 0
Meant L S (feeding c) = Swaps L S.saved c
Meant L S renewing = Unit {0}

-- no renewal is refused; no feed ends in 14, and none on L is refused as foreign
abbrev pub Passes : List ℕ → Flow → Act → Type 0
Passes L S (feeding c) = ((outcome way_of S.saved c).refusal ≡ 14 → ⊥) × (c.by.list ≡ L → Names L c.by.via → (outcome way_of S.saved c).refusal ≡ 4 → ⊥)
Passes L S renewing = (renewal S.saved).refusal ≡ 0

pub record Renewed (L : List ℕ) (o : Opening) (cs : List Act) : Type 0 where
  -- opening's words and then these are the pairs of the automaton of L on all bytes consumed, from offset 0 on, each once, by offset and then signature; those of offset 0 come once
  pub due : Due L (all_bytes acts (begun o) cs) (open_told o ++ all_told acts (begun o) cs)
  -- and the flow goes on from there: its frontier, and the bytes before the last renewal with those since
  pub frontier : frontier_of (record_after acts (begun o) cs).saved ≡ run (plain L) (start L) (all_bytes acts (begun o) cs)
  pub offset : (record_after acts (begun o) cs).before + offset_of (record_after acts (begun o) cs).saved ≡ length (all_bytes acts (begun o) cs)
  pub passes : Along acts (Passes L) (begun o) cs

-- from an opening, renewed at any points, by the list alone, through tables, by matrices and by indexes
abbrev pub ListRenews : Type 0
ListRenews =
    (L R out : List ℕ) → (open_flow L R out).refusal ≡ 0 → (cs : List Act) → Pieces acts cs → Along acts (Meant L) (begun (open_flow L R out)) cs → Renewed L (open_flow L R out) cs
