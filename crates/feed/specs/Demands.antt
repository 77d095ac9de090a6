-- What the demands say, in words that every kind of call shares: of a refused call, of one opening, of one feed, of calls in a row by one engine, also from an opening on, and of calls cut otherwise.
use Rattle.std.specs.Prelude.{ℕ, zero, suc, ◌+◌, ◌*◌, ◌≤◌, ◌<◌, true, false, List, [], ◌∷◌, ◌++◌, ◌⊎◌, ◌↔◌, ◌≡◌, length, get_or, take}
use Rattle.sets.specs.Set.{signatures, members, holds}
use Rattle.rules.specs.Rules.{Rule, verdict, Refuses}
use Rattle.feed.specs.Pairs.{Pair, Before}
use Rattle.feed.specs.Engine.{Engine, Layout, Outcome, refused, run, costs, pairs_at, told, amount, room}
use Rattle.feed.specs.Opening.{Opening, no_room}
use Rattle.feed.specs.Calls.{Way, fed_by, Asked, Call, outcome, ruled, asked, record_after, all_told, all_bytes, Along, Pieces}

-- ---- a refusal

-- zero bytes, zero pairs, not all, and both buffers as they were
abbrev pub Unchanged : List ℕ → List ℕ → Outcome → Type 0
Unchanged R out o = o ≡ refused o.refusal R out

-- two calls that answer the same and leave the same words
pub record Answered (o p : Outcome) : Type 0 where
  pub refusal : o.refusal ≡ p.refusal
  pub bytes : o.bytes ≡ p.bytes
  pub pairs : o.pairs ≡ p.pairs
  pub all : o.all ≡ p.all
  pub words : o.words ≡ p.words

-- it ends in 14: it consumes the bytes, tells the pairs and leaves the buffers of another call, and not all is consumed
abbrev pub Halted : Outcome → Outcome → Type 0
Halted o p = o ≡ record { refusal = 14; bytes = p.bytes; pairs = p.pairs; all = false; words = p.words; saved = p.saved }

-- the words of the pairs that an opening tells
abbrev pub open_told : Opening → List ℕ
open_told o = take (2 * o.pairs) o.words

-- ---- one opening, of any kind: what is tested before the room, the words ws of the pairs of offset 0, and the record Q that it leaves

pub record OneOpening (early : List Rule) (ws Q R out : List ℕ) (o : Opening) : Type 0 where
  -- the first rule that applies refuses it, and changes nothing; the last is 15, for more pairs than there is room for
  pub refuses : Refuses (early ++ ((15, no_room ws out) ∷ [])) o.refusal
  pub unchanged : (o.refusal ≡ 0 → ⊥) → o ≡ record { refusal = o.refusal; pairs = 0; words = out; saved = R }
  -- else those pairs are told, and the record is Q, whatever it held
  pub passes : o.refusal ≡ 0 → (open_told o ≡ ws) × (o.saved ≡ Q)
  -- whether refused or not: the words from the pairs on stay, an odd last word too; there are as many; the pairs fit half as many
  pub words-stay : (i : ℕ) → 2 * o.pairs ≤ i → get_or o.words i 0 ≡ get_or out i 0
  pub words-many : length o.words ≡ length out
  pub pairs-fit : 2 * o.pairs ≤ length out
  -- room for all signatures always suffices
  pub room-suffices : signatures ≤ room out → o.refusal ≡ 15 → ⊥

-- ---- one feed, by any way

-- the longest front of a piece whose pairs all fit: it fits, and one byte more would not, or halts
pub record Longest {C : Type 0} (E : Engine C) (x : C) (most : ℕ) (piece : List ℕ) (n : ℕ) : Type 0 where
  pub front : n ≤ length piece
  pub fits : amount E x (take n piece) ≤ most
  pub longest : n < length piece → (E.halts (run E x (take n piece)) ≡ true) ⊎ (most < amount E x (take (suc n) piece))

-- where the engine stands after the first n bytes of a piece
abbrev pub stands_after : (W : Way) → List ℕ → List ℕ → ℕ → W.Config
stands_after W R piece n = run W.engine (W.layout.config R) (take n piece)

-- it answers and leaves o
pub record OneFeed (W : Way) (R : List ℕ) (at : ℕ) (piece out : List ℕ) (o : Outcome) : Type 0 where
  -- one that a rule refuses answers its number, and changes nothing; a number but 0 and 14 is a rule's
  pub refused : (verdict (W.rules R at piece) ≡ 0 → ⊥) → (o.refusal ≡ verdict (W.rules R at piece)) × Unchanged R out o
  pub ruled : (n : ℕ) → (n ≡ 0 → ⊥) → (n ≡ 14 → ⊥) → (o.refusal ≡ n) ↔ (verdict (W.rules R at piece) ≡ n)
  -- else it consumes the longest front, and halts before none of its bytes
  pub longest : verdict (W.rules R at piece) ≡ 0 → Longest W.engine (W.layout.config R) (room out) piece o.bytes
  pub goes : (j : ℕ) → j < o.bytes → W.engine.halts (stands_after W R piece j) ≡ false
  -- it gives no refusal exactly when no rule refuses it and, where bytes are left, the engine does not halt after those consumed
  pub passes : (o.refusal ≡ 0) ↔ ((verdict (W.rules R at piece) ≡ 0) × (o.bytes < length piece → W.engine.halts (stands_after W R piece o.bytes) ≡ false))
  -- and 14, if it is no rule's number, exactly when no rule refuses it, bytes are left, and the engine halts; what is left is what a feed of just the bytes before it leaves
  pub halts : verdict (W.rules R at piece) < 14
      → (o.refusal ≡ 14) ↔ ((verdict (W.rules R at piece) ≡ 0) × (o.bytes < length piece) × (W.engine.halts (stands_after W R piece o.bytes) ≡ true))
  pub kept : verdict (W.rules R at piece) < 14 → o.refusal ≡ 14 → verdict (W.rules R at (take o.bytes piece)) ≡ 0 → Halted o (fed_by W R at (take o.bytes piece) out)
  -- it says all exactly when there is no refusal and that is the whole piece
  pub all : (o.all ≡ true) ↔ ((o.refusal ≡ 0) × (o.bytes ≡ length piece))
  -- whether refused or not: the words from the pairs on stay, an odd last word too; there are as many; the pairs fit half as many
  pub words-stay : (i : ℕ) → 2 * o.pairs ≤ i → get_or o.words i 0 ≡ get_or out i 0
  pub words-many : length o.words ≡ length out
  pub pairs-fit : 2 * o.pairs ≤ length out
  -- with room for all signatures a non-empty piece that gives no refusal moves by a byte or more
  pub moves : o.refusal ≡ 0 → zero < length piece → signatures ≤ room out → zero < o.bytes

abbrev pub EachFeed : Type 1
EachFeed = (W : Way) (R : List ℕ) (at : ℕ) (piece out : List ℕ) → OneFeed W R at piece out (fed_by W R at piece out)

-- ---- calls in a row

-- calls on the record R do what the engine G does, going on from the configuration that K reads of R
pub record Runs {A D : Type 0} (ask : A → Asked (List ℕ)) (K : Layout D) (G : Engine D) (R : List ℕ) (cs : List A) : Type 0 where
  -- exactly the pairs that G tells of the bytes consumed
  pub tells : all_told ask R cs ≡ told G (K.config R) (K.offset R) (all_bytes ask R cs)
  -- (g, k) is told exactly when k is the offset after one of those bytes and the move of G on it alerts g
  pub due : (g k : ℕ) → Pair (all_told ask R cs) g k
      ↔ ((n : ℕ) × (n < length (all_bytes ask R cs)) × (k ≡ K.offset R + suc n) × (g < signatures)
      × (holds (G.alerts (run G (K.config R) (take n (all_bytes ask R cs))) (get_or (all_bytes ask R cs) n 0)) g ≡ true))
  -- by offset and then signature, both rising, so that no pair is told twice
  pub ordered : (i j : ℕ) → i < j → 2 * j + 1 < length (all_told ask R cs) → Before (all_told ask R cs) i j
  -- and the record goes on from there
  pub config : K.config (record_after ask R cs) ≡ run G (K.config R) (all_bytes ask R cs)
  pub offset : K.offset (record_after ask R cs) ≡ K.offset R + length (all_bytes ask R cs)

-- feeds do so, and a refusal is one of the rules', never 14
pub record Tells {B D : Type 0} (way : B → Way) (K : Layout D) (G : Engine D) (R : List ℕ) (cs : List (Call B)) : Type 0 where
  pub runs : Runs (asked way) K G R cs
  pub refused : Along (asked way) (λ Q c. (outcome way Q c).refusal ≡ verdict (ruled way Q c)) R cs

-- and the rows read are those of G
abbrev pub Counts : {A D : Type 0} → (A → Asked (List ℕ)) → Layout D → Engine D → List ℕ → List A → Type 0
Counts ask K G R cs = K.rows (record_after ask R cs) ≡ K.rows R + costs G (K.config R) (all_bytes ask R cs)

-- ---- from an opening on

-- ws are exactly the pairs of a flow by the engine G, from its opening at x on, where the set `first` is alerted, that has consumed bs
pub record Due {D : Type 0} (G : Engine D) (x : D) (first : ℕ) (bs ws : List ℕ) : Type 0 where
  pub tells : ws ≡ pairs_at 0 (members signatures first) ++ told G x 0 bs
  -- (g, k) is told exactly when k is 0 and g is alerted at once, or k is the offset after a byte and the move of G on it alerts g
  pub due : (g k : ℕ) → Pair ws g k
      ↔ (((k ≡ 0) × (g < signatures) × (holds first g ≡ true))
      ⊎ ((n : ℕ) × (n < length bs) × (k ≡ suc n) × (g < signatures) × (holds (G.alerts (run G x (take n bs)) (get_or bs n 0)) g ≡ true)))
  -- by offset and then signature, both rising, so that no pair is told twice
  pub ordered : (i j : ℕ) → i < j → 2 * j + 1 < length ws → Before ws i j

-- the calls cs after the opening o: its words and then theirs are the pairs of such a flow on the bytes consumed; and the record goes on from there
pub record Flowed {A D : Type 0} (ask : A → Asked (List ℕ)) (K : Layout D) (G : Engine D) (x : D) (first : ℕ) (o : Opening) (cs : List A) : Type 0 where
  pub due : Due G x first (all_bytes ask o.saved cs) (open_told o ++ all_told ask o.saved cs)
  pub config : K.config (record_after ask o.saved cs) ≡ run G x (all_bytes ask o.saved cs)
  pub offset : K.offset (record_after ask o.saved cs) ≡ length (all_bytes ask o.saved cs)

-- what holds of an opening and calls holds of each that is not refused, on any record and words, with any calls after it whose pieces are bytes, of each of which P holds at the record that it meets
abbrev pub Onward : {A : Type 0} → (A → Asked (List ℕ)) → (List ℕ → List ℕ → Opening) → (List ℕ → A → Type 0) → (Opening → List A → Type 0) → Type 0
Onward {A} ask opens P Holds =
    (R out : List ℕ) → (opens R out).refusal ≡ 0 → (cs : List A) → Pieces ask cs → Along ask P (opens R out).saved cs → Holds (opens R out) cs

-- ---- cut otherwise

-- cut anywhere: calls that consume the same bytes tell the same words and leave the same record, whatever the pieces, the rooms and the refusals between
pub record Alike {A B : Type 0} (ask : A → Asked (List ℕ)) (bid : B → Asked (List ℕ)) (R : List ℕ) (cs : List A) (ds : List B) : Type 0 where
  pub words : all_told ask R cs ≡ all_told bid R ds
  pub record-after : record_after ask R cs ≡ record_after bid R ds

-- so of all calls from the record R on, of each of which P holds at the record that it meets
abbrev pub Cuts : {A : Type 0} → (A → Asked (List ℕ)) → (List ℕ → A → Type 0) → List ℕ → Type 0
Cuts {A} ask P R =
    (cs ds : List A) → Pieces ask cs → Pieces ask ds → Along ask P R cs → Along ask P R ds → all_bytes ask R cs ≡ all_bytes ask R ds → Alike ask ask R cs ds
