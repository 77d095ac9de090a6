-- A feed over any kind of configuration: how a byte moves it, what that move tells and costs, where it halts; and what a call answers and leaves.
use Rattle.std.specs.Prelude.{ℕ, suc, ◌+◌, ◌-◌, ◌/◌, Bool, false, ◌&&◌, ◌||◌, cond, List, [], ◌∷◌, ◌++◌, length, take, drop, ltb, eqb}
use Rattle.sets.specs.Set.{signatures, members}
use Rattle.rules.specs.Rules.{Rule, verdict}

-- `alerts x c` is the set of the signatures that the move of x on byte c tells; `cost x` the rows read for a byte at x
pub record Engine (C : Type 0) : Type 0 where
  pub next : C → ℕ → C
  pub alerts : C → ℕ → ℕ
  pub cost : C → ℕ
  pub halts : C → Bool

-- ---- over the bytes of a piece

-- the configuration after them
unfoldable pub run : {C : Type 0} → Engine C → C → List ℕ → C
run E x [] = x
run E x (c ∷ cs) = run E (E.next x c) cs

-- the rows read: for each byte, those of the configuration before it
unfoldable pub costs : {C : Type 0} → Engine C → C → List ℕ → ℕ
costs E x [] = 0
costs E x (c ∷ cs) = E.cost x + costs E (E.next x c) cs

-- the signatures due after byte c, rising, each once
unfoldable pub due : {C : Type 0} → Engine C → C → ℕ → List ℕ
due E x c = members signatures (E.alerts x c)

-- the words of the pairs (g, k), for each g of a list: signature, then offset
unfoldable pub pairs_at : ℕ → List ℕ → List ℕ
pairs_at k [] = []
pairs_at k (g ∷ gs) = g ∷ (k ∷ pairs_at k gs)

-- the words of all pairs of some bytes, of which the first is fed at offset k, so that its pairs have offset k + 1
unfoldable pub told : {C : Type 0} → Engine C → C → ℕ → List ℕ → List ℕ
told E x k [] = []
told E x k (c ∷ cs) = pairs_at (k + 1) (due E x c) ++ told E (E.next x c) (k + 1) cs

-- how many pairs that is
unfoldable pub amount : {C : Type 0} → Engine C → C → List ℕ → ℕ
amount E x [] = 0
amount E x (c ∷ cs) = length (due E x c) + amount E (E.next x c) cs

-- how many bytes are consumed: the longest front whose pairs all fit the room, and before which nothing halts
unfoldable pub consumed : {C : Type 0} → Engine C → C → ℕ → List ℕ → ℕ
consumed E x room [] = 0
consumed E x room (c ∷ cs) =
    let d = length (due E x c) in
    let more = suc (consumed E (E.next x c) (room - d) cs) in
    cond (E.halts x || ltb room d) 0 more

-- ---- a call

-- the largest offset
abbrev pub most_offset : ℕ
most_offset = 4294967295

-- how a configuration, an offset and the rows read are saved as bytes, and read again
pub record Layout (C : Type 0) : Type 0 where
  pub config : List ℕ → C
  pub offset : List ℕ → ℕ
  pub rows : List ℕ → ℕ
  pub save : C → ℕ → ℕ → List ℕ

-- what a feed answers, and the words and the record at its exit
pub record Outcome : Type 0 where
  pub refusal : ℕ
  pub bytes : ℕ
  pub pairs : ℕ
  pub all : Bool
  pub words : List ℕ
  pub saved : List ℕ

-- the room of a buffer of words, in pairs: an odd last word is none
abbrev pub room : List ℕ → ℕ
room out = length out / 2

-- a refusal before any byte: zero bytes, zero pairs, not all, and no buffer changes
abbrev pub refused : ℕ → List ℕ → List ℕ → Outcome
refused n R out = record { refusal = n; bytes = 0; pairs = 0; all = false; words = out; saved = R }

-- `front` is consumed of a piece of `len` bytes; 14 where bytes are left and the engine halts at the next
unfoldable pub ended : {C : Type 0} → Engine C → Layout C → List ℕ → List ℕ → ℕ → List ℕ → Outcome
ended E K R front len out =
    let x = K.config R in
    let ws = told E x (K.offset R) front in
    record {
      refusal = cond (ltb (length front) len && E.halts (run E x front)) 14 0;
      bytes = length front;
      pairs = length ws / 2;
      all = eqb (length front) len;
      words = ws ++ drop (length ws) out;
      saved = K.save (run E x front) (K.offset R + length front) (K.rows R + costs E x front);
    }

-- a feed of a piece to the record R, with the words `out`: the first rule that applies refuses it, else the longest front is consumed
unfoldable pub feed : {C : Type 0} → List Rule → Engine C → Layout C → List ℕ → List ℕ → List ℕ → Outcome
feed rules E K R piece out =
    cond (eqb (verdict rules) 0)
    (ended E K R (take (consumed E (K.config R) (room out) piece) piece) (length piece) out)
    (refused (verdict rules) R out)
