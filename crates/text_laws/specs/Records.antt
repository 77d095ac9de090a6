-- The records of a text in words: an edge record for each state pair and longest run of bytes, the start record, an accept record for each state that accepts.
use Rattle.std.specs.Prelude.{ℕ, suc, ◌≤◌, ◌<◌, ◌≡◌, Bool, true, false, not, List, [], ◌∷◌, ◌⊎◌, ◌↔◌}
use Rattle.text.specs.Exp.{Exp, eps, size, edge, accepts}
use Rattle.text.specs.Grammar.{Text, exp}
use Rattle.text.specs.Records.{edge_record, start_record, accept_record, records_of}

-- from low to high, below m, is a longest run of the bytes that f has: all of them are in it, and neither the byte before nor the byte behind is
pub record Longest (f : ℕ → Bool) (m low high : ℕ) : Type 0 where
  pub ordered : low ≤ high
  pub below : high < m
  pub inside : (i : ℕ) → low ≤ i → i ≤ high → f i ≡ true
  pub before : (i : ℕ) → suc i ≡ low → f i ≡ false
  pub behind : suc high < m → f (suc high) ≡ false

-- r is one of rs
abbrev pub OneOf : List ℕ → List (List ℕ) → Type 0
OneOf r [] = ⊥
OneOf r (x ∷ rs) = (r ≡ x) ⊎ OneOf r rs

-- r is the edge record of two states and a longest run of the bytes that lead from the first to the second
abbrev pub EdgeOf : Bool → Exp → List ℕ → Type 0
EdgeOf free e r = (s : ℕ) × (t : ℕ) × (low : ℕ) × (high : ℕ) × (s ≤ size e) × (t ≤ size e) × Longest (edge free e s t) 256 low high × (r ≡ edge_record low high s t)

-- r is the accept record of a state that accepts
abbrev pub AcceptOf : Exp → ℕ → List ℕ → Type 0
AcceptOf e g r = (s : ℕ) × (s ≤ size e) × (accepts e s ≡ true) × (r ≡ accept_record s g)

-- the records of a text are these and no others
abbrev pub RecordsSaid : Type 0
RecordsSaid =
    (x : Text) (g : ℕ) (r : List ℕ) → OneOf r (records_of x g)
    ↔ (EdgeOf (not x.bound) (exp eps x.body) r ⊎ ((r ≡ start_record) ⊎ AcceptOf (exp eps x.body) g r))
