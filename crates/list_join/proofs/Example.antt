-- Two texts, ab and ac, joined: the second's start state and its loop are the first's. Assumes nothing.
use Prim.Native.Nat.{ℕ}
use mathlib.Core.Path.{◌≡◌, refl, ap}
use mathlib.Core.Bool.{true, ◌&&◌}
use mathlib.Core.List.{List, [], ◌∷◌, ◌++◌}
use native.Mathlib.Omega.{arith}
use Rattle.sets.specs.Set.{states, holds}
use Rattle.rules.specs.Scan.{stack}
use Rattle.rules.proofs.Scanning.{first-at, some-none}
use Rattle.list.specs.List.{records, record_with}
use Rattle.list.specs.Automaton.{start, highest_by}
use Rattle.list.proofs.Steps.{start-exactly}
use Rattle.list_join.proofs.Staying.{staying-exactly}
use Rattle.std.specs.Prelude.{Some}
use Rattle.list_join.specs.Join.{shared_as, stays, staying, lowest, ever_at, naming, renamed, renamed_record, spare, added, joined}

-- the list of a, another letter and a signature
abbrev text : ℕ → ℕ → List ℕ
text c g =
    (1 ∷ 0 ∷ 255 ∷ 0 ∷ 0 ∷ 0 ∷ 0 ∷ 0 ∷ []) ++ (1 ∷ 97 ∷ 97 ∷ 0 ∷ 0 ∷ 0 ∷ 1 ∷ 0 ∷ []) ++ (1 ∷ c ∷ c ∷ 0 ∷ 1 ∷ 0 ∷ 2 ∷ 0 ∷ [])
    ++ (2 ∷ 0 ∷ 0 ∷ 0 ∷ 0 ∷ 0 ∷ 0 ∷ 0 ∷ []) ++ (3 ∷ 0 ∷ 0 ∷ 0 ∷ 2 ∷ 0 ∷ g ∷ 0 ∷ [])

-- record 3 starts state 0, and record 0 is its loop
zero-starts : (c g : ℕ) → holds (start (text c g)) 0 ≡ true
zero-starts c g = (start-exactly (text c g) 0).1 (omega arith, (3, omega arith, refl, refl))

zero-stays : (c g : ℕ) → holds (staying (text c g)) 0 ≡ true
unfolding stays
zero-stays c g = (staying-exactly (text c g) 0).1 (omega arith, (0, omega arith, refl, refl))

zero-there : (c g : ℕ) → (holds (start (text c g)) 0 && holds (staying (text c g)) 0) ≡ true
zero-there c g = rw (zero-starts c g, zero-stays c g)

-- state 0 starts and stays
zero-ever : (c g : ℕ) → ever_at (text c g) ≡ 0
unfolding lowest
zero-ever c g = first-at states _ 0 (omega arith) (some-none 0 _ (λ i h. absurd (omega arith))) (zero-there c g)

-- so it is the shared one, and B's states go on from 3
shared-zero : naming (text 98 7) (text 99 8) ≡ record { next = 3; shared = Some (shared_as 0 0) }
unfolding highest_by
shared-zero = rw (zero-ever 98 7, zero-ever 99 8) refl

pub two-joined : joined (text 98 7) (text 99 8)
    ≡ (text 98 7 ++ (1 ∷ 97 ∷ 97 ∷ 0 ∷ 0 ∷ 0 ∷ 3 ∷ 0 ∷ []) ++ (1 ∷ 99 ∷ 99 ∷ 0 ∷ 3 ∷ 0 ∷ 4 ∷ 0 ∷ []) ++ (3 ∷ 0 ∷ 0 ∷ 0 ∷ 4 ∷ 0 ∷ 8 ∷ 0 ∷ []))
unfolding joined renamed renamed_record record_with spare stack
two-joined = ap (λ n. text 98 7 ++ added n (text 99 8) (records (text 99 8))) shared-zero
