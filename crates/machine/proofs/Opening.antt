-- Opening by the code: which rule refuses it, and that it tells and saves what the definition does; and the room that always suffices. Assumes nothing.
use Prim.Native.Nat.{ℕ, ◌+◌, ◌*◌, ◌-◌, ◌/◌, ◌≤◌}
use mathlib.Core.Path.{◌≡◌, refl, sym, ap, ◌∙◌}
use mathlib.Core.Bool.{false}
use mathlib.Core.List.{List, [], ◌∷◌}
use native.Mathlib.Omega.{arith}
use native.Mathlib.Decide.{ℕ_discrete}
use lib.ListN.{length}
use lib.Dec.{eqb}
use borrow.Author.Tests.{eqb-true, not-false, lt-ltb, le-ltb, ltb-false, leb-true, leb-false}
use Rattle.sets.specs.Set.{signatures, size, members}
use Rattle.sets.proofs.Members.{members-size, members-most}
use Rattle.rules.specs.Rules.{verdict}
use Rattle.rules.proofs.Rules.{stop, last, passes, passes-front, verdict-then, verdict-refused}
use Rattle.feed.specs.declared.Opened.{Opened}
use Rattle.feed.specs.Engine.{room}
use Rattle.feed.specs.Opening.{no_room, Opens}
use Rattle.feed.specs.inner.Told.{TellsAll}
use Rattle.std.specs.Prelude.{Option, Some, None, is_some}
use Rattle.feed.proofs.Runs.{pairs_at-length}
use Rattle.feed.proofs.Opening.{opening-refusal, opening-fits, opens-told, opens-refused}
use Rattle.machine.specs.Machine.{bad_machine, first_alerts}
use Rattle.machine.specs.Record.{flow_size, wrong_size}
use Rattle.machine.specs.Extended.{open_pairs, first_rules, open_rules, extended_open, opened}

-- ---- how many pairs

-- as many as there are signatures that the start state's program alerts, at most all
pub open_pairs-long : (P : List ℕ) → length (open_pairs P) ≡ 2 * size signatures (first_alerts P)
unfolding open_pairs
open_pairs-long P = let G = first_alerts P in pairs_at-length 0 (members signatures G) ∙ ap (λ (n : ℕ). 2 * n) (members-size signatures G)

open_pairs-few : (P : List ℕ) → length (open_pairs P) / 2 ≤ signatures
open_pairs-few P = let G = first_alerts P in omega (arith, open_pairs-long P, members-size signatures G, members-most signatures G)

module _ (M P R out : List ℕ) where
  -- ---- the rules

  -- past 24 and 4 the room decides
  past : verdict (first_rules M P R) ≡ 0 → verdict (open_rules M P R out) ≡ verdict ((15, no_room (open_pairs P) out) ∷ [])
  past v = verdict-then (first_rules M P R) ((15, no_room (open_pairs P) out) ∷ []) refl v

  -- an opening that 24 and 4 do not refuse has a good machine, and the size of a record
  pub first_passes : verdict (first_rules M P R) ≡ 0 → (bad_machine M P ≡ false) × (length R ≡ flow_size)
  first_passes v =
      let m = passes 23 (bad_machine M P) ((4, wrong_size R) ∷ []) v in
      (m.0, eqb-true (length R) flow_size (not-false (eqb (length R) flow_size) (passes 3 (wrong_size R) [] m.1).0))

  pub open-passes : verdict (open_rules M P R out) ≡ 0 → verdict (first_rules M P R) ≡ 0
  open-passes v = passes-front (first_rules M P R) ((15, no_room (open_pairs P) out) ∷ []) v

  -- one that no rule refuses has room for its pairs
  pub open-fits : verdict (open_rules M P R out) ≡ 0 → size signatures (first_alerts P) ≤ room out
  open-fits v =
      let l = ltb-false (room out) (length (open_pairs P) / 2) (passes 14 (no_room (open_pairs P) out) [] (sym (past (open-passes v)) ∙ v)).0 in
      omega (arith, open_pairs-long P)

  -- the pairs that it tells fit the room
  pub opened-fits : (extended_open M P R out).pairs ≤ room out
  opened-fits = opening-fits (open_rules M P R out) (open_pairs P) (opened P) R out (size signatures (first_alerts P)) (open_pairs-long P) open-fits

  -- with room for all signatures the room refuses nothing: 24 and 4 decide
  pub room-suffices : signatures ≤ room out → (extended_open M P R out).refusal ≡ verdict (first_rules M P R)
  room-suffices h =
      opening-refusal (open_rules M P R out) (open_pairs P) (opened P) R out
      ∙ elim (ℕ_discrete (verdict (first_rules M P R)) 0) [
        | yes v ↦ past v ∙ last 15 (le-ltb (room out) (length (open_pairs P) / 2) (omega (arith, open_pairs-few P))) ∙ sym v
        | no v ↦ verdict-refused (first_rules M P R) ((15, no_room (open_pairs P) out) ∷ []) v
      ]

  -- ---- what the code answers

  -- 24 and 4
  pub open-refused : (f : Opened) → f.refusal ≡ verdict (first_rules M P R) → (verdict (first_rules M P R) ≡ 0 → ⊥) → f.pairs ≡ 0 → Opens (extended_open M P R out) f out R
  open-refused f n v p =
      let e = verdict-refused (first_rules M P R) ((15, no_room (open_pairs P) out) ∷ []) v in
      opens-refused (open_rules M P R out) (open_pairs P) (opened P) R out (λ z. v (sym e ∙ z)) f (n ∙ sym e) p

  module _ (G : ℕ) (first : G ≡ first_alerts P) (t : Option ℕ) (left : List ℕ) (told : TellsAll G out 0 0 t left) (v : verdict (first_rules M P R) ≡ 0) where
    many : size signatures G ≡ length (open_pairs P) / 2
    many = ap (size signatures) first ∙ omega (arith, open_pairs-long P)

    -- 15: the pairs do not fit, and no word is written
    pub open_full : (f : Opened) → t ≡ None → f.refusal ≡ 15 → f.pairs ≡ 0 → Opens (extended_open M P R out) f left R
    open_full f b r p =
        let l = leb-false (size signatures G) ((length out - 0) / 2) (sym told.fits ∙ ap is_some b) in
        let e : verdict (open_rules M P R out) ≡ 15 = past v ∙ stop 15 [] (lt-ltb (room out) (length (open_pairs P) / 2) (omega (arith, many))) in
        rw (rw b at told.wrote) (opens-refused (open_rules M P R out) (open_pairs P) (opened P) R out (λ z. omega (arith, e, z)) f (r ∙ sym e) p)

    -- they fit: they are told, and the start state after its program is saved
    pub open_told : (f : Opened) (m : ℕ) → t ≡ Some m → f.refusal ≡ 0 → f.pairs ≡ m / 2 → (sv : List ℕ) → sv ≡ opened P → Opens (extended_open M P R out) f left sv
    unfolding open_pairs
    open_told f m b r p sv s =
        let l = leb-true (size signatures G) ((length out - 0) / 2) (sym told.fits ∙ ap is_some b) in
        let e : verdict (open_rules M P R out) ≡ 0 = past v ∙ last 15 (le-ltb (room out) (length (open_pairs P) / 2) (omega (arith, many))) in
        opens-told (open_rules M P R out) (open_pairs P) (opened P) R out e (omega (arith, open_pairs-long P, many)) f r
        (p ∙ (let q : m ≡ 0 + 2 * size signatures G = rw b at told.words in omega (arith, q, many))) left sv (rw (b, first) at told.wrote) s
