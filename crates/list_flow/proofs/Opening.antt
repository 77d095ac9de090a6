-- Opening by the code: which rule refuses it, and that it tells and saves what the definition does; and the room that always suffices. Assumes nothing.
use Prim.Native.Nat.{ℕ, ◌+◌, ◌*◌, ◌-◌, ◌/◌, ◌≤◌}
use mathlib.Core.Path.{◌≡◌, refl, sym, ap, ◌∙◌}
use mathlib.Core.Bool.{cond}
use mathlib.Core.List.{List, [], ◌∷◌}
use native.Mathlib.Omega.{arith}
use lib.ListN.{length}
use lib.Dec.{eqb}
use borrow.Author.Tests.{eqb-true, eq-eqb, not-false, lt-ltb, le-ltb, ltb-false, leb-true, leb-false}
use Rattle.sets.specs.Set.{signatures, size, members}
use Rattle.sets.proofs.Members.{members-size, members-most}
use Rattle.list.specs.List.{list_rules}
use Rattle.list.specs.Automaton.{start, accepted}
use Rattle.rules.specs.Rules.{verdict}
use Rattle.rules.proofs.Rules.{stop, last, passes, passes-front, verdict-then, verdict-refused}
use Rattle.feed.specs.declared.Opened.{Opened}
use Rattle.feed.specs.Engine.{room}
use Rattle.feed.specs.Opening.{no_room, Opens}
use Rattle.feed.proofs.Runs.{pairs_at-length}
use Rattle.feed.proofs.Opening.{opening-refusal, opening-fits, opens-told, opens-refused}
use Rattle.std.specs.Prelude.{Option, Some, None, is_some}
use Rattle.feed.specs.inner.Told.{TellsAll}
use Rattle.list_flow.specs.Flow.{flow_size, flow_bytes, wrong_size}
use Rattle.list_flow.specs.Opening.{open_pairs, first_rules, open_rules, open_flow, opened}

-- ---- how many pairs

-- as many as there are signatures that the start set accepts, at most all
pub open_pairs-long : (L : List ℕ) → length (open_pairs L) ≡ 2 * size signatures (accepted L (start L))
unfolding open_pairs
open_pairs-long L = let G = accepted L (start L) in pairs_at-length 0 (members signatures G) ∙ ap (λ (n : ℕ). 2 * n) (members-size signatures G)

open_pairs-few : (L : List ℕ) → length (open_pairs L) / 2 ≤ signatures
open_pairs-few L = let G = accepted L (start L) in omega (arith, open_pairs-long L, members-size signatures G, members-most signatures G)

module _ (L R out : List ℕ) where
  -- ---- the rules

  -- past 1 to 4 the room decides
  past : verdict (first_rules L R) ≡ 0 → verdict (open_rules L R out) ≡ verdict ((15, no_room (open_pairs L) out) ∷ [])
  past v = verdict-then (first_rules L R) ((15, no_room (open_pairs L) out) ∷ []) refl v

  -- an opening that no rule refuses has the size of a record, and room for its pairs
  pub open-size : verdict (open_rules L R out) ≡ 0 → length R ≡ flow_size
  open-size v =
      let s = passes-front (first_rules L R) ((15, no_room (open_pairs L) out) ∷ []) v in
      let w = verdict-then (list_rules L) ((4, wrong_size R) ∷ []) refl (passes-front (list_rules L) ((4, wrong_size R) ∷ []) s) in
      eqb-true (length R) flow_size (not-false (eqb (length R) flow_size) (passes 3 (wrong_size R) [] (sym w ∙ s)).0)

  pub open-fits : verdict (open_rules L R out) ≡ 0 → size signatures (accepted L (start L)) ≤ room out
  open-fits v =
      let s = passes-front (first_rules L R) ((15, no_room (open_pairs L) out) ∷ []) v in
      let l = ltb-false (room out) (length (open_pairs L) / 2) (passes 14 (no_room (open_pairs L) out) [] (sym (past s) ∙ v)).0 in
      omega (arith, open_pairs-long L)

  -- the pairs that it tells fit the room
  pub opened-fits : (open_flow L R out).pairs ≤ room out
  opened-fits = opening-fits (open_rules L R out) (open_pairs L) (opened L) R out (size signatures (accepted L (start L))) (open_pairs-long L) open-fits

  -- with room for all signatures the room refuses nothing: 1 to 4 decide
  pub room-suffices : signatures ≤ room out → (open_flow L R out).refusal ≡ verdict (first_rules L R)
  room-suffices h =
      opening-refusal (open_rules L R out) (open_pairs L) (opened L) R out
      ∙ elim (native.Mathlib.Decide.ℕ_discrete (verdict (first_rules L R)) 0) [
        | yes v ↦ past v ∙ last 15 (le-ltb (room out) (length (open_pairs L) / 2) (omega (arith, open_pairs-few L))) ∙ sym v
        | no v ↦ verdict-refused (first_rules L R) ((15, no_room (open_pairs L) out) ∷ []) v
      ]

  -- ---- what the code answers

  -- 1 to 4
  pub open-refused : (f : Opened) → f.refusal ≡ verdict (first_rules L R) → (verdict (first_rules L R) ≡ 0 → ⊥) → f.pairs ≡ 0 → Opens (open_flow L R out) f out R
  open-refused f n v p =
      let e = verdict-refused (first_rules L R) ((15, no_room (open_pairs L) out) ∷ []) v in
      opens-refused (open_rules L R out) (open_pairs L) (opened L) R out (λ z. v (sym e ∙ z)) f (n ∙ sym e) p

  module _ (F : ℕ) (first : F ≡ start L) (t : Option ℕ) (left : List ℕ) (told : TellsAll (accepted L F) out 0 0 t left) (v : verdict (first_rules L R) ≡ 0) where
    many : size signatures (accepted L F) ≡ length (open_pairs L) / 2
    many = rw first (omega (arith, open_pairs-long L))

    -- 15: the pairs do not fit, and no word is written
    pub open_full : (f : Opened) → t ≡ None → f.refusal ≡ 15 → f.pairs ≡ 0 → Opens (open_flow L R out) f left R
    open_full f b n p =
        let l = leb-false (size signatures (accepted L F)) ((length out - 0) / 2) (sym told.fits ∙ ap is_some b) in
        let e : verdict (open_rules L R out) ≡ 15 = past v ∙ stop 15 [] (lt-ltb (room out) (length (open_pairs L) / 2) (omega (arith, many))) in
        rw (rw b at told.wrote) (opens-refused (open_rules L R out) (open_pairs L) (opened L) R out (λ z. omega (arith, e, z)) f (n ∙ sym e) p)

    -- they fit: they are told, and the start states are saved
    pub open_told : (f : Opened) (m : ℕ) → t ≡ Some m → f.refusal ≡ 0 → f.pairs ≡ m / 2
        → (sv : List ℕ) → sv ≡ cond (eqb (length R) flow_size) (flow_bytes F 0 0) R → Opens (open_flow L R out) f left sv
    unfolding open_pairs
    open_told f m b n p sv s =
        let l = leb-true (size signatures (accepted L F)) ((length out - 0) / 2) (sym told.fits ∙ ap is_some b) in
        let e : verdict (open_rules L R out) ≡ 0 = past v ∙ last 15 (le-ltb (room out) (length (open_pairs L) / 2) (omega (arith, many))) in
        opens-told (open_rules L R out) (open_pairs L) (opened L) R out e (omega (arith, open_pairs-long L, many)) f n
        (p ∙ (let q : m ≡ 0 + 2 * size signatures (accepted L F) = rw b at told.words in omega (arith, q, many))) left sv (rw (b, first) at told.wrote) (s ∙ rw (eq-eqb (length R) flow_size (open-size e), first))
