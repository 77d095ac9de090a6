-- Opening a flow: its two outcomes, what the code cites of them, and the pairs of a flow from its opening on. Assumes nothing.
use Prim.Native.Nat.{ℕ, suc, ◌+◌, ◌*◌, ◌/◌, ◌≤◌, ◌<◌}
use mathlib.Core.Path.{◌≡◌, refl, sym, ap, ◌∙◌}
use mathlib.Core.Bool.{true}
use mathlib.Core.List.{List, [], ◌∷◌, ◌++◌}
use mathlib.Core.Logic.{◌⊎◌, inl, inr, ◌↔◌}
use native.Mathlib.Omega.{arith}
use native.Mathlib.Decide.{ℕ_discrete}
use native.Mathlib.Nat.{zero-add}
use lib.ListN.{length, get_or, take, drop}
use lib.Seq.{take_at}
use borrow.Author.Tests.{eq-eqb, ne_eqb, le-ltb, ltb-false}
use Rattle.numbers.specs.Number.{placed}
use Rattle.sets.specs.Set.{signatures, members, holds}
use Rattle.sets.proofs.Members.{members-at, members-all, members-rise}
use Rattle.numbers.proofs.Placing.{placed-fits}
use Rattle.rules.specs.Rules.{Rule, verdict}
use Rattle.rules.proofs.Scanning.{choose}
use Rattle.rules.proofs.Rules as rules
use Rattle.rules.proofs.Rules.{distinct, refuses, last, passes-front, verdict-then, verdict-refused}
use Rattle.feed.specs.declared.Opened.{Opened}
use Rattle.feed.specs.Pairs.{Pair, Before}
use Rattle.feed.specs.Engine.{Engine, room, run, pairs_at, told}
use Rattle.feed.specs.Opening.{Opening, no_room, opening, Opens}
use Rattle.feed.specs.Demands.{OneOpening, Due}
use Rattle.feed.proofs.Runs.{pairs_at-length}
use Rattle.feed.proofs.Moves.{behind-stay, behind-many}
use Rattle.feed.proofs.Due.{pairs_at-offset, pairs_at-exactly, pairs_at-ordered, pair-append, before-append, told-exactly, told-ordered, told-beyond}

module _ (rules : List Rule) (ws Q R out : List ℕ) where
  -- no rule applies, or one does
  pub opens : verdict rules ≡ 0 → opening rules ws Q R out ≡ record { refusal = 0; pairs = length ws / 2; words = ws ++ drop (length ws) out; saved = Q }
  unfolding opening
  opens v = rw (eq-eqb (verdict rules) 0 v)

  pub unopened : (verdict rules ≡ 0 → ⊥) → opening rules ws Q R out ≡ record { refusal = verdict rules; pairs = 0; words = out; saved = R }
  unfolding opening
  unopened v = rw (ne_eqb (verdict rules) 0 v)

  -- it refuses by its rules alone
  pub opening-refusal : (opening rules ws Q R out).refusal ≡ verdict rules
  opening-refusal = elim (ℕ_discrete (verdict rules) 0) [ yes v ↦ rw (opens v) (sym v) | no v ↦ rw (unopened v) ]

  -- ---- what the code answers

  -- the words are told and the record is saved
  pub opens-told : verdict rules ≡ 0 → length ws ≤ length out → (f : Opened) → f.refusal ≡ 0 → f.pairs ≡ length ws / 2
      → (vs sv : List ℕ) → vs ≡ placed out 0 ws → sv ≡ Q → Opens (opening rules ws Q R out) f vs sv
  opens-told v l f n p vs sv e s = rw (opens v) (record { refusal = n; pairs = p; words = e ∙ placed-fits out 0 ws (omega arith) ∙ rw (zero-add (length ws)); saved = s })

  -- or a rule refuses
  pub opens-refused : (verdict rules ≡ 0 → ⊥) → (f : Opened) → f.refusal ≡ verdict rules → f.pairs ≡ 0 → Opens (opening rules ws Q R out) f out R
  opens-refused v f n p = rw (unopened v) (record { refusal = n; pairs = p; words = refl; saved = refl })

  -- ---- the words, where those of m pairs are told

  module _ (m : ℕ) (even : length ws ≡ 2 * m) where
    -- the pairs told are those
    pub opening-tells : verdict rules ≡ 0 → take (2 * (opening rules ws Q R out).pairs) (opening rules ws Q R out).words ≡ ws
    opening-tells v = rw (opens v) (take_at ws (drop (length ws) out) (2 * (length ws / 2)) (omega arith))

    -- the words from the pairs on stay, an odd last word too; there are as many; the pairs fit
    pub opening-rest : (i : ℕ) → 2 * (opening rules ws Q R out).pairs ≤ i → get_or (opening rules ws Q R out).words i 0 ≡ get_or out i 0
    opening-rest i l = elim (ℕ_discrete (verdict rules) 0) [ yes v ↦ rw (opens v) (behind-stay ws out m even i (rw (opens v) at l)) | no v ↦ rw (unopened v) ]

    module _ (fits : verdict rules ≡ 0 → m ≤ room out) where
      pub opening-length : length (opening rules ws Q R out).words ≡ length out
      opening-length = elim (ℕ_discrete (verdict rules) 0) [ yes v ↦ rw (opens v) (behind-many ws out m even (fits v)) | no v ↦ rw (unopened v) ]

      pub opening-fits : (opening rules ws Q R out).pairs ≤ room out
      opening-fits = elim (ℕ_discrete (verdict rules) 0) [ yes v ↦ rw (opens v) (omega (arith, fits v)) | no v ↦ rw (unopened v) (omega arith) ]

-- ---- rules, of which the room's comes last, and the words of m pairs, at most one for each signature

module _ (early : List Rule) (ws Q R out : List ℕ) (m : ℕ) (even : length ws ≡ 2 * m) (most : m ≤ signatures)
    (apart : distinct (early ++ ((15, no_room ws out) ∷ [])) ≡ true) (front : distinct early ≡ true) (other : verdict early ≡ 15 → ⊥) where
  abbrev all : List Rule
  all = early ++ ((15, no_room ws out) ∷ [])

  past : verdict early ≡ 0 → verdict (early ++ ((15, no_room ws out) ∷ [])) ≡ verdict ((15, no_room ws out) ∷ [])
  past v = verdict-then early ((15, no_room ws out) ∷ []) front v

  -- one that no rule refuses has room for its pairs
  has_room : verdict (early ++ ((15, no_room ws out) ∷ [])) ≡ 0 → m ≤ room out
  has_room v =
      let l = ltb-false (room out) (length ws / 2) (rules.passes 14 (no_room ws out) [] (sym (past (passes-front early ((15, no_room ws out) ∷ []) v)) ∙ v)).0 in
      omega (arith, even)

  -- with room for all signatures the rules before the room decide
  room-last : signatures ≤ room out → verdict (early ++ ((15, no_room ws out) ∷ [])) ≡ verdict early
  room-last h =
      elim (ℕ_discrete (verdict early) 0) [
        | yes v ↦ past v ∙ last 15 (le-ltb (room out) (length ws / 2) (omega (arith, even))) ∙ sym v
        | no v ↦ verdict-refused early ((15, no_room ws out) ∷ []) v
      ]

  pub one-opening : OneOpening early ws Q R out (opening (early ++ ((15, no_room ws out) ∷ [])) ws Q R out)
  one-opening =
      let e = opening-refusal all ws Q R out in
      record {
        refuses = rw e (refuses all apart);
        unchanged = λ v. rw (unopened all ws Q R out (λ z. v (e ∙ z))) refl;
        passes = λ z. let v = sym e ∙ z in (opening-tells all ws Q R out m even v, ap (λ (o : Opening). o.saved) (opens all ws Q R out v));
        words-stay = opening-rest all ws Q R out m even;
        words-many = opening-length all ws Q R out m even has_room;
        pairs-fit = omega (arith, opening-fits all ws Q R out m even has_room);
        room-suffices = λ h q. other (sym (room-last h) ∙ sym e ∙ q);
      }

-- ---- a flow from its opening on: the pairs of G's members at offset 0, then those of some bytes

module _ {C : Type 0} (E : Engine C) (x : C) (G : ℕ) (cs : List ℕ) where
  gs : List ℕ
  gs = members signatures G

  -- at offset 0 exactly the members of G
  begin-exactly : (g o : ℕ) → Pair (pairs_at 0 gs) g o ↔ ((o ≡ 0) × (g < signatures) × (holds G g ≡ true))
  unfolding gs
  begin-exactly g o =
      let e = pairs_at-exactly 0 gs g o in (
        λ p. let q = e.0 p in let m = rw q.1.2 at (members-at signatures G q.1.0 q.1.1) in (q.0, m.0, m.1),
        λ q. e.1 (q.0, members-all signatures G g q.1 q.2),
      )

  -- a pair stands there exactly when it is one of offset 0, or one of the bytes'
  pub flow-exactly : (g o : ℕ) → Pair (pairs_at 0 (members signatures G) ++ told E x 0 cs) g o
      ↔ (((o ≡ 0) × (g < signatures) × (holds G g ≡ true)) ⊎ Pair (told E x 0 cs) g o)
  unfolding gs
  flow-exactly g o =
      let a = pair-append (pairs_at 0 gs) (told E x 0 cs) (length gs) (pairs_at-length 0 gs) g o in
      let b = begin-exactly g o in
      (λ p. choose (a.0 p) (λ q. inl (b.0 q)) (λ q. inr q), λ s. a.1 (choose s (λ q. inl (b.1 q)) (λ q. inr q)))

  -- by offset and then by signature, both rising
  pub flow-ordered : (i j : ℕ) → i < j → 2 * j + 1 < length (pairs_at 0 (members signatures G) ++ told E x 0 cs)
      → Before (pairs_at 0 (members signatures G) ++ told E x 0 cs) i j
  unfolding gs
  flow-ordered =
      before-append (pairs_at 0 gs) (told E x 0 cs) (length gs) (pairs_at-length 0 gs)
      (pairs_at-ordered 0 gs (members-rise signatures G)) (told-ordered E x 0 cs)
      (λ i j a b. rw (pairs_at-offset 0 gs i (omega (arith, pairs_at-length 0 gs))) (told-beyond E x 0 cs j b))

  -- the same by the bytes
  flow-due : (g k : ℕ) → Pair (pairs_at 0 (members signatures G) ++ told E x 0 cs) g k
      ↔ (((k ≡ 0) × (g < signatures) × (holds G g ≡ true))
      ⊎ ((n : ℕ) × (n < length cs) × (k ≡ suc n) × (g < signatures) × (holds (E.alerts (run E x (take n cs)) (get_or cs n 0)) g ≡ true)))
  flow-due g k =
      let e = flow-exactly g k in
      let t = told-exactly E x 0 cs g k in (
        λ p. choose (e.0 p) (λ a. inl a) (λ b. inr (let w = t.0 b in (w.0, w.1, w.2 ∙ zero-add (suc w.0), w.3, w.4))),
        λ s. e.1 (choose s (λ a. inl a) (λ w. inr (t.1 (w.0, w.1, w.2 ∙ sym (zero-add (suc w.0)), w.3, w.4)))),
      )

  pub due_all : (ws : List ℕ) → ws ≡ told E x 0 cs → Due E x G cs (pairs_at 0 (members signatures G) ++ ws)
  due_all ws e = rw e (record { tells = refl; due = flow-due; ordered = flow-ordered })
