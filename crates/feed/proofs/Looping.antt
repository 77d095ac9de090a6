-- What the code of any feed cites: a turn of its loop with the words that `tell` leaves, its two exits, and the answer. Assumes nothing.
use Prim.Native.Nat.{ℕ, ◌+◌, ◌*◌, ◌-◌, ◌/◌, ◌≤◌, ◌<◌}
use mathlib.Core.Path.{◌≡◌, refl, sym, ap, ◌∙◌}
use mathlib.Core.Bool.{Bool, true, false, ◌&&◌, cond}
use mathlib.Core.List.{List, ◌++◌, append_assoc}
use mathlib.Core.Logic.{inr}
use native.Mathlib.Omega.{arith}
use native.Mathlib.Numerals.{add-one}
use lib.ListN.{length, get_or, take, drop}
use lib.Seq.{length-take-le}
use lib.Dec.{ltb, eqb}
use borrow.Author.Tests.{lt-ltb, le-ltb}
use Rattle.numbers.specs.Number.{placed}
use Rattle.sets.specs.Set.{signatures, size, members}
use Rattle.sets.proofs.Members.{members-size}
use Rattle.rules.proofs.Scanning.{and-false}
use Rattle.rules.specs.Rules.{Rule, verdict}
use Rattle.feed.specs.declared.Fed.{Fed}
use Rattle.feed.specs.Engine.{Engine, Layout, room, feed, due, pairs_at, consumed}
use Rattle.feed.specs.Calls.{Bytes}
use Rattle.feed.specs.inner.Tells.{Unfed}
use Rattle.feed.specs.Fed.{Answers}
use Rattle.feed.proofs.Runs.{pairs_at-length, costs-most, bytes_take}
use Rattle.feed.specs.inner.Going.{Going}
use Rattle.feed.proofs.Going.{words-even, length-kept, more, stop, fed, unfed}
use Rattle.numbers.proofs.Placing.{placed-fits}

module _ {C : Type 0} {E : Engine C} {x₀ : C} {k₀ : ℕ} {piece out₀ : List ℕ} {x : C} {out : List ℕ} {i w n : ℕ} (g : Going E x₀ k₀ piece out₀ x out i w n) where
  -- the words written are among the words that are there
  pub words-fit : w ≤ length out
  words-fit = omega (arith, words-even g, length-kept g, g.fits)

  -- at most b rows for each byte, where no configuration costs more
  pub rows-most : (b : ℕ) → ((y : C) → E.cost y ≤ b) → Bytes piece → n ≤ b * i
  rows-most b cheap h =
      let e : b * length (take i piece) ≡ b * i = ap (λ (m : ℕ). b * m) (length-take-le i piece g.short) in
      omega (arith, g.spent, costs-most E (λ y. Unit {0}) (λ y c l p. tt) b (λ y p. cheap y) x₀ (take i piece) tt (bytes_take i piece h))

  -- at a byte whose alerts are the d members of D
  module _ (D d : ℕ) (l : i < length piece) (alerts : D ≡ E.alerts x (get_or piece i 0)) (amount : d ≡ size signatures D) where
    due-of : due E x (get_or piece i 0) ≡ members signatures D
    unfolding due
    due-of = ap (members signatures) (sym alerts)

    due-many : length (due E x (get_or piece i 0)) ≡ d
    due-many = ap (λ (gs : List ℕ). length gs) due-of ∙ members-size signatures D ∙ sym amount

    -- where they fit, the byte is consumed
    pub more_by : E.halts x ≡ false → d ≤ (length out - w) / 2 → (y : C) → y ≡ E.next x (get_or piece i 0)
        → (o : List ℕ) → o ≡ placed out w (pairs_at (k₀ + i + 1) (members signatures D)) → (r : ℕ) → r ≡ E.cost x
        → Going E x₀ k₀ piece out₀ y o (i + 1) (w + 2 * d) (n + r)
    more_by h f y ey o eo r er =
        let v = words-even g in
        let k = length-kept g in
        let m = more g l h (omega (arith, due-many)) in
        let ps = pairs_at (k₀ + i + 1) (members signatures D) in
        let q : length (pairs_at (k₀ + i + 1) (members signatures D)) ≡ 2 * d = omega (arith, pairs_at-length (k₀ + i + 1) (members signatures D), members-size signatures D) in
        let s : o ≡ take w out ++ (pairs_at (k₀ + i + 1) (due E x (get_or piece i 0)) ++ drop (w + 2 * length (due E x (get_or piece i 0))) out) =
        eo ∙ placed-fits out w ps (omega (arith, words-fit)) ∙ append_assoc (take w out) ps (drop (w + length ps) out) ∙ rw (q, due-of, ← due-many, due-of) in
        rw (ey, s, er, ← due-many, add-one i) m

    -- where they do not, the loop ends
    pub stop-by : (length out - w) / 2 < d → consumed E x₀ (room out₀) piece ≡ i
    stop-by f = stop g l (inr (omega (arith, due-many, words-even g, length-kept g)))

-- ---- the refusal where i of n bytes are consumed, and h says whether the next one halts

pub refused-halted : (i n : ℕ) (h : Bool) → i < n → h ≡ true → ◌≡◌ {A = ℕ} 14 (cond (ltb i n && h) 14 0)
refused-halted i n h l e = rw (lt-ltb i n l, e)

pub refused-free : (i n : ℕ) (h : Bool) → h ≡ false → ◌≡◌ {A = ℕ} 0 (cond (ltb i n && h) 14 0)
refused-free i n h e = rw (e, and-false (ltb i n))

pub refused-ended : (i n : ℕ) (h : Bool) → i ≡ n → ◌≡◌ {A = ℕ} 0 (cond (ltb i n && h) 14 0)
refused-ended i n h e = rw (le-ltb i n (omega arith))

-- ---- the answer

module _ {C : Type 0} (E : Engine C) (K : Layout C) (R piece out₀ : List ℕ) (rules : List Rule) (f : Fed) where
  -- the loop stops where the definition does, and what it leaves is answered and saved
  pub answers-fed : (x : C) (out : List ℕ) (i w n : ℕ) → Going E (K.config R) (K.offset R) piece out₀ x out i w n
      → verdict rules ≡ 0 → consumed E (K.config R) (room out₀) piece ≡ i
      → f.refusal ≡ cond (ltb i (length piece) && E.halts x) 14 0 → f.bytes ≡ i → f.pairs ≡ w / 2 → f.all ≡ eqb i (length piece)
      → (sv : List ℕ) → sv ≡ K.save x (K.offset R + i) (K.rows R + n)
      → Answers (feed rules E K R piece out₀) f out sv
  answers-fed x out i w n g v e refusal bytes pairs all sv saved =
      rw (fed E K R piece out₀ x out i w n g rules v e)
      (record { refusal = refusal; bytes = bytes; pairs = pairs; all = all; words = refl; saved = saved })

  -- a rule refuses: nothing is consumed, and nothing changes
  pub answers-refused : (verdict rules ≡ 0 → ⊥) → Unfed (verdict rules) f → Answers (feed rules E K R piece out₀) f out₀ R
  answers-refused v u =
      rw (unfed E K R piece out₀ rules v) (record { refusal = u.refusal; bytes = u.bytes; pairs = u.pairs; all = u.all; words = refl; saved = refl })
