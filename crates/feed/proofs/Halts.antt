-- A feed over any engine: which number it gives, when it gives 14 where its rules' numbers are below that, and what 14 leaves. Assumes nothing.
use Prim.Native.Nat.{ℕ, suc, ◌≤◌, ◌<◌}
use mathlib.Core.Path.{◌≡◌, refl, sym, ap, ◌∙◌}
use mathlib.Core.Bool.{Bool, true, false, ◌&&◌, cond}
use mathlib.Core.List.{List}
use mathlib.Core.Logic.{◌↔◌}
use native.Mathlib.Omega.{arith}
use native.Mathlib.Nat.{lt_of_not-le}
use native.Mathlib.Decide.{dec_lt}
use lib.ListN.{length, take}
use lib.Seq.{length-take-le, take-take}
use lib.Dec.{ltb}
use borrow.Author.Tests.{eq-eqb, ltb-true, lt-ltb, le-ltb, ne_eqb}
use Rattle.rules.specs.Rules.{Rule, verdict}
use Rattle.rules.proofs.Scanning.{both}
use Rattle.feed.specs.Engine.{Engine, Layout, Outcome, room, run, consumed, ended, feed}
use Rattle.feed.proofs.Runs.{consumed-most, consumed-again, consumed-free}
use Rattle.feed.proofs.Going.{unfed}
use Rattle.feed.proofs.Moves.{no-refusal}
use Rattle.feed.specs.Demands.{Halted}

module _ {C : Type 0} (E : Engine C) (K : Layout C) (R : List ℕ) (rules : List Rule) (piece out : List ℕ) where
  few : ℕ
  few = consumed E (K.config R) (room out) piece

  front : List ℕ
  front = take few piece

  -- it passes, and ends after its front; or a rule refuses it
  goes : verdict rules ≡ 0 → feed rules E K R piece out ≡ ended E K R front (length piece) out
  unfolding feed front few
  goes v = rw (eq-eqb (verdict rules) 0 v)

  front_long : length front ≡ few
  unfolding front few
  front_long = length-take-le few piece (consumed-most E (K.config R) (room out) piece)

  bytes-few : verdict rules ≡ 0 → (feed rules E K R piece out).bytes ≡ few
  unfolding ended
  bytes-few v = rw (goes v) front_long

  -- the refusal, where no rule refuses
  halting : Bool
  halting = ltb (length front) (length piece) && E.halts (run E (K.config R) front)

  ended-refusal : verdict rules ≡ 0 → (feed rules E K R piece out).refusal ≡ cond halting 14 0
  unfolding ended halting
  ended-refusal v = rw (goes v)

  pub refused-refusal : (verdict rules ≡ 0 → ⊥) → (feed rules E K R piece out).refusal ≡ verdict rules
  refused-refusal v = rw (unfed E K R piece out rules v)

  is-14 : (t : Bool) → ◌≡◌ {A = ℕ} (cond t 14 0) 14 → t ≡ true
  is-14 true e = refl
  is-14 false e = absurd (omega arith)

  decide : (P : Type 0) → (verdict rules ≡ 0 → P) → ((verdict rules ≡ 0 → ⊥) → P) → P
  decide P f g = elim (native.Mathlib.Decide.ℕ_discrete (verdict rules) 0) [ yes e ↦ f e | no n ↦ g n ]

  -- before a byte consumed nothing halts
  pub first-free : (j : ℕ) → j < (feed rules E K R piece out).bytes → E.halts (run E (K.config R) (take j piece)) ≡ false
  unfolding few
  first-free j h =
      decide (E.halts (run E (K.config R) (take j piece)) ≡ false) (λ v. consumed-free E (K.config R) (room out) piece j (rw (bytes-few v) at h))
      (λ v. absurd (omega (arith, ap (λ (o : Outcome). o.bytes) (unfed E K R piece out rules v), h)))

  -- a number but 0 and 14 is a rule's
  pub by-rule : (n : ℕ) → (n ≡ 0 → ⊥) → (n ≡ 14 → ⊥) → ((feed rules E K R piece out).refusal ≡ n) ↔ (verdict rules ≡ n)
  by-rule n z m = (
    λ e. decide (verdict rules ≡ n) (λ v. absurd (either halting (sym (ended-refusal v) ∙ e))) (λ v. sym (refused-refusal v) ∙ e),
    λ e. refused-refusal (λ v. z (sym e ∙ v)) ∙ e,
  )
    where
      either : (t : Bool) → ◌≡◌ {A = ℕ} (cond t 14 0) n → ⊥
      either true e = m (sym e)
      either false e = z (sym e)

  pub passed-14 : verdict rules < 14 → (feed rules E K R piece out).refusal ≡ 14 → verdict rules ≡ 0
  passed-14 low e =
      decide (verdict rules ≡ 0) (λ v. v) (λ v. absurd (omega (arith, low, sym (refused-refusal v) ∙ e)))

  halts-14 : verdict rules < 14 → (feed rules E K R piece out).refusal ≡ 14 → (few < length piece) × (E.halts (run E (K.config R) front) ≡ true)
  unfolding halting
  halts-14 low e =
      let h = both (ltb (length front) (length piece)) (E.halts (run E (K.config R) front)) (is-14 halting (sym (ended-refusal (passed-14 low e)) ∙ e)) in
      (rw front_long at (ltb-true (length front) (length piece) h.0), h.1)

  pub by-halt : verdict rules < 14 → ((feed rules E K R piece out).refusal ≡ 14)
      ↔ ((verdict rules ≡ 0) × ((feed rules E K R piece out).bytes < length piece)
      × (E.halts (run E (K.config R) (take (feed rules E K R piece out).bytes piece)) ≡ true))
  unfolding front halting
  by-halt low = (
    λ e. let v = passed-14 low e in rw (bytes-few v) (v, (halts-14 low e).0, (halts-14 low e).1),
    λ w. ended-refusal w.0 ∙ back (rw (bytes-few w.0) at w.1) (rw (bytes-few w.0) at w.2),
  )
    where
      back : few < length piece → E.halts (run E (K.config R) (take few piece)) ≡ true → ◌≡◌ {A = ℕ} (cond halting 14 0) 14
      back l s = rw (lt-ltb (length front) (length piece) (rw front_long l), s)

  -- no refusal: no rule applies, and where bytes are left what stands after those consumed does not halt
  pub by-none : ((feed rules E K R piece out).refusal ≡ 0)
      ↔ ((verdict rules ≡ 0)
      × ((feed rules E K R piece out).bytes < length piece → E.halts (run E (K.config R) (take (feed rules E K R piece out).bytes piece)) ≡ false))
  unfolding front halting
  by-none = (
    λ e. let v = no-refusal E K R rules piece out e in
        rw (bytes-few v) (v, λ l. there (E.halts (run E (K.config R) (take few piece))) (rw (lt-ltb (length front) (length piece) (rw front_long l)) at (sym (ended-refusal v) ∙ e))),
    λ w. ended-refusal w.0 ∙ back (dec_lt few (length piece)) (rw (bytes-few w.0) at w.1),
  )
    where
      there : (s : Bool) → ◌≡◌ {A = ℕ} (cond s 14 0) 0 → s ≡ false
      there true e = absurd (omega arith)
      there false e = refl

      back : Dec (few < length piece) → (few < length piece → E.halts (run E (K.config R) (take few piece)) ≡ false) → ◌≡◌ {A = ℕ} (cond halting 14 0) 0
      back (yes l) s = rw (lt-ltb (length front) (length piece) (rw front_long l), s l)
      back (no n) s = rw (le-ltb (length front) (length piece) (rw front_long (omega (arith, lt_of_not-le (λ (l : suc few ≤ length piece). n l)))))

-- 14 leaves what the bytes before it leave, where a front of the piece passes its rules as well
pub kept : {C : Type 0} (E : Engine C) (K : Layout C) (R : List ℕ) (rules others : List Rule) (piece out : List ℕ) → verdict rules < 14
    → (feed rules E K R piece out).refusal ≡ 14 → verdict others ≡ 0 → Halted (feed rules E K R piece out) (feed others E K R (take (feed rules E K R piece out).bytes piece) out)
unfolding front few ended
kept E K R rules others piece out low e w = so (feed rules E K R piece out).bytes (bytes-few E K R rules piece out (passed-14 E K R rules piece out low e))
  where
    so : (m : ℕ) → m ≡ few E K R rules piece out → Halted (feed rules E K R piece out) (feed others E K R (take m piece) out)
    so m q =
        let n = few E K R rules piece out in
        let again : take (consumed E (K.config R) (room out) (take n piece)) (take n piece) ≡ take n piece =
        ap (λ (m : ℕ). take m (take n piece)) (consumed-again E (K.config R) (room out) piece) ∙ take-take n n piece (omega arith) in
        let h = halts-14 E K R rules piece out low e in
        let short : length (take n piece) < length piece = rw (front_long E K R rules piece out) h.0 in
        rw (
          q,
          goes E K R rules piece out (passed-14 E K R rules piece out low e),
          goes E K R others (take n piece) out w,
          again,
          lt-ltb (length (take n piece)) (length piece) short,
          h.1,
          ne_eqb (length (take n piece)) (length piece) (λ y. omega (arith, short, y)),
        ) refl
