-- The loop of any feed, byte by byte: what it keeps holds at its start, and after each byte consumed. Assumes nothing.
use Prim.Native.Nat.{ℕ, suc, ◌+◌, ◌*◌, ◌-◌, ◌/◌, ◌≤◌, ◌<◌}
use mathlib.Core.Path.{◌≡◌, refl, sym, ap, ◌∙◌}
use mathlib.Core.Bool.{Bool, true, false, ◌&&◌, ◌||◌, cond}
use mathlib.Core.List.{List, [], ◌∷◌, ◌++◌, append_assoc, append-nil}
use mathlib.Core.Logic.{◌⊎◌, inl, inr}
use native.Mathlib.Omega.{arith}
use lib.ListN.{length, get_or, take, drop, length-append, length-drop}
use lib.Seq.{take-suc, drop-cons, take_at, drop_at, drop-drop, drop-length, length-take-le}
use lib.Dec.{ltb, eqb}
use borrow.Author.Tests.{le-ltb, lt-ltb, eq-eqb, ne_eqb}
use Rattle.rules.specs.Rules.{Rule, verdict}
use Rattle.feed.specs.Engine.{Engine, Layout, Outcome, room, refused, ended, feed, due, run, costs, pairs_at, told, amount, consumed}
use Rattle.feed.specs.inner.Going.{Going}
use Rattle.feed.proofs.Runs.{run-append, costs-append, told-append, told-length, pairs_at-length}

-- ---- one byte

module _ {C : Type 0} (E : Engine C) where
  byte_step : (x : C) (m c : ℕ) (cs : List ℕ) → E.halts x ≡ false → length (due E x c) ≤ m
      → consumed E x m (c ∷ cs) ≡ suc (consumed E (E.next x c) (m - length (due E x c)) cs)
  unfolding consumed
  byte_step x m c cs h l = rw (h, le-ltb m (length (due E x c)) l)

  byte-stop : (x : C) (m c : ℕ) (cs : List ℕ) → (E.halts x ≡ true) ⊎ (m < length (due E x c)) → consumed E x m (c ∷ cs) ≡ 0
  unfolding consumed
  byte-stop x m c cs (inl h) = rw h
  byte-stop x m c cs (inr h) = go (E.halts x)
    where
      go : (b : Bool) → cond (b || ltb m (length (due E x c))) 0 (suc (consumed E (E.next x c) (m - length (due E x c)) cs)) ≡ 0
      go true = refl
      go false = rw (lt-ltb m (length (due E x c)) h)

  one_told : (x : C) (k c : ℕ) → told E x k (c ∷ []) ≡ pairs_at (k + 1) (due E x c)
  unfolding told
  one_told x k c = append-nil (pairs_at (k + 1) (due E x c))

  one-run : (x : C) (c : ℕ) → run E x (c ∷ []) ≡ E.next x c
  unfolding run
  one-run x c = refl

  one-cost : (x : C) (c : ℕ) → costs E x (c ∷ []) ≡ E.cost x
  unfolding costs
  one-cost x c = omega arith

-- ---- the loop, from configuration x₀ at offset k₀ over a piece, with the words out₀ at its start

module _ {C : Type 0} (E : Engine C) (x₀ : C) (k₀ : ℕ) (piece out₀ : List ℕ) where
  -- before the first byte
  pub start : Going E x₀ k₀ piece out₀ x₀ out₀ 0 0 0
  unfolding run costs told
  start =
      let z : room out₀ - 0 ≡ room out₀ = omega arith in
      record { short = omega arith; config = refl; spent = refl; words = refl; wrote = refl; fits = omega arith; cut = rw z (omega arith) }

module _ {C : Type 0} {E : Engine C} {x₀ : C} {k₀ : ℕ} {piece out₀ : List ℕ} {x : C} {out : List ℕ} {i w n : ℕ} (g : Going E x₀ k₀ piece out₀ x out i w n) where
  -- whole pairs are written
  pub words-even : w ≡ 2 * (w / 2)
  words-even = let e : w ≡ 2 * amount E x₀ (take i piece) = g.words ∙ told-length E x₀ k₀ (take i piece) in omega arith

  -- the words stay as many
  pub length-kept : length out ≡ length out₀
  length-kept =
      let e = words-even in
      ap (λ (ws : List ℕ). length ws) g.wrote ∙ length-append (told E x₀ k₀ (take i piece)) (drop w out₀)
      ∙ simp length-drop (omega (arith, g.words, g.fits))

  -- a byte is consumed: its pairs are written after the words
  pub more : i < length piece → E.halts x ≡ false → length (due E x (get_or piece i 0)) ≤ room out₀ - w / 2
      → Going E x₀ k₀ piece out₀ (E.next x (get_or piece i 0)) (take w out ++ (pairs_at (k₀ + i + 1) (due E x (get_or piece i 0)) ++ drop (w + 2 * length (due E x (get_or piece i 0))) out))
      (suc i) (w + 2 * length (due E x (get_or piece i 0))) (n + E.cost x)
  more l h f =
      let c = get_or piece i 0 in
      let d = length (due E x (get_or piece i 0)) in
      let ts : take (suc i) piece ≡ take i piece ++ (get_or piece i 0 ∷ []) = take-suc piece i 0 l in
      let li : length (take i piece) ≡ i = length-take-le i piece g.short in
      let t : told E x₀ k₀ (take (suc i) piece) ≡ told E x₀ k₀ (take i piece) ++ pairs_at (k₀ + i + 1) (due E x (get_or piece i 0)) =
      ap (told E x₀ k₀) ts ∙ told-append E x₀ k₀ (take i piece) (c ∷ [])
      ∙ ap (λ (ws : List ℕ). told E x₀ k₀ (take i piece) ++ ws)
      (ap (λ (y : C). told E y (k₀ + length (take i piece)) (c ∷ [])) (sym g.config) ∙ one_told E x (k₀ + length (take i piece)) c
      ∙ ap (λ (j : ℕ). pairs_at (k₀ + j + 1) (due E x c)) li) in
      let ev = words-even in
      record {
        short = omega arith;
        config = sym (ap (run E x₀) ts ∙ run-append E x₀ (take i piece) (c ∷ []) ∙ ap (λ (y : C). run E y (c ∷ [])) (sym g.config) ∙ one-run E x c);
        spent = sym (ap (costs E x₀) ts ∙ costs-append E x₀ (take i piece) (c ∷ []) ∙ rw (sym g.config, sym g.spent, one-cost E x c));
        words = sym (ap (λ (ws : List ℕ). length ws) t ∙ rw (length-append, pairs_at-length, sym g.words));
        wrote = wrote-more (told E x₀ k₀ (take i piece)) (pairs_at (k₀ + i + 1) (due E x (get_or piece i 0))) (2 * d) g.words g.wrote ∙ ap (λ (ws : List ℕ). ws ++ drop (w + 2 * d) out₀) (sym t);
        fits = omega arith;
        cut = g.cut ∙ ap (λ (cs : List ℕ). i + consumed E x (room out₀ - w / 2) cs) (drop-cons piece i 0 l)
            ∙ ap (λ (m : ℕ). i + m) (byte_step E x (room out₀ - w / 2) c (drop (suc i) piece) h f) ∙ room-more d (consumed E (E.next x c)) (drop (suc i) piece);
      }
    where
      wrote-more : (ws ps : List ℕ) (d : ℕ) → w ≡ length ws → out ≡ ws ++ drop w out₀
          → take w out ++ (ps ++ drop (w + d) out) ≡ (ws ++ ps) ++ drop (w + d) out₀
      wrote-more ws ps d e q =
          let a : take w out ≡ ws = ap (take w) q ∙ take_at ws (drop w out₀) w (sym e) in
          let b : drop w out ≡ drop w out₀ = ap (drop w) q ∙ drop_at ws (drop w out₀) w (sym e) in
          let c : drop (w + d) out ≡ drop (w + d) out₀ = sym (drop-drop d w out) ∙ ap (drop d) b ∙ drop-drop d w out₀ in
          rw (a, c) (sym (append_assoc ws ps (drop (w + d) out₀)))

      room-more : (d : ℕ) (f : ℕ → List ℕ → ℕ) (cs : List ℕ) → i + suc (f (room out₀ - w / 2 - d) cs) ≡ suc i + f (room out₀ - (w + 2 * d) / 2) cs
      room-more d f cs =
          let e : room out₀ - (w + 2 * d) / 2 ≡ room out₀ - w / 2 - d = omega arith in
          rw e (omega arith)

  -- the loop ends at a byte that halts or has no room
  pub stop : i < length piece → (E.halts x ≡ true) ⊎ (room out₀ - w / 2 < length (due E x (get_or piece i 0))) → consumed E x₀ (room out₀) piece ≡ i
  stop l h =
      g.cut ∙ ap (λ (cs : List ℕ). i + consumed E x (room out₀ - w / 2) cs) (drop-cons piece i 0 l)
      ∙ ap (λ (m : ℕ). i + m) (byte-stop E x (room out₀ - w / 2) (get_or piece i 0) (drop (suc i) piece) h) ∙ omega arith

  -- or at the end of the piece
  pub finish : i ≡ length piece → consumed E x₀ (room out₀) piece ≡ i
  unfolding consumed
  finish e =
      g.cut ∙ ap (λ (cs : List ℕ). i + consumed E x (room out₀ - w / 2) cs) (ap (λ (j : ℕ). drop j piece) e ∙ drop-length piece) ∙ omega arith

-- ---- its exit

-- what a feed of a piece of `len` bytes answers and leaves, if the loop ends so
abbrev pub loop_end : {C : Type 0} → Engine C → Layout C → List ℕ → ℕ → C → List ℕ → ℕ → ℕ → ℕ → Outcome
loop_end E K R len x out i w n =
    record {
      refusal = cond (ltb i len && E.halts x) 14 0;
      bytes = i;
      pairs = w / 2;
      all = eqb i len;
      words = out;
      saved = K.save x (K.offset R + i) (K.rows R + n);
    }

module _ {C : Type 0} (E : Engine C) (K : Layout C) (R piece out₀ : List ℕ) (x : C) (out : List ℕ) (i w n : ℕ)
    (g : Going E (K.config R) (K.offset R) piece out₀ x out i w n) where
  -- what the loop holds is what the front of i bytes leaves
  pub outcome : ended E K R (take i piece) (length piece) out₀ ≡ loop_end E K R (length piece) x out i w n
  unfolding ended
  outcome = rw (length-take-le i piece g.short, ← g.config, ← g.words, ← g.wrote, ← g.spent)

  -- so, where no rule refuses and the loop stops where the definition does, it is the feed
  pub fed : (rules : List Rule) → verdict rules ≡ 0 → consumed E (K.config R) (room out₀) piece ≡ i
      → feed rules E K R piece out₀ ≡ loop_end E K R (length piece) x out i w n
  unfolding feed
  fed rules v e = rw (eq-eqb (verdict rules) 0 v, e) outcome

-- a rule refuses: no loop
pub unfed : {C : Type 0} (E : Engine C) (K : Layout C) (R piece out : List ℕ) (rules : List Rule) → (verdict rules ≡ 0 → ⊥)
    → feed rules E K R piece out ≡ refused (verdict rules) R out
unfolding feed
unfed E K R piece out rules v = rw (ne_eqb (verdict rules) 0 v)
