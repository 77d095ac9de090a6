-- Two feeds that answer and leave the same, where the rules give the same: one engine follows the other at the same costs and saves alike, or both halt at the first byte.
-- Two that only answer the same and leave the same words. Assumes nothing.
use Prim.Native.Nat.{ℕ, ◌+◌, ◌/◌}
use mathlib.Core.Path.{◌≡◌, refl, sym, ap, ◌∙◌}
use mathlib.Core.Bool.{Bool, true, ◌&&◌, cond}
use mathlib.Core.List.{List, [], ◌∷◌, ◌++◌}
use native.Mathlib.Decide.{ℕ_discrete}
use lib.ListN.{length, take, drop}
use lib.Dec.{ltb}
use Rattle.rules.specs.Rules.{Rule, verdict}
use Rattle.feed.specs.Engine.{Engine, Layout, ended, feed, run, costs, told, consumed, room}
use Rattle.feed.specs.Calls.{Bytes, Follows}
use Rattle.feed.proofs.Runs.{bytes_take}
use Rattle.feed.specs.Demands.{Answered}
use Rattle.feed.proofs.Moves.{feed-ends}
use Rattle.feed.proofs.Going.{unfed}
use Rattle.feed.proofs.Follows.{run-related, told_same, consumed-same, costs-same}

module _ {C D : Type 0} (E : Engine C) (G : Engine D) (K : Layout C) (H : Layout D) (R : List ℕ) where
  -- equal verdicts, equal fronts, equal ends
  same_end : (rules others : List Rule) → verdict rules ≡ verdict others → (piece out : List ℕ) (n : ℕ)
      → consumed E (K.config R) (room out) piece ≡ n → consumed G (H.config R) (room out) piece ≡ n
      → ended E K R (take n piece) (length piece) out ≡ ended G H R (take n piece) (length piece) out
      → feed rules E K R piece out ≡ feed others G H R piece out
  unfolding feed
  same_end rules others v piece out n e g q = rw (v, e, g, q)

  module _ (offset : K.offset R ≡ H.offset R) (rows : K.rows R ≡ H.rows R) (Rel : C → D → Type 0) (f : Follows E G Rel)
      (cost : (x : C) (y : D) → Rel x y → E.cost x ≡ G.cost y) (save : (x : C) (y : D) (k n : ℕ) → Rel x y → K.save x k n ≡ H.save y k n)
      (r : Rel (K.config R) (H.config R)) where
    ended_same : (front : List ℕ) (len : ℕ) (out : List ℕ) → Bytes front → ended E K R front len out ≡ ended G H R front len out
    unfolding ended
    ended_same front len out h =
        let z : Rel (run E (K.config R) front) (run G (H.config R) front) = run-related E G Rel f (K.config R) (H.config R) front r h in
        rw (
          f.goes (run E (K.config R) front) (run G (H.config R) front) z,
          told_same E G Rel f (K.config R) (H.config R) (K.offset R) front r h,
          costs-same E G Rel f G refl cost (K.config R) (H.config R) front r h,
          save (run E (K.config R) front) (run G (H.config R) front) (K.offset R + length front) (K.rows R + costs G (H.config R) front) z,
          offset,
          rows,
        )

    pub feed-same : (rules others : List Rule) → verdict rules ≡ verdict others → (piece out : List ℕ) → Bytes piece
        → feed rules E K R piece out ≡ feed others G H R piece out
    feed-same rules others v piece out h =
        let n = consumed G (H.config R) (room out) piece in
        same_end rules others v piece out n (consumed-same E G Rel f (K.config R) (H.config R) (room out) piece r h) refl
        (ended_same (take n piece) (length piece) out (bytes_take n piece h))

  module _ (offset : K.offset R ≡ H.offset R) (rows : K.rows R ≡ H.rows R) (e : E.halts (K.config R) ≡ true) (g : G.halts (H.config R) ≡ true)
      (save : (k n : ℕ) → K.save (K.config R) k n ≡ H.save (H.config R) k n) where
    none-consumed : {A : Type 0} (F : Engine A) (x : A) (m : ℕ) (cs : List ℕ) → F.halts x ≡ true → consumed F x m cs ≡ 0
    unfolding consumed
    none-consumed F x m [] q = refl
    none-consumed F x m (c ∷ cs) q = rw q

    ended-none : (len : ℕ) (out : List ℕ) → ended E K R [] len out ≡ ended G H R [] len out
    unfolding ended told run costs
    ended-none len out = rw (e, g, save (K.offset R + 0) (K.rows R + 0), offset, rows)

    pub feed-stuck : (rules others : List Rule) → verdict rules ≡ verdict others → (piece out : List ℕ)
        → feed rules E K R piece out ≡ feed others G H R piece out
    feed-stuck rules others v piece out =
        same_end rules others v piece out 0 (none-consumed E (K.config R) (room out) piece e) (none-consumed G (H.config R) (room out) piece g)
        (ended-none (length piece) out)

-- ---- on records that stand at one offset: the same answer and the same words, where one engine follows the other

module _ {C D : Type 0} (E : Engine C) (G : Engine D) (Rel : C → D → Type 0) (f : Follows E G Rel) (K : Layout C) (H : Layout D) (R Q : List ℕ)
    (rel : Rel (K.config R) (H.config Q)) (offset : K.offset R ≡ H.offset Q) (piece out : List ℕ) (hb : Bytes piece) where
  ended-answered : (front : List ℕ) → Bytes front → Answered (ended E K R front (length piece) out) (ended G H Q front (length piece) out)
  unfolding ended
  ended-answered front h =
      let t : told E (K.config R) (K.offset R) front ≡ told G (H.config Q) (H.offset Q) front =
      told_same E G Rel f (K.config R) (H.config Q) (K.offset R) front rel h ∙ ap (λ (k : ℕ). told G (H.config Q) k front) offset in
      record {
        refusal = ap (λ (b : Bool). cond (ltb (length front) (length piece) && b) 14 0) (f.goes (run E (K.config R) front) (run G (H.config Q) front) (run-related E G Rel f (K.config R) (H.config Q) front rel h));
        bytes = refl;
        pairs = ap (λ (ws : List ℕ). length ws / 2) t;
        all = refl;
        words = ap (λ (ws : List ℕ). ws ++ drop (length ws) out) t;
      }

  pub answered : (rules others : List Rule) → verdict rules ≡ verdict others → Answered (feed rules E K R piece out) (feed others G H Q piece out)
  answered rules others e =
      let n = consumed G (H.config Q) (room out) piece in
      elim (ℕ_discrete (verdict rules) 0) [
        | yes v ↦ rw (feed-ends E K R rules piece out v, feed-ends G H Q others piece out (sym e ∙ v), consumed-same E G Rel f (K.config R) (H.config Q) (room out) piece rel hb)
            (ended-answered (take n piece) (bytes_take n piece hb))
        | no v ↦ rw (unfed E K R piece out rules v, unfed G H Q piece out others (λ z. v (e ∙ z)))
            (record { refusal = e; bytes = refl; pairs = refl; all = refl; words = refl })
      ]
