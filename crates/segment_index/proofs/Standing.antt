-- The split that a segment by an index answers: after one look more, after all of them, and that it is few. Assumes nothing.
use Prim.Native.Nat.{ℕ, zero, suc, ◌*◌, ◌≤◌}
use mathlib.Core.Path.{◌≡◌, refl, ap, ◌∙◌}
use mathlib.Core.Bool.{Bool, true, false, cond}
use mathlib.Core.List.{List}
use lib.ListN.{length, drop}
use lib.Dec.{eqb}
use borrow.Author.Tests.{ne_eqb}
use Rattle.rules.specs.Rules.{verdict}
use Rattle.list_flow.specs.Flow.{offset_of}
use Rattle.table.specs.Table.{most_splits}
use Rattle.index.specs.Stand.{stood_at}
use Rattle.index.proofs.Lawful.{stood-few}
use Rattle.segment_feed.specs.Segment.{Sent, Kept, Look, due_of, looked, most_looks, door_rules, at_door}
use Rattle.segment_feed.specs.Noted.{noted_more, noted_after, noted_by}
use Rattle.segment_feed.proofs.Looking.{looked-off}
use Rattle.segment_index.specs.Standing.{stand_way, stood_more, stood_after, stood_by}

-- ---- one look more

-- no look follows
pub stood-off : (S X : List ℕ) (h : ℕ) (g : Sent) (l : Look) (n : ℕ) → l.on ≡ false → stood_more S X h g l n ≡ n
unfolding stood_more
stood-off S X h g l n e = rw e

-- ---- all of them

module _ (S X : List ℕ) (h : ℕ) (g : Sent) (K : Kept) (out : List ℕ) where
  -- it is the note that the looks leave, from the hint on
  pub stood-noted : noted_by (stand_way S X h) (stood_at S X h) g K out h ≡ stood_by S X h g K out
  unfolding noted_more noted_after stood_more stood_after
  stood-noted = go most_looks
    where
      d : Look
      d = at_door (stand_way S X h) g K out

      go : (i : ℕ) → noted_after (stand_way S X h) (stood_at S X h) g i d h ≡ stood_after i S X h g d
      go zero = refl
      go (suc i) = ap (stood_more S X h g (looked i (stand_way S X h) g d)) (go i)

  -- with a refusal at the door it is the hint
  pub door-stood : (verdict (door_rules (stand_way S X h) g K) ≡ 0 → ⊥) → stood_by S X h g K out ≡ h
  unfolding stood_after
  door-stood z = go most_looks
    where
      d : Look
      d = at_door (stand_way S X h) g K out

      go : (i : ℕ) → stood_after i S X h g d ≡ h
      go zero = refl
      go (suc i) =
          stood-off S X h g (looked i (stand_way S X h) g d) (stood_after i S X h g d) (ap (λ (l : Look). l.on) (looked-off i (stand_way S X h) g d (ne_eqb _ 0 z)) ∙ ne_eqb _ 0 z) ∙ go i

-- ---- it is the hint, or one of the splits, or their number

stood-more-few : (S X : List ℕ) (h : ℕ) (g : Sent) (l : Look) (n m : ℕ) → h ≤ m → most_splits ≤ m → n ≤ m → stood_more S X h g l n ≤ m
unfolding stood_more
stood-more-few S X h g l n m a b c = go l.on (eqb (length (due_of (stand_way S X h) g l.heard.kept)) 0)
  where
    fed : ℕ
    fed = stood_at S X h l.heard.kept.flow (offset_of l.heard.kept.flow) (due_of (stand_way S X h) g l.heard.kept) (drop (2 * l.heard.pairs) l.heard.words)

    go : (o z : Bool) → cond o (cond z n fed) n ≤ m
    go false z = c
    go true true = c
    go true false = stood-few S X h l.heard.kept.flow (offset_of l.heard.kept.flow) (due_of (stand_way S X h) g l.heard.kept) (drop (2 * l.heard.pairs) l.heard.words) m a b

pub stood-by-few : (S X : List ℕ) (h : ℕ) (g : Sent) (K : Kept) (out : List ℕ) (m : ℕ) → h ≤ m → most_splits ≤ m → stood_by S X h g K out ≤ m
unfolding stood_after
stood-by-few S X h g K out m a b = go most_looks
  where
    go : (i : ℕ) → stood_after i S X h g (at_door (stand_way S X h) g K out) ≤ m
    go zero = a
    go (suc i) = stood-more-few S X h g (looked i (stand_way S X h) g (at_door (stand_way S X h) g K out)) (stood_after i S X h g (at_door (stand_way S X h) g K out)) m a b (go i)
