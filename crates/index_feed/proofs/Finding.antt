-- Whether the lists of a call are good, where the split that is handed in is there: by the number of splits; and the verdict of a call, by whether its hint holds. Assumes nothing.
use Prim.Native.Nat.{ℕ, ◌+◌, ◌*◌, ◌%◌, ◌≤◌, ◌<◌}
use mathlib.Core.Path.{◌≡◌, refl, sym}
use mathlib.Core.Bool.{Bool, true, false, ◌&&◌, ◌||◌, not, true≢false}
use mathlib.Core.List.{List, [], ◌∷◌, ◌++◌}
use native.Mathlib.Omega.{arith}
use lib.ListN.{length}
use lib.Dec.{ltb, eqb}
use borrow.Author.Tests.{ne_eqb, eq-eqb, lt-ltb, le-ltb}
use Rattle.rules.specs.Rules.{verdict}
use Rattle.rules.proofs.Rules.{last, verdict-front}
use Rattle.rules.proofs.Scanning.{or-true}
use Rattle.list_flow.specs.Flow.{frontier_of, flow_rules}
use Rattle.table.specs.Table.{most_splits, split_size, split_count, bad_count}
use Rattle.index.specs.Entry.{entry_size, entry_place, telling, flag_at, known_in, bad_index}
use Rattle.index.specs.Stand.{holds_at, named_by, stand_rules}
use Rattle.index.proofs.Sizes.{lists-said, short}
use Rattle.index.proofs.Hints.{holds-said}

twice : (b : Bool) → not (not b) ≡ b
twice true = refl
twice false = refl

-- of two tests that hold or not, and a third
pub both-off : (a b c : Bool) → (a && b) ≡ false → (b && (a && c)) ≡ false
both-off true true c e = absurd (true≢false e)
both-off true false c e = refl
both-off false true c e = refl
both-off false false c e = refl

pub both-on : (a b c : Bool) → (a && b) ≡ true → (b && (a && c)) ≡ c
both-on true true c e = refl
both-on true false c e = absurd (true≢false (sym e))
both-on false b c e = absurd (true≢false (sym e))

module _ (S X : List ℕ) where
  -- too many splits, or bytes behind the last one
  pub bad-many : most_splits < split_count S → bad_index S X ≡ true
  unfolding bad_index bad_count
  bad-many l = rw (ne_eqb (length S) 0 (λ z. omega (arith, z, l)), lt-ltb (split_size * most_splits) (length S) (omega (arith, l)))

  pub bad-rest : (split_size * split_count S ≡ length S → ⊥) → bad_index S X ≡ true
  unfolding bad_index bad_count
  bad-rest n =
      rw (ne_eqb (length S % split_size) 0 (λ z. n (omega (arith, z))), or-true (eqb (length S) 0 || ltb (split_size * most_splits) (length S)))

  -- else the length of the index decides
  pub bad-else : 0 < split_count S → split_count S ≤ most_splits → split_size * split_count S ≡ length S → not (bad_index S X) ≡ eqb (length X) (entry_place (split_count S))
  unfolding bad_index bad_count
  bad-else l m e =
      rw (ne_eqb (length S) 0 (λ z. omega (arith, z, l)), le-ltb (split_size * most_splits) (length S) (omega (arith, m, e)), eq-eqb (length S % split_size) 0 (omega (arith, e)))
      (twice (eqb (length X) (entry_place (split_count S))))

  -- where the hint holds, its entry is whole
  pub entry_whole : (h F : ℕ) → holds_at S X h F ≡ true → (entry_place h + entry_size ≤ length X) × (length X < telling)
  entry_whole h F e =
      let p = holds-said S X h F e in
      let g = lists-said S X p.0 in
      (omega (arith, p.1, g.long), short S X g)

-- the verdict of a call: where the hint holds the lists are good, so that 8 does not refuse it; else the states are sought in the set that the index begins with
module _ (S X : List ℕ) (h : ℕ) (R : List ℕ) (at : ℕ) (piece : List ℕ) where
  pub held-rules : holds_at S X h (frontier_of R) ≡ true → verdict (flow_rules (not (eqb (flag_at X (entry_place h)) 0)) R at piece) ≡ verdict (stand_rules S X h R at piece)
  unfolding named_by
  held-rules e = rw e (sym (verdict-front (flow_rules (not (eqb (flag_at X (entry_place h)) 0)) R at piece) ((8, bad_index S X) ∷ []) refl (last 8 (holds-said S X h (frontier_of R) e).0)))

  pub sought-rules : holds_at S X h (frontier_of R) ≡ false → verdict (flow_rules (known_in X (frontier_of R)) R at piece ++ ((8, bad_index S X) ∷ [])) ≡ verdict (stand_rules S X h R at piece)
  unfolding named_by
  sought-rules e = rw e
