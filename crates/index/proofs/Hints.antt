-- The hint: where a call begins, and which states count as named, is the same for every hint where the splits are in order and the flags are right. Assumes nothing.
use Prim.Native.Nat.{ℕ, ◌<◌}
use mathlib.Core.Path.{◌≡◌, refl, sym, ap, ◌∙◌}
use mathlib.Core.Bool.{Bool, true, false, ◌&&◌, not, cond}
use mathlib.Core.List.{List}
use lib.Dec.{ltb, eqb}
use borrow.Author.Tests.{ltb-true, eqb-true, not-true}
use Rattle.sets.specs.Set.{within}
use Rattle.rules.specs.Scan.{every}
use Rattle.rules.specs.Rules.{verdict}
use Rattle.rules.proofs.Scanning.{both, every-all}
use Rattle.list.specs.Automaton.{named}
use Rattle.feed.specs.Calls.{Bytes}
use Rattle.feed.specs.Engine.{feed, ended}
use Rattle.list_flow.specs.Flow.{frontier_of}
use Rattle.table.specs.Table.{split_count, split_set, split_of, in_order}
use Rattle.table.proofs.Halving.{between-found}
use Rattle.index.specs.Entry.{entry_place, flag_at, known_in, bad_index}
use Rattle.index.specs.Stand.{sought_of, holds_at, began, named_by, stand_feed, stand_rules, stood_at}
use Rattle.index.specs.Right.{Naming, Right}
use Rattle.index.proofs.Halving.{sought-first}

-- what it says where it holds
pub holds-said : (S X : List ℕ) (h F : ℕ) → holds_at S X h F ≡ true → (bad_index S X ≡ false) × (h < split_count S) × (split_set S h ≡ F)
unfolding holds_at
holds-said S X h F e =
    let a = both (not (bad_index S X)) (ltb h (split_count S) && eqb (split_set S h) F) e in
    let b = both (ltb h (split_count S)) (eqb (split_set S h) F) a.1 in
    (not-true (bad_index S X) a.0, ltb-true h (split_count S) b.0, eqb-true (split_set S h) F b.1)

module _ (S : List ℕ) (s : Bytes S) (o : (i : ℕ) → i < split_count S → in_order S i ≡ true) where
  in-order : every (split_count S) (in_order S) ≡ true
  in-order = every-all (split_count S) (in_order S) o

  -- on splits in order a call begins at the first split with the set, whatever the hint
  pub began-first : (X : List ℕ) (h F : ℕ) → began S X h F ≡ split_of S F
  unfolding began
  began-first X h F = go (holds_at S X h F) refl
    where
      go : (t : Bool) → holds_at S X h F ≡ t → cond t h (sought_of S F) ≡ split_of S F
      go true e = let p = holds-said S X h F e in between-found S s in-order F h p.1 p.2
      go false e = sought-first S s in-order F

  pub began-same : (X : List ℕ) (h k F : ℕ) → began S X h F ≡ began S X k F
  began-same X h k F = began-first X h F ∙ sym (began-first X k F)

-- where the flags are right, the named states are the list's, whatever the hint
pub named-right : (L S X : List ℕ) → Naming L S X → (h F : ℕ) → named_by S X h F ≡ within F (named L)
unfolding named_by
named-right L S X n h F = go (holds_at S X h F) refl
  where
    go : (t : Bool) → holds_at S X h F ≡ t → cond t (not (eqb (flag_at X (entry_place h)) 0)) (known_in X F) ≡ within F (named L)
    go true e = let p = holds-said S X h F e in n.flags h p.1 ∙ ap (λ (G : ℕ). within G (named L)) p.2
    go false e = n.known F

-- so with a right index a call answers and leaves the same for every hint, and stands at the same split; where a rule refuses, it answers the hint
module _ (L S X : List ℕ) (r : Right L S X) (h k : ℕ) (R : List ℕ) (at : ℕ) (piece out : List ℕ) where
  begins-same : began S X h (frontier_of R) ≡ began S X k (frontier_of R)
  begins-same = began-same S r.bytes r.ordered X h k (frontier_of R)

  names_same : named_by S X h (frontier_of R) ≡ named_by S X k (frontier_of R)
  names_same = named-right L S X r.names h (frontier_of R) ∙ sym (named-right L S X r.names k (frontier_of R))

  pub feed-hints : stand_feed S X h R at piece out ≡ stand_feed S X k R at piece out
  unfolding feed ended
  feed-hints = rw (names_same, begins-same)

  pub stood-hints : verdict (stand_rules S X k R at piece) ≡ 0 → stood_at S X h R at piece out ≡ stood_at S X k R at piece out
  unfolding stood_at
  stood-hints v = rw (names_same, begins-same, v)
