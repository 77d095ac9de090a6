-- Sizes: what rule 8 says of the lists where it does not refuse, and where the entry of a split stands. Assumes nothing.
use Prim.Native.Nat.{ℕ, ◌-◌, ◌/◌, ◌≤◌, ◌<◌}
use mathlib.Core.Path.{◌≡◌, refl}
use mathlib.Core.Bool.{Bool, true, false, cond}
use mathlib.Core.List.{List}
use native.Mathlib.Omega.{arith}
use lib.ListN.{length}
use lib.Dec.{eqb, ltb}
use borrow.Author.Tests.{eqb-true, not-false, lt-ltb, le-ltb, ltb-true}
use Rattle.sets.specs.Set.{set_size}
use Rattle.rules.proofs.Scanning.{neither}
use Rattle.table.specs.Table.{most_splits, split_size, split_count, bad_count}
use Rattle.table.proofs.Verdict.{count_fits}
use Rattle.index.specs.Entry.{entry_size, entry_place, telling, limit, split_at, wrong_index, bad_index}

pub few-splits : (S : List ℕ) → bad_count split_size most_splits S ≡ false → split_count S ≤ most_splits
few-splits S e = omega (arith, count_fits split_size most_splits S e)

-- what rule 8 says where it does not refuse
pub record Lists-good (S X : List ℕ) : Type 0 where
  pub few : split_count S ≤ most_splits
  pub long : length X ≡ entry_place (split_count S)

pub lists-said : (S X : List ℕ) → bad_index S X ≡ false → Lists-good S X
unfolding bad_index
lists-said S X e =
    let r = neither (bad_count split_size most_splits S) (wrong_index S X) e in
    record {
      few = few-splits S r.0;
      long = eqb-true (length X) (entry_place (split_count S)) (not-false (eqb (length X) (entry_place (split_count S))) r.1);
    }

-- an index is shorter than a word that tells
pub short : (S X : List ℕ) → Lists-good S X → length X < telling
short S X g = omega (arith, g.few, g.long)

module _ (S X : List ℕ) (g : Lists-good S X) (i : ℕ) where
  -- the entry of a split is there
  pub entry-there : i < split_count S → entry_place i < limit X
  entry-there l = omega (arith, g.long)

  pub entry-small : i < split_count S → entry_place i < telling
  entry-small l = omega (arith, g.long, g.few)

  -- and its place says which it is
  pub split-there : i < split_count S → split_at S X (entry_place i) ≡ i
  unfolding split_at
  split-there l =
      let d : (entry_place i - 128) / 1088 ≡ i = omega arith in
      rw (lt-ltb (entry_place i) (limit X) (entry-there l), d)

-- behind the last one no split stands
pub none-there : (S X : List ℕ) → Lists-good S X → (p : ℕ) → limit X ≤ p → split_at S X p ≡ split_count S
unfolding split_at
none-there S X g p l = rw (le-ltb p (limit X) l)

-- a place names one of the splits, or none
pub split-few : (S X : List ℕ) → Lists-good S X → (p : ℕ) → split_at S X p ≤ split_count S
unfolding split_at
split-few S X g p = go (ltb p (limit X)) refl
  where
    go : (t : Bool) → ltb p (limit X) ≡ t → cond t ((p - set_size) / entry_size) (split_count S) ≤ split_count S
    go true e = omega (arith, ltb-true p (limit X) e, g.long)
    go false e = omega arith
