-- By a right index the feed follows the list's automaton, from every frontier that is a split; from any other it does nothing. Assumes nothing.
use Prim.Native.Nat.{ℕ, ◌+◌, ◌-◌, ◌<◌}
use mathlib.Core.Path.{◌≡◌, refl, sym, ap, ◌∙◌}
use mathlib.Core.Bool.{Bool, true, false, cond}
use mathlib.Core.List.{List}
use native.Mathlib.Omega.{arith}
use lib.Dec.{leb, ltb, eqb}
use borrow.Author.Tests.{lt-ltb, le-ltb, lt-leb, le-leb, eqb-true}
use Rattle.sets.specs.Set.{sigs_at}
use Rattle.rules.proofs.Scanning.{first_found, first-none}
use Rattle.list.specs.Automaton.{step, accepted}
use Rattle.feed.specs.Calls.{Follows, costing}
use Rattle.list_feed.specs.Plain.{plain}
use Rattle.table.specs.Table.{split_count, split_set, is_split, split_of}
use Rattle.index_blocks.specs.Block.{word_at}
use Rattle.index.specs.Entry.{sigs_place, entry_place, telling, limit, place_of, told_of, cost_at}
use Rattle.index.specs.Stand.{Stand, began, stand_at, stand_of, indexed}
use Rattle.index.specs.Right.{IsAt, word_to, Right, Costs}
use Rattle.index.proofs.Sizes.{Lists-good, lists-said, entry-there, entry-small, split-there}
use Rattle.index.proofs.Hints.{began-first}

-- ---- a word that leads to a split

module _ (S X : List ℕ) (g : Lists-good S X) (j G : ℕ) (l : j < split_count S) where
  -- its place is that of the entry
  pub place-to : place_of (word_to j G) ≡ entry_place j
  place-to = go (eqb G 0)
    where
      go : (t : Bool) → place_of (entry_place j + cond t 0 telling) ≡ entry_place j
      go true =
          let z : entry_place j + 0 ≡ entry_place j = omega arith in
          rw (z, lt-ltb (entry_place j) telling (entry-small S X g j l))
      go false =
          let z : entry_place j + telling - telling ≡ entry_place j = omega arith in
          rw (le-ltb (entry_place j + telling) telling (omega arith), z)

  -- and it tells what the entry has, where that is what G says
  pub told-to : sigs_at X (entry_place j + sigs_place) ≡ G → told_of X (word_to j G) ≡ G
  unfolding told_of
  told-to e = go (eqb G 0) refl
    where
      go : (t : Bool) → eqb G 0 ≡ t
          → cond (ltb (entry_place j + cond t 0 telling) telling) 0
          (cond (ltb (entry_place j + cond t 0 telling - telling) (limit X)) (sigs_at X (entry_place j + cond t 0 telling - telling + sigs_place)) 0) ≡ G
      go true q =
          let z : entry_place j + 0 ≡ entry_place j = omega arith in
          rw (z, lt-ltb (entry_place j) telling (entry-small S X g j l)) (sym (eqb-true G 0 q))
      go false q =
          let z : entry_place j + telling - telling ≡ entry_place j = omega arith in
          rw (le-ltb (entry_place j + telling) telling (omega arith), z, lt-ltb (entry_place j) (limit X) (entry-there S X g j l)) e

-- ---- the feed stands at the entry of a split with the automaton's frontier

abbrev pub AtEntry : List ℕ → Stand → ℕ → Type 0
AtEntry S x F = (i : ℕ) × IsAt S F i × (x ≡ record { frontier = F; place = entry_place i })

module _ (L S X : List ℕ) (r : Right L S X) where
  good : Lists-good S X
  good = lists-said S X r.good

  module _ (x : Stand) (F c : ℕ) (l : c < 256) (a : AtEntry S x F) where
    -- the word that it goes by
    went : (j : ℕ) × IsAt S (step L F c) j × (word_at X x.place c ≡ word_to j (accepted L (step L F c)))
    went =
        let w = r.leads a.0 c a.1.0 l in
        rw (a.1.1, ← ap (λ (y : Stand). y.place) a.2) at w

    tells-same : told_of X (word_at X x.place c) ≡ accepted L (step L F c)
    tells-same =
        let w = went in
        rw w.2 (told-to S X good w.0 (accepted L (step L F c)) w.1.0 (r.tells w.0 w.1.0 ∙ ap (accepted L) w.1.1))

    stays-there : AtEntry S (stand_at S X (place_of (word_at X x.place c))) (step L F c)
    stays-there =
        let w = went in
        let p : place_of (word_at X x.place c) ≡ entry_place w.0 = ap place_of w.2 ∙ place-to S X good w.0 (accepted L (step L F c)) w.1.0 in
        (w.0, w.1, rw (p, split-there S X good w.0 w.1.0, w.1.1))

  free : (x : Stand) (F : ℕ) → AtEntry S x F → leb (limit X) x.place ≡ false
  free x F a = rw a.2 (lt-leb (limit X) (entry_place a.0) (entry-there S X good a.0 a.1.0))

  pub follows : (f : ℕ → ℕ) → Follows (indexed S X) (costing (plain L) f) (AtEntry S)
  follows f = record { same = tells-same; goes = free; stays = stays-there }

  pub same-cost : (b : ℕ) (f : ℕ → ℕ) → Costs b f S X → (x : Stand) (F : ℕ) → AtEntry S x F → cost_at X x.place ≡ f F
  same-cost b f k x F a = rw a.2 ((k a.0 a.1.0).0 ∙ ap f a.1.1)

  -- ---- where a call begins

  -- at the entry of a split with the set, where there is one
  pub starts-at : (h F : ℕ) → is_split S F ≡ true → AtEntry S (stand_of S X h F) F
  unfolding split_of
  starts-at h F s =
      let p = first_found (split_count S) (λ i. eqb (split_set S i) F) s in
      let e : began S X h F ≡ split_of S F = began-first S r.bytes r.ordered X h F in
      (split_of S F, (p.0, eqb-true (split_set S (split_of S F)) F p.1), rw e)

  -- behind the last entry, where there is none
  pub starts-behind : (h F : ℕ) → is_split S F ≡ false → leb (limit X) (entry_place (began S X h F)) ≡ true
  unfolding split_of
  starts-behind h F s =
      let e : began S X h F ≡ split_count S = began-first S r.bytes r.ordered X h F ∙ first-none (split_count S) (λ i. eqb (split_set S i) F) s in
      rw e (le-leb (limit X) (entry_place (split_count S)) (omega (arith, good.long)))
