-- What a run from where a call begins leaves is what the feed leaves, and the split that is answered is where it stands. Assumes nothing.
use Prim.Native.Nat.{ℕ, zero, suc, ◌+◌, ◌*◌, ◌-◌, ◌/◌, ◌%◌, ◌≤◌}
use mathlib.Core.Path.{◌≡◌, refl, sym, ap, ◌∙◌}
use mathlib.Core.Bool.{Bool, true, false, ◌&&◌, ◌||◌, not, cond}
use mathlib.Core.List.{List}
use native.Mathlib.Omega.{arith}
use lib.ListN.{length}
use Rattle.std.proofs.Common.{Option, Some, None}
use lib.Dec.{leb, ltb, eqb}
use borrow.Author.Tests.{ne_eqb, eqb-true, eqb-false, ltb-true, ltb-false, not-false}
use Rattle.numbers.specs.Number.{before}
use Rattle.sets.specs.Set.{set_size, set_bytes}
use Rattle.rules.specs.Rules.{verdict}
use Rattle.rules.proofs.Scanning.{neither}
use Rattle.feed.specs.Engine.{room, consumed}
use Rattle.feed.specs.declared.Fed.{Fed}
use Rattle.feed.specs.Fed.{Answers}
use Rattle.feed.specs.inner.Going.{Going}
use Rattle.feed.proofs.Going.{start, finish}
use Rattle.feed.proofs.Looping.{answers-fed}
use Rattle.list_flow.specs.Flow.{frontier_of, offset_of, rows_of, flow_bytes}
use Rattle.table.specs.Table.{most_splits, split_size, split_count, split_set, bad_count}
use Rattle.index.specs.Entry.{entry_size, entry_place, limit, split_at, wrong_index, bad_index}
use Rattle.index.proofs.Sizes.{Lists-good, lists-said, entry-there}
use Rattle.index.proofs.Hints.{holds-said}
use Rattle.index.specs.Stand.{halved, sought_of, found_of, place_from, IsEntry, holds_at, began, stand_of, stands_at, indexed, stand_layout, stand_rules, stand_feed, stood_at}
use Rattle.index_turns.specs.declared.Stands.{Stands}
use Rattle.index_turns.specs.inner.Goes.{Strode}

-- ---- where a call begins: at most behind the last split

halved-most : (S : List ℕ) (F n lo hi : ℕ) → hi ≤ split_count S → halved S F n lo hi ≤ split_count S
unfolding halved
halved-most S F zero lo hi h = omega arith
halved-most S F (suc n) lo hi h = go (λ x y q. halved-most S F n x y q) (ltb lo hi) refl (eqb (split_set S ((lo + hi) / 2)) F) (before (set_bytes (split_set S ((lo + hi) / 2))) (set_bytes F))
  where
    go : ((x y : ℕ) → y ≤ split_count S → halved S F n x y ≤ split_count S) → (t : Bool) → ltb lo hi ≡ t → (u v : Bool)
        → cond t (cond u ((lo + hi) / 2) (halved S F n (cond v ((lo + hi) / 2 + 1) lo) (cond v hi ((lo + hi) / 2)))) (split_count S) ≤ split_count S
    go ih false e u v = omega arith
    go ih true e true v = omega (arith, ltb-true lo hi e)
    go ih true e false true = ih ((lo + hi) / 2 + 1) hi h
    go ih true e false false = ih lo ((lo + hi) / 2) (omega (arith, ltb-true lo hi e))

sought-most : (S : List ℕ) (F : ℕ) → sought_of S F ≤ split_count S
unfolding sought_of
sought-most S F = halved-most S F (split_count S) 0 (split_count S) (omega arith)

-- it begins where the code does, and a whole entry is there, where the code has a split
pub begins : (S X : List ℕ) (h F : ℕ) (held : Bool) (first : Option ℕ) → held ≡ holds_at S X h F → first ≡ cond held (Some h) (found_of S F) → bad_index S X ≡ false
    → (place_from X first ≡ entry_place (began S X h F)) × IsEntry X first
unfolding began
begins S X h F held first e q b = rw (q, e) (go (holds_at S X h F) refl)
  where
    g : Lists-good S X
    g = lists-said S X b

    seek : (t : Bool) → ltb (sought_of S F) (split_count S) ≡ t
        → (place_from X (cond t (Some (sought_of S F)) None) ≡ entry_place (sought_of S F)) × IsEntry X (cond t (Some (sought_of S F)) None)
    seek true z = (refl, entry-there S X g (sought_of S F) (ltb-true (sought_of S F) (split_count S) z))
    seek false z =
        let m = sought-most S F in
        let n = ltb-false (sought_of S F) (split_count S) z in
        (g.long ∙ ap entry_place (let y : split_count S ≡ sought_of S F = omega (arith, m, n) in y), tt)

    go : (t : Bool) → holds_at S X h F ≡ t → (place_from X (cond t (Some h) (found_of S F)) ≡ entry_place (cond t h (sought_of S F))) × IsEntry X (cond t (Some h) (found_of S F))
    go true z = (refl, entry-there S X g h (holds-said S X h F z).1)
    go false z = seek (ltb (sought_of S F) (split_count S)) refl

-- where rule 8 does not refuse, there is a split, so that the index has an entry
pub some-entry : (S X : List ℕ) → bad_index S X ≡ false → entry_size ≤ length X
unfolding bad_index bad_count
some-entry S X e =
    let r = neither (bad_count split_size most_splits S) (wrong_index S X) e in
    let c = neither (eqb (length S) 0 || ltb (split_size * most_splits) (length S)) (not (eqb (length S % split_size) 0)) r.0 in
    let z = neither (eqb (length S) 0) (ltb (split_size * most_splits) (length S)) c.0 in
    let m : length S % 136 ≡ 0 = eqb-true (length S % split_size) 0 (not-false (eqb (length S % split_size) 0) c.1) in
    let g = lists-said S X e in
    omega (arith, m, eqb-false (length S) 0 z.0, g.long)

-- a refused call answers the hint
pub hint-kept : (S X : List ℕ) (h : ℕ) (R : List ℕ) (at : ℕ) (piece out : List ℕ) → (verdict (stand_rules S X h R at piece) ≡ 0 → ⊥) → h ≡ stood_at S X h R at piece out
unfolding stood_at
hint-kept S X h R at piece out n = sym (rw (ne_eqb (verdict (stand_rules S X h R at piece)) 0 n))

-- the split at a place, by the number of splits
pub at_place : (S X : List ℕ) (n p i : ℕ) → n ≡ split_count S → i ≡ cond (ltb p (limit X)) ((p - set_size) / entry_size) n → i ≡ split_at S X p
unfolding split_at
at_place S X n p i e q = q ∙ ap (λ (m : ℕ). cond (ltb p (limit X)) ((p - set_size) / entry_size) m) e

module _ (S X : List ℕ) (h : ℕ) (R : List ℕ) (at : ℕ) (piece out₀ : List ℕ) (q : at ≡ offset_of R) (first : ℕ) (e : first ≡ began S X h (frontier_of R)) (b : Bool) (r : Stands) (out : List ℕ)
    (s₀ : Strode X piece at 0 (entry_place first) out₀ 0 (length piece) b r out) where
  -- the run began at the flow's offset
  s : Strode X piece (offset_of R) 0 (entry_place first) out₀ 0 (length piece) b r out
  s = rw q at s₀

  -- the loop's end, from where the call begins
  pub going : Going (indexed S X) (stand_of S X h (frontier_of R)) (offset_of R) piece out₀ (stands_at S X (frontier_of R) r.bytes r.place) out r.bytes r.words r.rows
  going =
      let z : 0 + r.rows ≡ r.rows = omega arith in
      let b : Going (indexed S X) (stand_of S X h (frontier_of R)) (offset_of R) piece out₀ (stands_at S X (frontier_of R) 0 (entry_place first)) out₀ 0 0 0 =
      rw e (start (indexed S X) (stand_of S X h (frontier_of R)) (offset_of R) piece out₀) in
      rw z at (s.goes.going S (frontier_of R) (stand_of S X h (frontier_of R)) out₀ 0 b)

  -- it stops where the definition does
  pub longest : consumed (indexed S X) (stand_of S X h (frontier_of R)) (room out₀) piece ≡ r.bytes
  longest = go b refl
    where
      go : (t : Bool) → b ≡ t → consumed (indexed S X) (stand_of S X h (frontier_of R)) (room out₀) piece ≡ r.bytes
      go true q = finish going (s.on q).1
      go false q = (s.off q).ends S (frontier_of R) (stand_of S X h (frontier_of R)) out₀ r.rows going

  -- at most 255 rows for each byte
  pub rows_few : r.rows ≤ 255 * r.bytes
  rows_few = omega (arith, s.few)

  module _ (v : verdict (stand_rules S X h R at piece) ≡ 0) where
    -- the split that is answered
    pub stood : split_at S X r.place ≡ stood_at S X h R at piece out₀
    unfolding stood_at
    stood = sym (rw (v, longest, ← going.config))

    -- and the feed's outcome
    pub ends : (f : Fed) → f.refusal ≡ cond (ltb r.bytes (length piece) && leb (limit X) r.place) 14 0
        → f.bytes ≡ r.bytes → f.pairs ≡ r.words / 2 → f.all ≡ eqb r.bytes (length piece)
        → (sv : List ℕ) → sv ≡ flow_bytes (cond (eqb r.bytes 0) (frontier_of R) (split_set S (split_at S X r.place))) (offset_of R + r.bytes) (rows_of R + r.rows)
        → Answers (stand_feed S X h R at piece out₀) f out sv
    ends f a b w n sv d =
        answers-fed (indexed S X) (stand_layout S X h) R piece out₀ (stand_rules S X h R at piece) f (stands_at S X (frontier_of R) r.bytes r.place) out r.bytes r.words r.rows
        going v longest a b w n sv d
