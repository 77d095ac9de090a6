-- The split that a feed by a right index answers is the one where the flow then stands. Assumes nothing.
use Prim.Native.Nat.{ℕ, ◌^◌, ◌<◌}
use mathlib.Core.Path.{◌≡◌, refl, sym, ap, ◌∙◌}
use mathlib.Core.Bool.{Bool, true, false, true≢false}
use mathlib.Core.List.{List, [], ◌∷◌}
use mathlib.Core.Logic.{◌⊎◌, inl, inr}
use lib.ListN.{take}
use lib.Dec.{eqb}
use borrow.Author.Tests.{ne_eqb, eq-eqb, leb-true}
use Rattle.rules.specs.Rules.{verdict}
use Rattle.rules.proofs.Scanning.{some-intro}
use Rattle.feed.specs.Engine.{Engine, run, consumed, room, feed, ended}
use Rattle.feed.specs.Calls.{Bytes, costing}
use Rattle.feed.proofs.Runs.{bytes_take}
use Rattle.feed.proofs.Follows.{run-related}
use Rattle.list_flow.specs.Flow.{frontier_of}
use Rattle.list_flow.proofs.Records.{frontier-flow, frontier-lt}
use Rattle.list_feed.specs.Plain.{plain}
use Rattle.table.specs.Table.{split_count, split_set, is_split}
use Rattle.table.proofs.Halving.{split-lt}
use Rattle.index.specs.Entry.{entry_place, split_at}
use Rattle.index.specs.Stand.{Stand, began, stand_of, indexed, stand_rules, stand_feed, stood_at}
use Rattle.index.specs.Right.{IsAt, Right}
use Rattle.index.proofs.Sizes.{Lists-good, lists-said, split-there, none-there}
use Rattle.index.proofs.Following.{AtEntry, follows, starts-at, starts-behind}

-- where a rule refuses, it answers the hint
pub hint-kept : (S X : List ℕ) (h : ℕ) (R : List ℕ) (at : ℕ) (piece out : List ℕ) → (verdict (stand_rules S X h R at piece) ≡ 0 → ⊥) → stood_at S X h R at piece out ≡ h
unfolding stood_at
hint-kept S X h R at piece out n = rw (ne_eqb (verdict (stand_rules S X h R at piece)) 0 n)

-- an engine that halts consumes nothing
none-consumed : {A : Type 0} (E : Engine A) (x : A) (m : ℕ) (cs : List ℕ) → E.halts x ≡ true → consumed E x m cs ≡ 0
unfolding consumed
none-consumed E x m [] q = refl
none-consumed E x m (c ∷ cs) q = rw q

module _ (L S X : List ℕ) (r : Right L S X) (h : ℕ) (R : List ℕ) (hr : Bytes R) (at : ℕ) (piece out : List ℕ) (hb : Bytes piece) (v : verdict (stand_rules S X h R at piece) ≡ 0) where
  good : Lists-good S X
  good = lists-said S X r.good

  -- what is consumed, and where the run then stands
  abbrev many : ℕ
  many = consumed (indexed S X) (stand_of S X h (frontier_of R)) (room out) piece

  abbrev front : List ℕ
  front = take many piece

  abbrev stand : Stand
  stand = run (indexed S X) (stand_of S X h (frontier_of R)) front

  answers : stood_at S X h R at piece out ≡ split_at S X stand.place
  unfolding stood_at
  answers = rw v

  saves : (F : ℕ) → F ≡ stand.frontier → F < 2 ^ 1024 → frontier_of (stand_feed S X h R at piece out).saved ≡ F
  unfolding feed ended
  saves F e l = rw (v, ← e) (frontier-flow F _ _ l)

  pub stands : let F = frontier_of (stand_feed S X h R at piece out).saved in
      IsAt S F (stood_at S X h R at piece out) ⊎ ((stood_at S X h R at piece out ≡ split_count S) × ((j : ℕ) → IsAt S F j → ⊥))
  unfolding run
  stands = go (is_split S (frontier_of R)) refl
    where
      go : (t : Bool) → is_split S (frontier_of R) ≡ t
          → let F = frontier_of (stand_feed S X h R at piece out).saved in
          IsAt S F (stood_at S X h R at piece out) ⊎ ((stood_at S X h R at piece out ≡ split_count S) × ((j : ℕ) → IsAt S F j → ⊥))
      go true s =
          let a = run-related (indexed S X) (costing (plain L) (λ F. 0)) (AtEntry S) (follows L S X r (λ F. 0)) (stand_of S X h (frontier_of R)) (frontier_of R) front (starts-at L S X r h (frontier_of R) s) (bytes_take many piece hb) in
          let p : split_at S X stand.place ≡ a.0 = rw a.2 (split-there S X good a.0 a.1.0) in
          let q = saves (split_set S a.0) (a.1.1 ∙ sym (ap (λ (x : Stand). x.frontier) a.2)) (split-lt S r.bytes a.0) in
          inl (rw (answers, p, q) (a.1.0, refl))
      go false s =
          let e = none-consumed (indexed S X) (stand_of S X h (frontier_of R)) (room out) piece (starts-behind L S X r h (frontier_of R) s) in
          let x : stand ≡ stand_of S X h (frontier_of R) = rw e in
          let p : split_at S X stand.place ≡ split_count S = rw x (none-there S X good (entry_place (began S X h (frontier_of R))) (leb-true _ _ (starts-behind L S X r h (frontier_of R) s))) in
          let q = saves (frontier_of R) (sym (ap (λ (y : Stand). y.frontier) x)) (frontier-lt R hr) in
          inr (rw (answers, p) (refl, rw q (λ j i. true≢false (sym (some-intro (split_count S) (λ k. eqb (split_set S k) (frontier_of R)) j i.0 (eq-eqb (split_set S j) (frontier_of R) i.1)) ∙ s))))
