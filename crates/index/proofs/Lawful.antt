-- The feed by a right index is lawful: from opening it is the plain feed but for rows. Assumes nothing.
use Prim.Native.Nat.{ℕ, zero, suc, ◌+◌, ◌≤◌, ◌<◌}
use mathlib.Core.Path.{◌≡◌, refl, sym, ap, ◌∙◌}
use mathlib.Core.Bool.{Bool, true, false, ◌||◌, not, cond, true≢false}
use mathlib.Core.List.{List, [], ◌∷◌}
use native.Mathlib.Omega.{arith}
use lib.ListN.{length}
use lib.Dec.{lit<, eqb}
use borrow.Author.Tests.{eq-eqb, ne_eqb}
use Rattle.sets.specs.Set.{states, within}
use Rattle.rules.specs.Rules.{verdict}
use Rattle.rules.proofs.Rules.{exactly, verdict-lt, verdict-front, verdict-then, passes, passes-front, last}
use Rattle.rules.proofs.Scanning.{some-intro}
use Rattle.list.specs.List.{list_rules}
use Rattle.list.specs.Automaton.{start, step, named}
use Rattle.list.proofs.Named.{step-named}
use Rattle.feed.specs.Engine.{Engine, most_offset, feed}
use Rattle.feed.specs.Calls.{Bytes, costing}
use Rattle.feed.specs.Lawful.{Reached, Fit, Lawful}
use Rattle.feed.proofs.Alike.{feed-same, feed-stuck}
use Rattle.feed.proofs.Lawful.{reached_has}
use Rattle.feed.specs.Piece.{other_start}
use Rattle.feed.proofs.Piece.{cut-passes}
use Rattle.list_flow.specs.Flow.{flow_bytes, flow_layout, frontier_of, offset_of, bad_flow, flow_rules, feed_rules}
use Rattle.list_flow.proofs.Passing.{flow-passes}
use Rattle.list_flow.proofs.Kept.{good-feed, fit-feed}
use Rattle.list_feed.specs.Plain.{plain}
use Rattle.list_feed.specs.Means.{list_automata}
use Rattle.table.specs.Table.{most_splits, split_count, split_set, is_split}
use Rattle.index.specs.Entry.{cost_place, split_at, bad_index}
use Rattle.index.specs.Stand.{Stand, named_by, indexed, stand_layout, stand_rules, stand_feed, stood_at}
use Rattle.index.specs.Right.{IsAt, Right, Costs}
use Rattle.index.specs.Means.{stand_means}
use Rattle.index.proofs.Sizes.{lists-said, split-few}
use Rattle.index.proofs.Hints.{named-right}
use Rattle.index.proofs.Following.{AtEntry, follows, same-cost, starts-at, starts-behind}

-- what a feed knows that no rule refuses
pub stand-passes : (S X : List ℕ) (h : ℕ) (R : List ℕ) (at : ℕ) (piece : List ℕ) → verdict (stand_rules S X h R at piece) ≡ 0
    → (bad_flow R ≡ false) × (at ≡ offset_of R) × (offset_of R + length piece ≤ most_offset) × (bad_index S X ≡ false)
stand-passes S X h R at piece v =
    let rules = flow_rules (named_by S X h (frontier_of R)) R at piece in
    let f = passes-front rules ((8, bad_index S X) ∷ []) v in
    let p = flow-passes (named_by S X h (frontier_of R)) R at piece f in
    (p.0, p.1, p.2, (passes 7 (bad_index S X) [] (sym (verdict-then rules ((8, bad_index S X) ∷ []) refl f) ∙ v)).0)

-- the split that a call answers is the hint, or one of the splits, or their number
pub stood-few : (S X : List ℕ) (h : ℕ) (R : List ℕ) (at : ℕ) (piece out : List ℕ) (m : ℕ) → h ≤ m → most_splits ≤ m → stood_at S X h R at piece out ≤ m
unfolding stood_at
stood-few S X h R at piece out m l k = go (verdict (stand_rules S X h R at piece)) refl _
  where
    go : (v : ℕ) → verdict (stand_rules S X h R at piece) ≡ v → (p : ℕ) → cond (eqb v 0) (split_at S X p) h ≤ m
    go zero e p = let g = lists-said S X (stand-passes S X h R at piece e).3 in omega (arith, split-few S X g p, g.few)
    go (suc v) e p = rw (ne_eqb (suc v) 0 (λ q. omega arith)) l

module _ (L S X : List ℕ) (r : Right L S X) (h : ℕ) where
  -- its rules give what those of the plain feed give
  pub same-verdict : (R : List ℕ) (at : ℕ) (piece : List ℕ) → verdict (stand_rules S X h R at piece) ≡ verdict (feed_rules L R at piece)
  same-verdict R at piece =
      verdict-front (flow_rules (named_by S X h (frontier_of R)) R at piece) _ refl (last 8 r.good)
      ∙ ap (λ (k : Bool). verdict (flow_rules k R at piece)) (named-right L S X r.names h (frontier_of R))
      ∙ sym (verdict-then (list_rules L) _ refl r.list)

  -- a set of a split is a split's
  is-split : (F i : ℕ) → IsAt S F i → is_split S F ≡ true
  is-split F i a = some-intro (split_count S) (λ j. eqb (split_set S j) F) i a.0 (eq-eqb (split_set S i) F a.1)

  module _ (b : ℕ) (f : ℕ → ℕ) (k : Costs b f S X) (R : List ℕ) (at : ℕ) (piece out : List ℕ) (hb : Bytes piece) where
    -- at a split it is the automaton's feed
    pub as_plain : is_split S (frontier_of R) ≡ true → stand_feed S X h R at piece out ≡ feed (stand_rules S X h R at piece) (costing (plain L) f) flow_layout R piece out
    as_plain s =
        feed-same (indexed S X) (costing (plain L) f) (stand_layout S X h) flow_layout R refl refl (AtEntry S) (follows L S X r f) (same-cost L S X r b f k)
        (λ x F n m a. ap (λ (y : Stand). flow_bytes y.frontier n m) a.2) (starts-at L S X r h (frontier_of R) s)
        (stand_rules S X h R at piece) (stand_rules S X h R at piece) refl piece out hb

  -- each frontier that the automaton comes to is a split
  pub reached-split : (F : ℕ) → Reached list_automata L F → is_split S F ≡ true
  reached-split = reached_has list_automata L (λ F. is_split S F ≡ true) next (is-split (start L) r.begins.0 r.begins.1)
    where
      next : (F c : ℕ) → c < 256 → is_split S F ≡ true → is_split S (step L F c) ≡ true
      next F c l s =
          let a = starts-at L S X r h F s in
          let w = r.leads a.0 c a.1.0 l in
          is-split (step L F c) w.0 (rw a.1.1 at w.1)

  pub few-so : (b : ℕ) (f : ℕ → ℕ) → Costs b f S X → (F : ℕ) → Reached list_automata L F → f F ≤ b
  few-so b f k F p =
      let a = starts-at L S X r h F (reached-split F p) in
      rw a.1.1 at (k a.0 a.1.0).1

  -- a fit record stays fit: at a split as by the automaton, elsewhere nothing moves
  module _ (b : ℕ) (f : ℕ → ℕ) (cheap : (F : ℕ) → f F ≤ states) (k : Costs b f S X) (R : List ℕ) (at : ℕ) (piece out : List ℕ) (hb : Bytes piece) (fit : Fit list_automata L R) where
    -- the automaton of L that halts everywhere
    abbrev halted : Engine ℕ
    halted = record { next = step L; alerts = (plain L).alerts; cost = f; halts = λ F. true }

    by-engine : (E : Engine ℕ) → ((F : ℕ) → E.cost F ≤ states) → ((F c : ℕ) → c < 256 → E.halts F ≡ false → within (E.next F c) (named L) ≡ true)
        → Fit list_automata L (feed (stand_rules S X h R at piece) E flow_layout R piece out).saved
    by-engine E few next = (
      good-feed E frontier_of (λ F. F) (stand_rules S X h R at piece) R piece out few (λ v. (stand-passes S X h R at piece v).2) hb fit.0,
      fit-feed L E next (stand_rules S X h R at piece) R piece out hb fit.1,
    )

    pub fits-so : Fit list_automata L (stand_feed S X h R at piece out).saved
    fits-so = go (is_split S (frontier_of R)) refl
      where
        go : (t : Bool) → is_split S (frontier_of R) ≡ t → Fit list_automata L (stand_feed S X h R at piece out).saved
        go true s = rw (as_plain b f k R at piece out hb s) (by-engine (costing (plain L) f) cheap (λ F c l z. step-named L F c))
        go false s =
            rw (feed-stuck (indexed S X) halted (stand_layout S X h) flow_layout R refl refl (starts-behind L S X r h (frontier_of R) s) refl (λ n m. refl)
            (stand_rules S X h R at piece) (stand_rules S X h R at piece) refl piece out)
            (by-engine halted cheap (λ F c l z. absurd (true≢false z)))

pub lawful : (b : ℕ) (f : ℕ → ℕ) → ((F : ℕ) → f F ≤ states) → (S X : List ℕ) (h : ℕ) → Lawful list_automata (stand_means b f S X h)
lawful b f cheap S X h =
    record {
      passes = λ L R at piece v. let p = stand-passes S X h R at piece v in (p.0, p.1, p.2);
      below-14 = λ L R at piece. verdict-lt 14 (stand_rules S X h R at piece) (lit< tt) refl;
      not-4 = λ L R at piece n fit e.
          true≢false (sym (rw (named-right L S X n h (frontier_of R)) at ((exactly (stand_rules S X h R at piece) refl 0 (lit< tt)).0 e).0) ∙ rw (fit.0, fit.1));
      shorter = λ L R at piece n v.
          cut-passes (offset_of R) ((4, bad_flow R || not (named_by S X h (frontier_of R))) ∷ (5, other_start (offset_of R) at) ∷ []) ((8, bad_index S X) ∷ []) piece n
          (stand-passes S X h R at piece v).2 v;
      cheap = λ l L x. omega (arith, l (x.place + cost_place));
      counts = cheap;
      same = λ L k R at piece. same-verdict L S X k.0 h R at piece;
      goes = λ L k R at piece out hb p. as_plain L S X k.0 h b f k.1 R at piece out hb (reached-split L S X k.0 h (frontier_of R) p);
      few = λ L k F p. few-so L S X k.0 h b f k.1 F p;
      fits = λ L k R at piece out hb fit. fits-so L S X k.0 h b f cheap k.1 R at piece out hb fit;
    }
