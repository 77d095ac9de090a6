-- The split feed is lawful: through a table that the check accepts it goes as the automaton does, from each frontier that the automaton comes to. Assumes nothing.
use Prim.Native.Nat.{ℕ, ◌≤◌, ◌<◌}
use mathlib.Core.Path.{◌≡◌, refl, sym, ap, ◌∙◌}
use mathlib.Core.Bool.{true, true≢false}
use mathlib.Core.List.{List}
use native.Mathlib.Omega.{arith}
use lib.ListN.{length}
use lib.Dec.{lit<}
use Rattle.rules.specs.Rules.{verdict}
use Rattle.rules.proofs.Rules.{passes-front, exactly, verdict-lt, verdict-front, skip, last}
use Rattle.rules.proofs.Scanning.{every-all}
use Rattle.list.specs.Automaton.{step, accepted}
use Rattle.list.proofs.Named.{step-named}
use Rattle.feed.specs.Engine.{Engine, feed}
use Rattle.feed.specs.Calls.{Bytes, Follows, costing}
use Rattle.feed.specs.Lawful.{Reached, Fit, Lawful}
use Rattle.feed.proofs.Alike.{feed-same}
use Rattle.feed.proofs.Lawful.{reached_has}
use Rattle.list_flow.specs.Flow.{flow_bytes, flow_layout, frontier_of, feed_rules}
use Rattle.list_flow.proofs.Kept.{good-feed, fit-feed}
use Rattle.list_feed.specs.Plain.{plain}
use Rattle.list_feed.specs.Means.{list_automata}
use Rattle.list_feed.proofs.Lawful.{list-passes, list-shorter}
use Rattle.table.specs.Table.{Table, split_count, is_split, in_order, rising_rules, table_refusal}
use Rattle.table.proofs.Verdict.{ordered-passes}
use Rattle.table.proofs.Accepted.{accepted as accepted-table}
use Rattle.table_feed.specs.Split.{taken, split, split_rules, split_feed}
use Rattle.table_feed.specs.Means.{table_means}
use Rattle.table_feed.proofs.Exact.{few, free, same, stays}
use Rattle.table_feed.proofs.Stepping.{split-cheap}
use Rattle.table_feed.proofs.Halting.{free-split}

module _ (L : List ℕ) (b : ℕ) (T : Table) (ok : table_refusal L b T ≡ 0) where
  -- 7 to 9 do not refuse it
  pub same-verdict : (R : List ℕ) (at : ℕ) (piece : List ℕ) → verdict (split_rules L b T R at piece) ≡ verdict (feed_rules L R at piece)
  same-verdict R at piece =
      let a = accepted-table L b T ok in
      verdict-front (feed_rules L R at piece) (rising_rules b T) refl
      (sym (ordered-passes b T (skip 7 _ a.bound ∙ last 8 a.lengths) (every-all (split_count T.splits) (in_order T.splits) a.ordered)))

  -- each frontier that the automaton comes to is a split
  pub reached-split : (F : ℕ) → Reached list_automata L F → is_split T.splits F ≡ true
  reached-split =
      let a = accepted-table L b T ok in
      reached_has list_automata L (λ F. is_split T.splits F ≡ true) (λ F c l p. stays L b T a F p c l) a.begins

  -- the automaton, where a byte costs the slots taken
  abbrev counted : Engine ℕ
  counted = costing (plain L) (λ F. length (taken T F))

  -- the same frontier, a split
  abbrev AtSplit : ℕ → ℕ → Type 0
  AtSplit F G = (F ≡ G) × (is_split T.splits F ≡ true)

  follows : Follows (split L b T) counted AtSplit
  follows =
      let a = accepted-table L b T ok in
      record {
        same = λ F G c l r. ap (accepted L) (same L b T a F r.1 c l ∙ ap (λ (H : ℕ). step L H c) r.0);
        goes = λ F G r. free L b T a F r.1;
        stays = λ F G c l r. (
          same L b T a F r.1 c l ∙ ap (λ (H : ℕ). step L H c) r.0,
          rw (same L b T a F r.1 c l) (stays L b T a F r.1 c l),
        );
      }

  -- from a split it goes as the automaton does
  pub goes_at : (R : List ℕ) (at : ℕ) (piece out : List ℕ) → Bytes piece → is_split T.splits (frontier_of R) ≡ true
      → split_feed L b T R at piece out ≡ feed (split_rules L b T R at piece) (costing (plain L) (λ F. length (taken T F))) flow_layout R piece out
  goes_at R at piece out h s =
      feed-same (split L b T) counted flow_layout flow_layout R refl refl AtSplit follows (λ F G r. ap (λ (H : ℕ). length (taken T H)) r.0)
      (λ F G i n r. ap (λ (H : ℕ). flow_bytes H i n) r.0) (refl, s)
      (split_rules L b T R at piece) (split_rules L b T R at piece) refl piece out h

  pub few-so : (F : ℕ) → Reached list_automata L F → length (taken T F) ≤ b
  few-so F r = few L b T (accepted-table L b T ok) F (reached-split F r)

  -- a fit record stays fit
  pub fits-so : (R : List ℕ) (at : ℕ) (piece out : List ℕ) → Bytes piece → Fit list_automata L R → Fit list_automata L (split_feed L b T R at piece out).saved
  fits-so R at piece out h f = (
    good-feed (split L b T) frontier_of (λ F. F) (split_rules L b T R at piece) R piece out (λ F. omega (arith, split-cheap T F))
        (λ v. (list-passes L R at piece (passes-front (feed_rules L R at piece) (rising_rules b T) v)).2) h f.0,
    fit-feed L (split L b T) (λ F c l z. rw (same L b T (accepted-table L b T ok) F (free-split b T F z) c l) (step-named L F c)) (split_rules L b T R at piece) R piece out h f.1,
  )

pub lawful : (b : ℕ) (T : Table) → Lawful list_automata (table_means b T)
lawful b T =
    record {
      passes = λ L R at piece v. list-passes L R at piece (passes-front (feed_rules L R at piece) (rising_rules b T) v);
      below-14 = λ L R at piece. verdict-lt 14 (split_rules L b T R at piece) (lit< tt) refl;
      not-4 = λ L R at piece n f e. true≢false (sym ((exactly (split_rules L b T R at piece) refl 3 (lit< tt)).0 e).0 ∙ rw (f.0, f.1));
      shorter = list-shorter (rising_rules b T);
      cheap = λ l L F. omega (arith, split-cheap T F);
      counts = λ F. omega (arith, split-cheap T F);
      same = λ L k. same-verdict L b T k;
      goes = λ L k R at piece out h r. goes_at L b T k R at piece out h (reached-split L b T k (frontier_of R) r);
      few = λ L k. few-so L b T k;
      fits = λ L k. fits-so L b T k;
    }
