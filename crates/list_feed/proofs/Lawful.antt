-- The plain feed is lawful: it is the automaton. And what holds of any feed that begins with the rules of the list and its flow. Assumes nothing.
use Prim.Native.Nat.{ℕ, ◌+◌, ◌^◌, ◌≤◌, ◌<◌}
use mathlib.Core.Path.{◌≡◌, refl, sym, ◌∙◌}
use mathlib.Core.Bool.{false, ◌||◌, not, true≢false}
use mathlib.Core.List.{List, [], ◌∷◌, ◌++◌}
use lib.ListN.{length, take}
use lib.Dec.{lit<}
use Rattle.sets.specs.Set.{states, within}
use Rattle.rules.specs.Rules.{Rule, verdict}
use Rattle.rules.proofs.Rules.{passes-front, exactly, verdict-lt}
use Rattle.list.specs.List.{bad_length, bad_record, no_start}
use Rattle.list.specs.Automaton.{named}
use Rattle.list.proofs.Steps.{start-lt, step-lt}
use Rattle.list.proofs.Named.{step-named}
use Rattle.feed.specs.Engine.{most_offset}
use Rattle.feed.specs.Lawful.{Reached, Lawful}
use Rattle.feed.proofs.Lawful.{reached_has}
use Rattle.feed.specs.Piece.{other_start}
use Rattle.feed.proofs.Piece.{cut-passes}
use Rattle.list_flow.specs.Flow.{offset_of, frontier_of, bad_flow, feed_rules}
use Rattle.list_flow.proofs.Passing.{feed-passes}
use Rattle.list_flow.proofs.Kept.{good-feed, fit-feed}
use Rattle.list_feed.specs.Plain.{plain}
use Rattle.list_feed.specs.Means.{list_automata, list_means}
use Rattle.list_feed.proofs.Plain.{plain-cheap}

-- the frontiers that the automaton comes to are sets of states
pub reached-lt : (L : List ℕ) (F : ℕ) → Reached list_automata L F → F < 2 ^ states
reached-lt L = reached_has list_automata L (λ F. F < 2 ^ states) (λ F c l p. step-lt L F c) (start-lt L)

-- what the rules of the list and its flow take
pub list-passes : (L R : List ℕ) (at : ℕ) (piece : List ℕ) → verdict (feed_rules L R at piece) ≡ 0
    → (bad_flow R ≡ false) × (at ≡ offset_of R) × (offset_of R + length piece ≤ most_offset)
list-passes L R at piece v = let p = feed-passes L R at piece v in (p.0, p.1, p.2)

-- they take a front of each piece that they take, whatever is tested behind them
pub list-shorter : (rest : List Rule) (L R : List ℕ) (at : ℕ) (piece : List ℕ) (n : ℕ) → verdict (feed_rules L R at piece ++ rest) ≡ 0 → verdict (feed_rules L R at (take n piece) ++ rest) ≡ 0
list-shorter rest L R at piece n v =
    cut-passes (offset_of R) ((1, bad_length L) ∷ (2, bad_record L) ∷ (3, no_start L) ∷ (4, bad_flow R || not (within (frontier_of R) (named L))) ∷ (5, other_start (offset_of R) at) ∷ []) rest piece n
    (list-passes L R at piece (passes-front (feed_rules L R at piece) rest v)).2 v

pub lawful : Lawful list_automata list_means
lawful =
    record {
      passes = list-passes;
      below-14 = λ L R at piece. verdict-lt 14 (feed_rules L R at piece) (lit< tt) refl;
      not-4 = λ L R at piece n f e. true≢false (sym ((exactly (feed_rules L R at piece) refl 3 (lit< tt)).0 e).0 ∙ rw (f.0, f.1));
      shorter = λ L R at piece n v. list-shorter [] L R at piece n v;
      cheap = λ l L F. plain-cheap L F;
      counts = plain-cheap [];
      same = λ L k R at piece. refl;
      goes = λ L k R at piece out h r. refl;
      few = λ L k F r. plain-cheap L F;
      fits = λ L k R at piece out h f. (
        good-feed (plain L) frontier_of (λ F. F) (feed_rules L R at piece) R piece out (plain-cheap L) (λ v. (list-passes L R at piece v).2) h f.0,
        fit-feed L (plain L) (λ F c l z. step-named L F c) (feed_rules L R at piece) R piece out h f.1,
      );
    }
