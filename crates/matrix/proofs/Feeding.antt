-- What the matrix feed knows that no rule refuses, what it refuses, and what a byte costs it at most. Assumes nothing.
use Prim.Native.Nat.{ℕ, ◌+◌, ◌*◌, ◌^◌, ◌≤◌, ◌<◌}
use mathlib.Core.Path.{◌≡◌, refl, sym, ◌∙◌}
use mathlib.Core.Bool.{false}
use mathlib.Core.List.{List, [], ◌∷◌}
use lib.ListN.{length}
use lib.Dec.{eqb}
use borrow.Author.Tests.{eqb-true, not-false}
use Rattle.sets.specs.Set.{set_words, states}
use Rattle.sets.proofs.Members.{members-size, members-most}
use Rattle.rules.specs.Rules.{verdict}
use Rattle.rules.proofs.Rules.{passes, passes-front, verdict-then}
use Rattle.list.specs.List.{list_rules, list_refusal}
use Rattle.feed.specs.Engine.{most_offset}
use Rattle.feed.proofs.Moves.{rules-alone}
use Rattle.list_flow.specs.Flow.{flow_layout, offset_of, bad_flow, feed_rules}
use Rattle.list_flow.proofs.Passing.{feed-passes}
use Rattle.matrix.specs.Matrix.{matrix_length, matrixed, wrong_matrix, matrix_rules, matrix_feed}

-- a byte costs at most all states
pub matrix-cheap : (L X : List ℕ) (F : ℕ) → (matrixed L X).cost F ≤ states
matrix-cheap L X F = rw (← members-size states F) (members-most states F)

-- nothing halts, so the feed's refusal is its rules' verdict
pub matrix-refusal : (L X R : List ℕ) (at : ℕ) (piece out : List ℕ) → (matrix_feed L X R at piece out).refusal ≡ verdict (matrix_rules L X R at piece)
matrix-refusal L X R at piece out = rules-alone (matrixed L X) flow_layout R (matrix_rules L X R at piece) piece out (λ F. refl)

-- words that hold the frontier, by another name
pub reach-as : {F r k : ℕ} → r ≡ k → (k ≤ set_words) × (F < 2 ^ (64 * k)) → (r ≤ set_words) × (F < 2 ^ (64 * r))
reach-as e h = rw e h

pub record Passes (L X R : List ℕ) (at : ℕ) (piece : List ℕ) : Type 0 where
  pub listed : list_refusal L ≡ 0
  pub good : bad_flow R ≡ false
  pub begins : at ≡ offset_of R
  pub short : offset_of R + length piece ≤ most_offset
  pub long : length X ≡ matrix_length L

pub matrix-passes : (L X R : List ℕ) (at : ℕ) (piece : List ℕ) → verdict (matrix_rules L X R at piece) ≡ 0 → Passes L X R at piece
matrix-passes L X R at piece v =
    let f = passes-front (feed_rules L R at piece) ((8, wrong_matrix L X) ∷ []) v in
    let w = verdict-then (feed_rules L R at piece) ((8, wrong_matrix L X) ∷ []) refl f in
    let p = feed-passes L R at piece f in
    record {
      listed = passes-front (list_rules L) _ f;
      good = p.0;
      begins = p.1;
      short = p.2;
      long = eqb-true (length X) (matrix_length L) (not-false (eqb (length X) (matrix_length L)) (passes 7 (wrong_matrix L X) [] (sym w ∙ v)).0);
    }
