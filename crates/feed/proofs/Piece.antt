-- Rules 5 and 6 in a reader's words, and what is known of a piece that neither refuses. Assumes nothing.
use Prim.Native.Nat.{ℕ, ◌+◌, ◌≤◌, ◌<◌}
use mathlib.Core.Path.{◌≡◌, refl}
use mathlib.Core.Bool.{true}
use mathlib.Core.List.{List, [], ◌∷◌, ◌++◌}
use mathlib.Core.Logic.{◌↔◌}
use native.Mathlib.Omega.{arith}
use lib.ListN.{length, take}
use lib.Dec.{eqb}
use borrow.Author.Tests.{eqb-true, ltb-false, le-ltb, not-false}
use Rattle.rules.specs.Rules.{Rule, verdict}
use Rattle.rules.proofs.Rules.{passes, passes-changed}
use Rattle.rules.proofs.Saying.{Says}
use Rattle.rules.proofs.Scanning.{differ-words, over-words}
use Rattle.feed.specs.Engine.{most_offset}
use Rattle.feed.specs.Piece.{other_start, too_long, piece_rules, piece_words}
use Rattle.feed.proofs.Runs.{length-take-most}

module _ (k : ℕ) where
  -- 5: the stated start is not the offset
  pub other-start : (at : ℕ) → other_start k at ≡ true ↔ (at ≡ k → ⊥)
  other-start at = differ-words at k

  -- 6: the whole piece ends past the largest offset
  pub too-long : (piece : List ℕ) → too_long k piece ≡ true ↔ (most_offset < k + length piece)
  too-long piece = over-words most_offset (k + length piece)

  pub piece-says : (at : ℕ) (piece : List ℕ) → Says (piece_rules k at piece) (piece_words k at piece)
  piece-says at piece = (refl, other-start at, (refl, too-long piece, tt))

  -- what a feed knows that neither refuses
  pub piece-passes : (at : ℕ) (piece : List ℕ) → verdict (piece_rules k at piece) ≡ 0 → (at ≡ k) × (k + length piece ≤ most_offset)
  piece-passes at piece v =
      let a = passes 4 (other_start k at) ((6, too_long k piece) ∷ []) v in
      let b = passes 5 (too_long k piece) [] a.1 in
      (eqb-true at k (not-false (eqb at k) a.0), ltb-false most_offset (k + length piece) b.0)

  -- a front of a piece passes 6 where the piece does, whatever is tested before and behind it
  pub cut-passes : (early rest : List Rule) (piece : List ℕ) (n : ℕ) → k + length piece ≤ most_offset → verdict (early ++ ((6, too_long k piece) ∷ rest)) ≡ 0
      → verdict (early ++ ((6, too_long k (take n piece)) ∷ rest)) ≡ 0
  cut-passes early rest piece n h v =
      passes-changed early 5 (too_long k piece) (too_long k (take n piece)) rest v (le-ltb most_offset (k + length (take n piece)) (omega (arith, length-take-most n piece)))
