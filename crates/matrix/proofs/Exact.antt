-- The filler's matrix: its sets are the list's steps, so the matrix feed answers and leaves what the plain feed does, on every record, start, piece and buffer. Assumes nothing.
use Prim.Native.Nat.{ℕ, suc, ◌^◌, ◌≤◌, ◌<◌}
use mathlib.Core.Path.{◌≡◌, refl, sym, ap, ◌∙◌}
use mathlib.Core.Bool.{true, not}
use mathlib.Core.List.{List, [], ◌∷◌}
use mathlib.Core.Logic.{inl}
use native.Mathlib.Omega.{arith}
use native.Mathlib.Decide.{ℕ_discrete}
use lib.ListN.{length}
use borrow.Author.Tests.{eqb-true, eq-eqb}
use Rattle.sets.specs.Set.{states, holds, size}
use Rattle.sets.proofs.Sets.{holds-pow, set-ext}
use Rattle.rules.specs.Rules.{verdict}
use Rattle.rules.proofs.Rules.{last, verdict-then, verdict-refused}
use Rattle.list.specs.List.{from}
use Rattle.list.specs.Automaton.{step, highest}
use Rattle.list.proofs.Listed.{same_truth}
use Rattle.list.proofs.Steps.{step-exactly, step-lt}
use Rattle.feed.specs.Calls.{Bytes, Follows}
use Rattle.feed.specs.declared.Fed.{Fed}
use Rattle.feed.specs.Fed.{Answers}
use Rattle.feed.proofs.Alike.{feed-same}
use Rattle.list_flow.specs.Flow.{flow_bytes, flow_layout, feed_rules}
use Rattle.list_feed.specs.Plain.{plain, plain_feed}
use Rattle.matrix.specs.Matrix.{byte_values, matrix_length, cell, union_over, matrix_step, matrixed, filled, wrong_matrix, Fills, matrix_rules, matrix_feed}
use Rattle.matrix.proofs.Unions.{union-exactly, union-same}
use Rattle.matrix.proofs.Cells.{cells-length, cells_at}
use Rattle.list.proofs.Highest.{names-low}

-- the filler's matrix has the list's length
pub filled-long : (L : List ℕ) → length (filled L) ≡ matrix_length L
filled-long L = cells-length (suc (highest L)) (λ s c. step L (2 ^ s) c)

-- the set of state s and byte c is where the list leads from s alone
pub filled-cell : (L : List ℕ) (s c : ℕ) → s ≤ highest L → c < byte_values → cell (filled L) s c ≡ step L (2 ^ s) c
unfolding cell
filled-cell L s c h l = cells_at (suc (highest L)) (λ s c. step L (2 ^ s) c) s c (omega arith) l (step-lt L (2 ^ s) c)

module _ (L : List ℕ) where
  -- the step of a frontier is the union of the steps of its states, of which none past the highest leads anywhere
  step-union : (F c : ℕ) → union_over (λ s. step L (2 ^ s) c) F (suc (highest L)) ≡ step L F c
  step-union F c = set-ext (union_over (λ s. step L (2 ^ s) c) F (suc (highest L))) (step L F c) (λ t. same_truth (holds (union_over (λ s. step L (2 ^ s) c) F (suc (highest L))) t) (holds (step L F c) t) (there t) (back t))
    where
      alone : (s x : ℕ) → holds (2 ^ s) x ≡ true → x ≡ s
      alone s x h = eqb-true x s (sym (holds-pow s x) ∙ h)

      there : (t : ℕ) → holds (union_over (λ s. step L (2 ^ s) c) F (suc (highest L))) t ≡ true → holds (step L F c) t ≡ true
      there t h =
          let w = (union-exactly (λ s. step L (2 ^ s) c) F (suc (highest L)) t).0 h in
          let v = (step-exactly L (2 ^ w.0) c t).0 w.3 in
          let e = alone w.0 (from L v.1.0) v.1.3 in
          (step-exactly L F c t).1 (v.0, (v.1.0, v.1.1, v.1.2, rw e w.2, v.1.4))

      back : (t : ℕ) → holds (step L F c) t ≡ true → holds (union_over (λ s. step L (2 ^ s) c) F (suc (highest L))) t ≡ true
      back t h =
          let v = (step-exactly L F c t).0 h in
          let s = from L v.1.0 in
          let l = names-low L v.1.0 s v.1.1 (inl (v.1.2.kind, inl refl)) in
          (union-exactly (λ s. step L (2 ^ s) c) F (suc (highest L)) t).1
          (s, omega (arith, l), v.1.3, (step-exactly L (2 ^ s) c t).1 (v.0, (v.1.0, v.1.1, v.1.2, holds-pow s s ∙ eq-eqb s s refl, v.1.4)))

  -- so a byte moves every frontier as the list does
  pub step_same : (F c : ℕ) → c < byte_values → matrix_step L (filled L) F c ≡ step L F c
  step_same F c l =
      union-same (λ s. cell (filled L) s c) (λ s. step L (2 ^ s) c) F (suc (highest L)) (λ s h. filled-cell L s c (omega arith) l) ∙ step-union F c

  pub follows : Follows (matrixed L (filled L)) (plain L) (λ x y. x ≡ y)
  follows =
      record {
        same = λ x y c l e. rw (step_same x c l, e);
        goes = λ x y e. refl;
        stays = λ x y c l e. step_same x c l ∙ ap (λ (F : ℕ). step L F c) e;
      }

-- 8 does not refuse it
pub same-verdict : (L R : List ℕ) (at : ℕ) (piece : List ℕ) → verdict (matrix_rules L (filled L) R at piece) ≡ verdict (feed_rules L R at piece)
same-verdict L R at piece =
    elim (ℕ_discrete (verdict (feed_rules L R at piece)) 0) [
      | yes z ↦ verdict-then (feed_rules L R at piece) ((8, wrong_matrix L (filled L)) ∷ []) refl z ∙ last 8 (ap not (eq-eqb _ _ (filled-long L))) ∙ sym z
      | no n ↦ verdict-refused (feed_rules L R at piece) ((8, wrong_matrix L (filled L)) ∷ []) n
    ]

-- with the matrix that the filler writes for the list, the outcome is the plain feed's: refusal, bytes, pairs, all, words and record
pub matrix-is-plain : (L R : List ℕ) (at : ℕ) (piece out : List ℕ) → Bytes piece → matrix_feed L (filled L) R at piece out ≡ plain_feed L R at piece out
matrix-is-plain L R at piece out h =
    feed-same (matrixed L (filled L)) (plain L) flow_layout flow_layout R refl refl (λ x y. x ≡ y) (follows L) (λ x y e. ap (size states) e) (λ x y k n e. ap (λ (F : ℕ). flow_bytes F k n) e) refl
    (matrix_rules L (filled L) R at piece) (feed_rules L R at piece) (same-verdict L R at piece) piece out h

-- what the filler leaves where it answers 0
pub filled-left : (L X : List ℕ) (refusal : ℕ) (left : List ℕ) → Fills L X refusal left → refusal ≡ 0 → left ≡ filled L
filled-left L X refusal left w z = w.wrote ∙ rw (eq-eqb _ _ (sym w.refuses ∙ z))

-- so of the code: where the filler has answered 0, a feed by what it left meets the plain feed's promise
pub answers-plain : (L X : List ℕ) (refusal : ℕ) (left : List ℕ) → Fills L X refusal left → refusal ≡ 0
    → (R : List ℕ) (at : ℕ) (piece out : List ℕ) → Bytes piece → (f : Fed) (ws sv : List ℕ)
    → Answers (matrix_feed L left R at piece out) f ws sv → Answers (plain_feed L R at piece out) f ws sv
answers-plain L X refusal left w z R at piece out h f ws sv a = rw (filled-left L X refusal left w z, matrix-is-plain L R at piece out h) at a
