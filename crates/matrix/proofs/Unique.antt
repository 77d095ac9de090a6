-- Each promise of the public functions determines the outcome: two outcomes that meet it are equal. And which number the filler and the feed give. Assumes nothing.
use Prim.Native.Nat.{ℕ}
use mathlib.Core.Path.{◌≡◌, refl, sym, ◌∙◌}
use mathlib.Core.List.{List}
use Rattle.rules.specs.Scan.{rising}
use Rattle.rules.specs.Rules.{Rises, Refuses, verdict}
use Rattle.rules.proofs.Rules.{refuses, rises}
use Rattle.feed.specs.declared.Fed.{Fed}
use Rattle.feed.specs.Fed.{Answers}
use Rattle.feed.proofs.Unique.{unique-answers}
use Rattle.matrix.specs.Matrix.{fill_rules, Fills, matrix_rules, matrix_feed}

-- the filler gives one answer and leaves the same bytes
pub unique-fill : (L X : List ℕ) (m n : ℕ) (a b : List ℕ) → Fills L X m a → Fills L X n b → (m ≡ n) × (a ≡ b)
unique-fill L X m n a b p q = (p.refuses ∙ sym q.refuses, p.wrote ∙ sym q.wrote)

-- the feed gives one answer and leaves the same words and the same record
pub unique-feed : (L X R : List ℕ) (at : ℕ) (piece out : List ℕ) (f g : Fed) (ws vs sv tv : List ℕ)
    → Answers (matrix_feed L X R at piece out) f ws sv → Answers (matrix_feed L X R at piece out) g vs tv → (f ≡ g) × (ws ≡ vs) × (sv ≡ tv)
unique-feed L X R at piece out f g ws vs sv tv a b = unique-answers (matrix_feed L X R at piece out) f g ws vs sv tv a b

-- ---- the numbers: each exactly when its row is the first that applies, and of several the lowest

pub fill-refuses : (L X : List ℕ) → Refuses (fill_rules L X) (verdict (fill_rules L X)) × Rises (fill_rules L X)
unfolding rising
fill-refuses L X = (refuses (fill_rules L X) refl, rises 0 (fill_rules L X) refl)

pub feed-refuses : (L X R : List ℕ) (at : ℕ) (piece : List ℕ) → Refuses (matrix_rules L X R at piece) (verdict (matrix_rules L X R at piece)) × Rises (matrix_rules L X R at piece)
unfolding rising
feed-refuses L X R at piece = (refuses (matrix_rules L X R at piece) refl, rises 0 (matrix_rules L X R at piece) refl)
