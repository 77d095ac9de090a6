-- The promise of the feed determines its outcome: two outcomes that meet it are equal. Assumes nothing.
use Prim.Native.Nat.{ℕ}
use mathlib.Core.Path.{◌≡◌}
use mathlib.Core.List.{List}
use Rattle.feed.specs.declared.Fed.{Fed}
use Rattle.feed.specs.Fed.{Answers}
use Rattle.feed.proofs.Unique.{unique-answers}
use Rattle.table.specs.Table.{Table}
use Rattle.table_feed.specs.Split.{split_feed}

-- the feed gives one answer and leaves the same words and the same record
pub unique-feed : (L : List ℕ) (b : ℕ) (T : Table) (R : List ℕ) (at : ℕ) (piece out : List ℕ) (f g : Fed) (ws vs sv tv : List ℕ)
    → Answers (split_feed L b T R at piece out) f ws sv → Answers (split_feed L b T R at piece out) g vs tv → (f ≡ g) × (ws ≡ vs) × (sv ≡ tv)
unique-feed L b T R at piece out f g ws vs sv tv p q = unique-answers (split_feed L b T R at piece out) f g ws vs sv tv p q
