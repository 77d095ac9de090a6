-- Each promise of the public functions determines the outcome: two outcomes that meet it are equal. Assumes nothing.
use Prim.Native.Nat.{ℕ}
use mathlib.Core.Path.{◌≡◌}
use mathlib.Core.List.{List}
use Rattle.feed.specs.declared.Fed.{Fed}
use Rattle.feed.specs.Fed.{Answers}
use Rattle.feed.proofs.Unique.{unique-answers}
use Rattle.list_feed.specs.Plain.{plain_feed}

-- the feed gives one answer and leaves the same words and the same record
pub unique-feed : (L R : List ℕ) (at : ℕ) (piece out : List ℕ) (f g : Fed) (ws vs sv tv : List ℕ)
    → Answers (plain_feed L R at piece out) f ws sv → Answers (plain_feed L R at piece out) g vs tv → (f ≡ g) × (ws ≡ vs) × (sv ≡ tv)
unique-feed L R at piece out f g ws vs sv tv a b = unique-answers (plain_feed L R at piece out) f g ws vs sv tv a b
