-- What a feed of the code answers and leaves, against an outcome.
use Rattle.std.specs.Prelude.{ℕ, ◌≡◌, List}
use Rattle.feed.specs.Engine.{Outcome}
use Rattle.feed.specs.declared.Fed.{Fed}

-- the code answers f, and leaves the words `ws` and the record `sv`: those of an outcome
pub record Answers (o : Outcome) (f : Fed) (ws sv : List ℕ) : Type 0 where
  pub refusal : f.refusal ≡ o.refusal
  pub bytes : f.bytes ≡ o.bytes
  pub pairs : f.pairs ≡ o.pairs
  pub all : f.all ≡ o.all
  pub words : ws ≡ o.words
  pub saved : sv ≡ o.saved
