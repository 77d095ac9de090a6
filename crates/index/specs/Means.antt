-- Splits, an index and a hint as a means to feed flows of a list: a byte counts what f says of the frontier, at most b.
use Rattle.std.specs.Prelude.{ℕ, List}
use Rattle.feed.specs.Calls.{Bytes}
use Rattle.feed.specs.Lawful.{Means}
use Rattle.index.specs.Stand.{Stand, stand_of, indexed, stand_rules}
use Rattle.index.specs.Right.{Naming, Right, Costs}

-- what is checked is that the index is right for the list and costs what f says
abbrev pub stand_means : ℕ → (ℕ → ℕ) → List ℕ → List ℕ → ℕ → Means (List ℕ) ℕ
stand_means b f S X h =
    record {
      Config = Stand;
      rules = λ L. stand_rules S X h;
      engine = λ L. indexed S X;
      stands = stand_of S X h;
      frontier = λ x. x.frontier;
      spends = f;
      bound = b;
      Checked = λ L. Right L S X × Costs b f S X;
      Names = λ L. Naming L S X;
      Lent = Bytes X;
    }
