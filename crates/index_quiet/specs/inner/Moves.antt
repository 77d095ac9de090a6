-- What the loops over quiet bytes promise: from byte i at place p to byte j at place q, whatever the splits are, wherever the feed began, and whatever it told before.
use Rattle.std.specs.Prelude.{ℕ, ◌+◌, List}
use Rattle.feed.specs.inner.Going.{Going}
use Rattle.index.specs.Stand.{Stand, stands_at, indexed}

-- over bytes that tell nothing, for n rows
pub record Moves (X P : List ℕ) (i p j q n : ℕ) : Type 0 where
  pub going : (S : List ℕ) (F : ℕ) (x₀ : Stand) (k₀ : ℕ) (out₀ out : List ℕ) (w m : ℕ)
      → Going (indexed S X) x₀ k₀ P out₀ (stands_at S X F i p) out i w m → Going (indexed S X) x₀ k₀ P out₀ (stands_at S X F j q) out j w (m + n)
