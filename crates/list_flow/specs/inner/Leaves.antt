-- What the loop of a feed over a list has to leave, so that its end answers and saves the feed's outcome.
use Rattle.std.specs.Prelude.{ℕ, ◌≡◌, ◌&&◌, cond, List, length, ltb}
use Rattle.sets.specs.Set.{set_of}
use Rattle.feed.specs.Engine.{Engine, room, consumed}
use Rattle.feed.specs.inner.Going.{Going}
use Rattle.list_flow.specs.declared.Ran.{Ran}

-- the loop of E, from frontier F at offset k over a piece with the words out₀, leaves `ran` and the words `out`: it ends where the definition does
pub record Leaves (E : Engine ℕ) (F k : ℕ) (piece out₀ : List ℕ) (ran : Ran) (out : List ℕ) : Type 0 where
  pub going : Going E F k piece out₀ (set_of ran.frontier) out ran.bytes ran.words ran.rows
  pub longest : consumed E F (room out₀) piece ≡ ran.bytes
  pub refusal : ran.refusal ≡ cond (ltb ran.bytes (length piece) && E.halts (set_of ran.frontier)) 14 0
