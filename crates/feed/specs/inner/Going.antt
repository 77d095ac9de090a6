-- What the loop of any feed keeps: at configuration x, with the words `out`, i bytes consumed, w words written and n rows read.
use Rattle.std.specs.Prelude.{ℕ, ◌+◌, ◌-◌, ◌/◌, ◌≤◌, ◌≡◌, List, ◌++◌, length, take, drop}
use Rattle.feed.specs.Engine.{Engine, room, run, costs, told, consumed}

-- the loop of E, from configuration x₀ at offset k₀ over a piece, with the words out₀ at its start
pub record Going {C : Type 0} (E : Engine C) (x₀ : C) (k₀ : ℕ) (piece out₀ : List ℕ) (x : C) (out : List ℕ) (i w n : ℕ) : Type 0 where
  pub short : i ≤ length piece
  pub config : x ≡ run E x₀ (take i piece)
  pub spent : n ≡ costs E x₀ (take i piece)
  pub words : w ≡ length (told E x₀ k₀ (take i piece))
  pub wrote : out ≡ told E x₀ k₀ (take i piece) ++ drop w out₀
  pub fits : w / 2 ≤ room out₀
  pub cut : consumed E x₀ (room out₀) piece ≡ i + consumed E x (room out₀ - w / 2) (drop i piece)
