-- Rule 4 in a reader's words: what it refuses. Assumes nothing.
use Prim.Native.Nat.{ℕ, ◌*◌, ◌<◌}
use mathlib.Core.Path.{◌≡◌}
use mathlib.Core.Bool.{true, ◌||◌, not}
use mathlib.Core.List.{List}
use mathlib.Core.Logic.{◌⊎◌, ◌↔◌}
use lib.ListN.{length}
use lib.Dec.{eqb, ltb}
use Rattle.sets.specs.Set.{states}
use Rattle.rules.proofs.Scanning.{either-words, differ-words, over-words}
use Rattle.list_flow.specs.Flow.{flow_size, offset_of, reserved_of, rows_of, wrong_size, bad_flow}

module _ (R : List ℕ) where
  -- 4, at opening: the record has not the size of one
  pub wrong-size : wrong_size R ≡ true ↔ (length R ≡ flow_size → ⊥)
  wrong-size = differ-words (length R) flow_size

  -- 4, when fed: that, or the reserved bytes are not zero, or more rows are read than all states at each byte
  pub bad-flow : bad_flow R ≡ true ↔ (((length R ≡ flow_size → ⊥) ⊎ (reserved_of R ≡ 0 → ⊥)) ⊎ (states * offset_of R < rows_of R))
  unfolding bad_flow
  bad-flow =
      either-words ((length R ≡ flow_size → ⊥) ⊎ (reserved_of R ≡ 0 → ⊥)) (states * offset_of R < rows_of R) (wrong_size R || not (eqb (reserved_of R) 0)) (ltb (states * offset_of R) (rows_of R))
      (either-words (length R ≡ flow_size → ⊥) (reserved_of R ≡ 0 → ⊥) (wrong_size R) (not (eqb (reserved_of R) 0)) wrong-size (differ-words (reserved_of R) 0))
      (over-words (states * offset_of R) (rows_of R))
