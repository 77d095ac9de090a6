-- The flow record of a list's flow: what is saved is read again. Assumes nothing.
use Prim.Native.Nat.{ℕ, ◌^◌, ◌<◌}
use native.Mathlib.Omega.{arith}
use Rattle.sets.specs.Set.{states}
use Rattle.feed.proofs.Whole.{Sound}
use Rattle.list_flow.specs.Flow.{flow_layout}
use Rattle.list_flow.proofs.Records.{frontier-flow, offset-flow, rows-flow}

-- it keeps sets of states, and as many rows for each byte as there are states
pub flow-sound : (Good : ℕ → Type 0) → ((F : ℕ) → Good F → F < 2 ^ states) → Sound flow_layout Good states
flow-sound Good small = record { reads = λ F k n g hk hn. (frontier-flow F k n (small F g), offset-flow F k n hk, rows-flow F k n (omega arith)) }
