-- Telling what a frontier accepts: nothing, where it has no accepting state. Assumes nothing.
use Prim.Native.Nat.{ℕ, ◌<◌, ◌^◌}
use mathlib.Core.Path.{◌≡◌}
use mathlib.Core.Bool.{false}
use mathlib.Core.List.{List}
use Rattle.sets.specs.Set.{states, meets}
use Rattle.list.specs.Automaton.{accepted, accepting}
use Rattle.list.proofs.Steps.{quiet}
use Rattle.std.specs.Prelude.{Some}
use Rattle.feed.specs.inner.Told.{TellsAll}
use Rattle.feed.proofs.Fitting.{all_none}

-- a frontier without an accepting state: nothing is due, and nothing has to be read
pub all_quiet : (L : List ℕ) (F : ℕ) → F < 2 ^ states → meets F (accepting L) ≡ false → (out : List ℕ) (w k : ℕ)
    → TellsAll (accepted L F) out w k (Some w) out
all_quiet L F h e out w k = all_none (accepted L F) out w k (quiet L F h e)
