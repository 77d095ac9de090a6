-- Where a run by any engine stands beside 01's program: it has a record that stands alike with that of the program, which goes on from there. Assumes nothing.
use Prim.Native.Nat.{ℕ, ◌+◌, ◌≤◌}
use mathlib.Core.List.{List}
use lib.ListN.{length}
use Rattle.program_text.specs.Hand.{OnArrays}
use Rattle.program_text.specs.declared.Ends.{Ends}
use Rattle.program.proofs.Handing.{all_handed, Running}
use Rattle.program_run.specs.Run.{Alike}

-- from the record R₀ on, where the log log₀ ends at `begun`: at an offset with the record Q, and i texts taken
pub record Standing (ends : Ends) (L R₀ log₀ : List ℕ) (begun : ℕ) (Q log : List ℕ) (at i end : ℕ) : Type 0 where
  pub own : List ℕ
  pub alike : Alike L own Q
  pub going : OnArrays ends (λ input answers.
      begun + length (all_handed L input answers R₀ log₀ begun) ≤ length log₀ → Running L input answers R₀ log₀ begun own log at i end)
