-- What the code's steps leave: an instruction, and a program.
use Rattle.std.specs.Prelude.{ℕ, ◌≡◌, List}
use Rattle.numbers.specs.Number.{num}
use Rattle.sets.specs.Set.{sigs_of}
use Rattle.machine.specs.declared.Config.{Config}
use Rattle.machine.specs.declared.Step.{Step}
use Rattle.machine.specs.Program.{bits_by, counters_by, alerts_by, kind_of, which_of, number_of, programmed, alerts_of, moved}

-- record i of P is run on the bits D, the counters cs and the words ws of the alerts: it leaves E, ds and vs
pub record Runs (P : List ℕ) (i D : ℕ) (cs ws : List ℕ) (E : ℕ) (ds vs : List ℕ) : Type 0 where
  pub bits : E ≡ bits_by (kind_of P i) (which_of P i) D
  pub counters : ds ≡ counters_by (kind_of P i) (which_of P i) (number_of P i) cs
  pub alerts : num 64 vs ≡ alerts_by (kind_of P i) (which_of P i) (number_of P i) D cs (num 64 ws)

-- the program of state q is run on x in that state
pub record Programs (P : List ℕ) (q : ℕ) (x : Config) (s : Step) : Type 0 where
  pub config : s.config ≡ programmed P q (moved q x)
  pub alerts : sigs_of s.alerts ≡ alerts_of P q (moved q x)
