-- Rule 22 in words, every size as a number: which bytes a record is, and what an accepted certificate shows, said of its records, of bytes and of signatures.
use Rattle.std.specs.Prelude.{ℕ, ◌+◌, ◌*◌, ◌/◌, ◌%◌, ◌≤◌, ◌<◌, ◌≡◌, List, length, get_or, take, drop}
use Rattle.numbers.specs.Number.{num}
use Rattle.sets.specs.Set.{holds}
use Rattle.list.specs.Automaton.{start, step, accepted}
use Rattle.machine.specs.declared.Config.{Config}
use Rattle.machine.specs.Machine.{machine, first, first_alerts}
use Rattle.machine.specs.Record.{reserved_of}
use Rattle.machine_certificate.specs.Certificate.{notes, note_bytes, note_config, note_set}

-- record i, byte by byte: a state, two bytes that are reserved, the bits, 16 counters and a set of list states, in 204 bytes
pub record Noted (Z : List ℕ) : Type 0 where
  pub many : notes Z ≡ length Z / 204
  pub state : (i : ℕ) → (note_config Z i).state ≡ num 8 (take 2 (drop (204 * i) Z))
  pub reserved : (i : ℕ) → reserved_of (note_bytes Z i) ≡ num 8 (take 2 (drop (204 * i + 2) Z))
  pub bits : (i : ℕ) → (note_config Z i).bits ≡ num 8 (take 8 (drop (204 * i + 4) Z))
  pub counter : (i k : ℕ) → k < 16 → get_or (note_config Z i).counters k 0 ≡ num 8 (take 4 (drop (204 * i + 12 + 4 * k) Z))
  pub set : (i : ℕ) → note_set Z i ≡ num 8 (take 128 (drop (204 * i + 76) Z))

-- some record has the configuration x and the set F
abbrev pub Recorded : List ℕ → Config → ℕ → Type 0
Recorded Z x F = (i : ℕ) × (i < notes Z) × (note_config Z i ≡ x) × (note_set Z i ≡ F)

-- the same signatures are in both
abbrev pub Exactly : ℕ → ℕ → Type 0
Exactly A B = (g : ℕ) → g < 256 → holds A g ≡ holds B g

pub record Certified (L M P Z : List ℕ) : Type 0 where
  -- whole records, at most 4,096
  pub whole : length Z % 204 ≡ 0
  pub most : notes Z ≤ 4096
  -- each has a state of the machine, zero in its reserved bytes, and no counter over off
  pub states-in : (i : ℕ) → i < notes Z → (note_config Z i).state < length M / 512
  pub reserved : (i : ℕ) → i < notes Z → reserved_of (note_bytes Z i) ≡ 0
  pub counters : (i : ℕ) → i < notes Z → (k : ℕ) → k < 16 → get_or (note_config Z i).counters k 0 ≤ 65536
  -- no configuration is there twice
  pub once : (i j : ℕ) → i < notes Z → j < notes Z → note_config Z i ≡ note_config Z j → i ≡ j
  -- the start configuration after its program is there with the start set, and that program alerts exactly the signatures which the start set accepts
  pub begins : Recorded Z (first P) (start L)
  pub opens : Exactly (first_alerts P) (accepted L (start L))
  -- each step on each byte leads to a recorded configuration with the list's step of the set, and alerts exactly the signatures which the new set accepts
  pub steps : (i c : ℕ) → i < notes Z → c < 256 → Recorded Z ((machine M P).next (note_config Z i) c) (step L (note_set Z i) c)
  pub alerts : (i c : ℕ) → i < notes Z → c < 256 → Exactly ((machine M P).alerts (note_config Z i) c) (accepted L (step L (note_set Z i) c))
