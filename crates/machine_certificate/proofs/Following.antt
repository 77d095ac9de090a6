-- An accepted certificate: what a recorded configuration and its set do on a byte, and at opening, is the same. Assumes nothing.
use Prim.Native.Nat.{ℕ, ◌^◌, ◌<◌}
use mathlib.Core.Path.{◌≡◌, subst}
use mathlib.Core.List.{List}
use borrow.Author.Tests.{eqb-true}
use Rattle.sets.specs.Set.{signatures}
use Rattle.list.specs.Automaton.{start, step, accepted}
use Rattle.machine.specs.declared.Config.{Config}
use Rattle.machine.specs.Program.{program_length}
use Rattle.machine.specs.Machine.{byte_values, machine, first, first_alerts}
use Rattle.machine_certificate.specs.Certificate.{note_config, note_set, certificate_refusal}
use Rattle.machine_certificate.specs.Words.{Recorded, Exactly, Certified}
use Rattle.machine_certificate.proofs.Certified.{alerted-lt, accepted-lt, exactly-same}
use Rattle.machine_certificate.proofs.Accepts.{accepts-exactly}

-- sets of the same signatures are one number
same_set : (A B : ℕ) → A < 2 ^ signatures → B < 2 ^ signatures → Exactly A B → A ≡ B
same_set A B a b h = eqb-true A B ((exactly-same A B a b).1 h)

module _ (L M P Z : List ℕ) (ok : certificate_refusal L M P Z ≡ 0) where
  certified : Certified L M P Z
  certified = ((accepts-exactly L M P Z).0 ok).2

  -- the start configuration is recorded with the start set, and opening alerts what that accepts
  pub begins-recorded : Recorded Z (first P) (start L)
  begins-recorded = certified.begins

  pub opens-same : first_alerts P ≡ accepted L (start L)
  opens-same = same_set (first_alerts P) (accepted L (start L)) (alerted-lt P 0 _ program_length) (accepted-lt L (start L)) certified.opens

  -- from x with the set F a byte leads to what is recorded with the list's step, and alerts what that accepts
  abbrev Leads : Config → ℕ → ℕ → Type 0
  Leads x F c = Recorded Z ((machine M P).next x c) (step L F c) × ((machine M P).alerts x c ≡ accepted L (step L F c))

  leads-by : (y : Config) (G : ℕ) (x : Config) (F c : ℕ) → y ≡ x → G ≡ F → Leads y G c → Leads x F c
  leads-by y G x F c p q g = subst (λ (z : Config). Leads z F c) p (subst (λ (H : ℕ). Leads y H c) q g)

  pub recorded-leads : (x : Config) (F c : ℕ) → c < byte_values → Recorded Z x F
      → Recorded Z ((machine M P).next x c) (step L F c) × ((machine M P).alerts x c ≡ accepted L (step L F c))
  recorded-leads x F c l r =
      let i = r.0 in
      leads-by (note_config Z i) (note_set Z i) x F c r.2 r.3 (
        certified.steps i c r.1 l,
        same_set ((machine M P).alerts (note_config Z i) c) (accepted L (step L (note_set Z i) c)) (alerted-lt P _ _ program_length) (accepted-lt L (step L (note_set Z i) c))
            (certified.alerts i c r.1 l),
      )
