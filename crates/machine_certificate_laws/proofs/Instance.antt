-- The law is no empty promise: two flows from their openings, one of them cut and with a refused call between, to which it applies. Assumes nothing.
use Prim.Native.Nat.{ℕ, zero, suc, ◌<◌}
use mathlib.Core.Path.{◌≡◌, refl, sym, ap, ◌∙◌}
use mathlib.Core.Bool.{Bool, true, ◌&&◌}
use mathlib.Core.List.{List, [], ◌∷◌}
use lib.ListN.{replicate, get_or}
use lib.Dec.{ltb, lit<}
use borrow.Author.Tests.{ltb-true}
use Rattle.rules.proofs.Scanning.{both}
use Rattle.feed.specs.Calls.{Bytes}
use Rattle.machine_certificate.specs.Certificate.{certificate_refusal}
use Rattle.machine_certificate_laws.specs.Alike.{ListFlow, MachineFlow, eaten_by, told_by}
use Rattle.machine_certificate_laws.specs.Examples.{L₁, M₁, P₁, note, list_begun, list_calls, machine_begun, machine_calls, told_rows}
use Rattle.machine_certificate_laws.proofs.Examples.{told-rows}
use Rattle.machine_certificate_laws.proofs.Alike.{certified-alike}

-- bytes, by computing
abbrev small : List ℕ → Bool
small [] = true
small (x ∷ xs) = ltb x 256 && small xs

small_bytes : (xs : List ℕ) → small xs ≡ true → Bytes xs
small_bytes [] e i = lit< tt
small_bytes (x ∷ xs) e zero = ltb-true x 256 (both (ltb x 256) (small xs) e).0
small_bytes (x ∷ xs) e (suc i) = small_bytes xs (both (ltb x 256) (small xs) e).1 i

-- what the rows say
refusals : list_begun.refusal ∷ machine_begun.refusal ∷ certificate_refusal L₁ M₁ P₁ (note 0 0 1) ∷ [] ≡ 0 ∷ 0 ∷ 0 ∷ []
unfolding told_rows
refusals = told-rows.0

accepts : certificate_refusal L₁ M₁ P₁ (note 0 0 1) ≡ 0
accepts = ap (λ (ws : List ℕ). get_or ws 2 0) refusals

pub list-flow : ListFlow L₁
list-flow =
    record {
      flow = replicate 144 7;
      out = replicate 3 8;
      opens = ap (λ (ws : List ℕ). get_or ws 0 0) refusals;
      calls = list_calls;
      in_bytes = (small_bytes (97 ∷ 98 ∷ []) refl, tt);
      by = (λ v. (refl, tt), tt);
    }

pub machine-flow : MachineFlow M₁ P₁
machine-flow =
    record {
      flow = replicate 80 7;
      out = replicate 2 8;
      opens = ap (λ (ws : List ℕ). get_or ws 1 0) refusals;
      calls = machine_calls;
      in_bytes = (small_bytes (97 ∷ []) refl, (small_bytes (97 ∷ []) refl, (small_bytes (98 ∷ []) refl, tt)));
      by = (λ v. (refl, refl), (λ v. (refl, refl), (λ v. (refl, refl), tt)));
    }

same_bytes : eaten_by list-flow ≡ eaten_by machine-flow
unfolding told_rows list-flow machine-flow
same_bytes = told-rows.1.0 ∙ sym told-rows.1.1.0

pub alike-applies : told_by list-flow ≡ told_by machine-flow
alike-applies = (certified-alike L₁ M₁ P₁ (note 0 0 1) (small_bytes M₁ refl) (small_bytes P₁ refl) accepts).told list-flow machine-flow same_bytes
