-- The promise of the public function determines the outcome: two outcomes that meet it are equal. Assumes nothing.
use Prim.Native.Nat.{ℕ}
use mathlib.Core.Path.{◌≡◌, sym, ◌∙◌}
use mathlib.Core.List.{List}
use Rattle.machine_certificate.specs.Certificate.{certificate_refusal}

pub unique-check : (L M P Z : List ℕ) (r q : ℕ) → r ≡ certificate_refusal L M P Z → q ≡ certificate_refusal L M P Z → r ≡ q
unique-check L M P Z r q e f = e ∙ sym f
