-- A loop that looks for the first number that passes: one turn more. Assumes nothing.
use Prim.Native.Nat.{ℕ, ◌+◌}
use mathlib.Core.Path.{◌≡◌, refl}
use mathlib.Core.Bool.{Bool, false}
use native.Mathlib.Numerals.{add-one}
use Rattle.rules.specs.Scan.{some}

pub some-zero : (p : ℕ → Bool) → some 0 p ≡ false
unfolding some
some-zero p = refl

pub some_more : (p : ℕ → Bool) (i : ℕ) → some i p ≡ false → p i ≡ false → some (i + 1) p ≡ false
unfolding some
some_more p i e q = rw (add-one i, e, q)
