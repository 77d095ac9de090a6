-- A part that ends ahead of a place ends ahead of an earlier one.
use Rattle.std.specs.Prelude.{ℕ, ◌≤◌, Result, Ok, Err}
use native.Mathlib.Omega.{arith}
use Rattle.text_parse.specs.inner.Went.{Ahead}
use Rattle.text_parse.specs.declared.Fault.{Fault}

pub later : (i j n : ℕ) (r : Result ℕ Fault) → i ≤ j → Ahead j n r → Ahead i n r
later i j n (Ok p) e h = (omega (arith, h.0), h.1)
later i j n (Err f) e h = tt
