-- `flag_at` reads the flag at its place in the entry. Assumes nothing.
use mathlib.Core.Path.{ap}
use mathlib.Core.Bool.{not}
use Prim.Native.Nat.{ℕ}
use native.Mathlib.Omega.{arith}
use lib.Dec.{eqb}
use Rattle.index.specs.Entry.{flag_at}
use Rattle.index_feed.proofs.flag_at.Statement.{statement}
use Rattle.index_feed.proofs.flag_at.Tie as tie

entry-place-requires : tie.Need-entry_place-requires
entry-place-requires c κs = omega (arith, c.requires)

add-result : tie.Need-overflow_add-result
add-result c = omega (arith, c.entry_place.ensures, c.requires)

shared-slice-read-result : tie.Need-bounds-index-entry_place
shared-slice-read-result c = omega (arith, c.entry_place.ensures, c.requires)

returns : tie.Need-returns
returns c = ap (λ (p : ℕ). not (eqb (flag_at c.args.index.now p) 0)) c.entry_place.ensures

pub flag_at_spec : {M : Type 1} → statement M
flag_at_spec = tie.close (tie.spec entry-place-requires add-result shared-slice-read-result returns)
