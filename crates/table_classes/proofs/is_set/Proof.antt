-- `is_set` meets its promise. Assumes nothing.
use borrow.Author.Rules.{rules}
use mathlib.Core.Path.{ap, ◌∙◌}
use Prim.Native.Nat.{ℕ}
use lib.Dec.{eqb}
use Rattle.sets.specs.Set.{set_of}
use Rattle.table.specs.Table.{part}
use Rattle.table_classes.proofs.is_set.Statement.{statement}
use Rattle.table_classes.proofs.is_set.Tie as tie

mul-from-bytes : tie.Need-overflow_mul-i
mul-from-bytes c = search rules

from-bytes-requires : tie.Need-from_bytes-requires
from-bytes-requires c κs = search rules

same-requires : tie.Need-same-requires
same-requires c κs = search rules

returns : tie.Need-returns
unfolding part
returns c = c.same.ensures ∙ ap (λ (x : ℕ). eqb x (set_of c.args.f)) c.from_bytes.ensures

pub is_set_spec : {M : Type 1} → statement M
is_set_spec = tie.close (tie.spec mul-from-bytes from-bytes-requires same-requires returns)
