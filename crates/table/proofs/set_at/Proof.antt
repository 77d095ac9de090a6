-- `set_at` reads a whole set where one stands; past the end the set is empty. Assumes nothing.
use borrow.Author.Rules.{rules}
use mathlib.Core.Path.{◌∙◌}
use native.Mathlib.Omega.{arith}
use Rattle.sets.specs.Set.{set_words}
use Rattle.sets.proofs.Sets.{empty-words}
use Rattle.sets.proofs.Standing.{set-at-past}
use Rattle.table.proofs.set_at.Statement.{statement}
use Rattle.table.proofs.set_at.Tie as tie

returns : tie.Need-returns-then-b-at
returns c =
    let a = c.args in
    empty-words set_words ∙ set-at-past a.b.now a.at (omega arith)

sub-if2 : tie.Need-overflow_sub-b
sub-if2 c = search rules

end-set-requires : tie.Need-end_set-requires
end-set-requires c κs = (omega arith, omega arith)

returns-2 : tie.Need-returns-then-b-at-lt-BYTES
returns-2 c = c.end_set.ensures

from-bytes-requires : tie.Need-from_bytes-requires
from-bytes-requires c κs = (search rules, omega arith)

returns-3 : tie.Need-returns
returns-3 c = c.from_bytes.ensures

pub set_at_spec : {M : Type 1} → statement M
set_at_spec = tie.close (tie.spec returns sub-if2 end-set-requires returns-2 from-bytes-requires returns-3)
