-- `renew` meets its promise. Assumes nothing.
use borrow.Author.Rules.{rules}
use native.Mathlib.Omega.{arith}
use Rattle.list_renew.proofs.Renewing.{renews-long, renewed-by, stays_by}
use Rattle.list_renew.proofs.renew.Statement.{statement}
use Rattle.list_renew.proofs.renew.Tie as tie

renew-refusal-requires : tie.Need-renew_refusal-refusal-requires
renew-refusal-requires c κs = search rules

from-bytes-requires : tie.Need-from_bytes-requires
from-bytes-requires c κs =
    (search rules, omega (arith, renews-long c.args.flow.now _ c.renew_refusal-refusal.ensures c.if-refusal-eq-PASSED.true))

save-requires : tie.Need-save-requires
save-requires c κs = search rules

same_length : tie.Need-shape_of-flow-then-refusal-eq-PASSED
same_length c = search rules

returns : tie.Need-returns-then-refusal-eq-PASSED
returns c =
    renewed-by c.args.flow.now _ _ _ c.renew_refusal-refusal.ensures c.if-refusal-eq-PASSED.true c.from_bytes.ensures c.save.ensures

same-length-2 : tie.Need-shape_of-flow-else-refusal-eq-PASSED
same-length-2 c = search rules

returns-2 : tie.Need-returns-else-refusal-eq-PASSED
returns-2 c =
    let check = c.before in
    stays_by check.args.flow.now _ check.renew_refusal-refusal.ensures c.if-refusal-eq-PASSED.false

pub renew_spec : {M : Type 1} → statement M
renew_spec =
    tie.close
    (tie.spec
    renew-refusal-requires
    from-bytes-requires
    save-requires
    same_length
    returns
    same-length-2
    returns-2)
