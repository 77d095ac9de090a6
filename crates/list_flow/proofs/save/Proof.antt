-- `save` meets its promise. Assumes nothing.
use borrow.Author.Rules.{rules}
use mathlib.Core.Path.{◌∙◌}
use lib.ListN.{length}
use borrow.Author.Tests.{eq-eqb, ne_eqb}
use Rattle.sets.specs.Set.{set_of}
use Rattle.list_flow.specs.Flow.{flow_size}
use Rattle.list_flow.proofs.Records.{placed-flow}
use Rattle.list_flow.proofs.save.Statement.{statement}
use Rattle.list_flow.proofs.save.Tie as tie

store-requires : tie.Need-store-requires
store-requires c κs = search rules

put-number-requires : tie.Need-put_number-requires
put-number-requires c κs = search rules

put-number-requires-2 : tie.Need-put_number-requires-then-flow-eq-FLOW_SIZE
put-number-requires-2 c κs = search rules

put-number-requires-3 : tie.Need-put_number-requires-then-flow-eq-FLOW_SIZE-2
put-number-requires-3 c κs = search rules

same_length : tie.Need-shape_of-flow
same_length c = search rules

returns : tie.Need-returns-then-flow-eq-FLOW_SIZE
returns c =
    let rows = c.before.before in
    let reserved = rows.before.before.before.before in
    let offset = reserved.before.before.before.before in
    let frontier = offset.before.before.before.before in
    let then = frontier.before.before in
    let a = then.args in
    rw (eq-eqb (length a.flow.now) flow_size then.if-flow-eq-FLOW_SIZE.true)
    (rows.put_number-then-flow-eq-FLOW_SIZE-2.ensures
    ∙ rw (reserved.put_number-then-flow-eq-FLOW_SIZE.ensures, offset.put_number.ensures, frontier.store.ensures) (placed-flow a.flow.now (set_of a.f) a.offset a.rows then.if-flow-eq-FLOW_SIZE.true))

returns-2 : tie.Need-returns-else-flow-eq-FLOW_SIZE
returns-2 c = rw (ne_eqb (length c.args.flow.now) flow_size c.if-flow-eq-FLOW_SIZE.false)

pub save_spec : {M : Type 1} → statement M
save_spec = tie.close (tie.spec store-requires put-number-requires put-number-requires-2 put-number-requires-3 same_length returns returns-2)
