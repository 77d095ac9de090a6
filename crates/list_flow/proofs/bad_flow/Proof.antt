-- `bad_flow` meets its promise. Assumes nothing.
use borrow.Author.Rules.{rules}
use native.Mathlib.Omega.{arith}
use lib.ListN.{length}
use borrow.Author.Tests.{eq-eqb, ne_eqb}
use Rattle.list_flow.specs.Flow.{flow_size, bad_flow}
use Rattle.list_flow.proofs.Records.{offset-lt}
use Rattle.list_flow.proofs.bad_flow.Statement.{statement}
use Rattle.list_flow.proofs.bad_flow.Tie as tie

returns : tie.Need-returns-then-flow-ne-FLOW_SIZE
unfolding bad_flow
returns c = rw (ne_eqb (length c.args.flow.now) flow_size c.if-flow-ne-FLOW_SIZE.true)

reserved-of-requires : tie.Need-reserved_of-requires
reserved-of-requires c κs = search rules

offset-of-requires : tie.Need-offset_of-requires
offset-of-requires c κs = search rules

mul-result : tie.Need-overflow_mul-result
mul-result c = omega (arith, c.offset_of.ensures, offset-lt c.args.flow.now (λ i. (c.shared_slice_known-1.given i).fits))

rows-of-requires : tie.Need-rows_of-requires
rows-of-requires c κs = search rules

returns-2 : tie.Need-returns
unfolding bad_flow
returns-2 c =
    rw (
      c.rows_of.ensures,
      c.offset_of.ensures,
      c.reserved_of.ensures,
      eq-eqb (length c.args.flow.now) flow_size c.if-flow-ne-FLOW_SIZE.false,
    )

pub bad_flow_spec : {M : Type 1} → statement M
bad_flow_spec = tie.close (tie.spec returns reserved-of-requires offset-of-requires mul-result rows-of-requires returns-2)
