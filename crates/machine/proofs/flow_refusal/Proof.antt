-- `flow_refusal` tests rule 4 and then the piece, so each return is the table's verdict. Assumes nothing.
use borrow.Author.Rules.{rules}
use mathlib.Core.Path.{sym, ◌∙◌}
use native.Mathlib.Omega.{arith}
use Rattle.rules.proofs.Rules.{skip, stop}
use Rattle.machine.proofs.Records.{offset-lt}
use Rattle.machine.proofs.flow_refusal.Statement.{statement}
use Rattle.machine.proofs.flow_refusal.Tie as tie

bad-flow-requires : tie.Need-bad_flow-requires
bad-flow-requires c κs = search rules

returns : tie.Need-returns-then-bad_flow
returns c = sym (stop 4 _ (sym c.bad_flow.ensures ∙ c.if-bad_flow.true))

offset-of-requires : tie.Need-offset_of-requires
offset-of-requires c κs = search rules

-- the offset is at most the largest
piece-refusal-requires : tie.Need-piece_refusal-requires
piece-refusal-requires c κs =
    let known = c.before.before.before.before in
    omega (arith, c.offset_of.ensures, offset-lt known.args.flow.now (λ i. (known.shared_slice_known-1.given i).fits))

returns-2 : tie.Need-returns
returns-2 c = rw c.offset_of.ensures at c.piece_refusal.ensures ∙ sym (skip 4 _ (sym c.bad_flow.ensures ∙ c.if-bad_flow.false))

pub flow_refusal_spec : {M : Type 1} → statement M
flow_refusal_spec = tie.close (tie.spec bad-flow-requires returns offset-of-requires piece-refusal-requires returns-2)
