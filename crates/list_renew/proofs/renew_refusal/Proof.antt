-- `renew_refusal` meets its promise. Assumes nothing.
use borrow.Author.Rules.{rules}
use mathlib.Core.Path.{◌∙◌}
use Rattle.list_renew.proofs.Renewing.{no_bytes}
use Rattle.list_renew.proofs.renew_refusal.Statement.{statement}
use Rattle.list_renew.proofs.renew_refusal.Tie as tie

offset-of-requires : tie.Need-offset_of-requires
offset-of-requires c κs = search rules

sub-flow-refusal : tie.Need-slice_bounds-flow_refusal-count
sub-flow-refusal c = search rules

part-flow-refusal-start : tie.Need-slice_bounds-flow_refusal-start
part-flow-refusal-start c = search rules

part-flow-refusal-end : tie.Need-slice_bounds-flow_refusal-end
part-flow-refusal-end c = search rules

flow-refusal-requires : tie.Need-flow_refusal-requires
flow-refusal-requires c κs = search rules

returns : tie.Need-returns
returns c =
    let a = c.args in
    c.flow_refusal.ensures ∙ rw c.offset_of.ensures (no_bytes a.flow.now (λ i. (c.shared_slice_known-1.given i).fits))

pub renew_refusal_spec : {M : Type 1} → statement M
renew_refusal_spec =
    tie.close
    (tie.spec
    offset-of-requires
    sub-flow-refusal
    part-flow-refusal-start
    part-flow-refusal-end
    flow-refusal-requires
    returns)
