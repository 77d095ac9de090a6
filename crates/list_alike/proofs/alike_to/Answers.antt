-- `alike_to` answers the byte that was compared, or c.
use Rattle.std.proofs.Common.{sym, ◌∙◌}
use Rattle.list_alike.proofs.Alike.{alike-steps}
use Rattle.list_alike.proofs.alike_to.Goals as goal

pub returns-then-edges_alike : goal.returns-then-edges_alike
returns-then-edges_alike c =
    let a = c.args in
    alike-steps a.list.now c.byte_at-d.result a.c (sym c.edges_alike.ensures ∙ c.if-edges_alike.true)
