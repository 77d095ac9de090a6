-- A set with no accepting state accepts nothing. Assumes nothing.
use Rattle.std.proofs.Common.{◌≡◌, not, eqb, sym, ap, ◌∙◌}
use Rattle.sets.specs.Set.{set_of}
use Rattle.list.specs.Automaton.{accepted}
use Rattle.list.proofs.Steps.{quiet}
use Rattle.index_fill.proofs.tells.Goals as goal

pub returns-then-meets : goal.returns-then-meets
returns-then-meets c =
    let a = c.args in
    let e : c.is_empty.result ≡ eqb (accepted a.list.now (set_of a.f)) 0 = c.is_empty.ensures ∙ rw c.accepted.ensures in
    ap not e

pub returns-else-meets : goal.returns-else-meets
returns-else-meets c =
    let a = c.args in
    let m = rw c.requires.0 at (sym c.meets.ensures ∙ c.if-meets.false) in
    c.if-meets.false ∙ sym (rw (quiet a.list.now (set_of a.f) c.requires.1 m))
