-- `watch` meets its promise: the opening's text is handed over, and, unless it is the last or is cut, those of the loop by the engine that is readied. Assumes nothing.
use Rattle.program_text.proofs.Arrays.{on_one, on_two}
use Rattle.std.proofs.Common.{ap}
use Rattle.program.specs.App.{is_last}
use Rattle.program.proofs.Handing.{begun-last, begun-cut, begun-then}
use Rattle.program_run.proofs.Beginning.{begun-alike}
use Rattle.std.proofs.Common.{rules}
use Rattle.program_run.proofs.watch.Goals as goal

pub returns-in_default : goal.returns-in_default
returns-in_default c =
    let a = c.args in
    on_one a.ends _ _ c.hand-taken.ensures.takes
    (λ input answers hand. begun-last a.list.now input answers a.log.now _ _ _ c.begin-said.ensures _ _ hand (ap is_last c.in_default.is))

pub returns-then-taken : goal.returns-then-taken
returns-then-taken c =
    let a = c.args in
    on_one a.ends _ _ c.hand-taken.ensures.takes
    (λ input answers hand. begun-cut a.list.now input answers a.log.now _ _ _ c.begin-said.ensures _ _ hand c.if-taken.true)

pub run-requires : goal.run-requires
run-requires c = (
  c.ready-by.ensures,
  begun-alike _ _ _ _ c.begin-said.ensures (ap is_last c.in-Some.is),
  search rules,
  search rules,
  c.hand-taken.ensures.end_in_bounds,
)

pub returns : goal.returns
returns c =
    let a = c.args in
    on_two a.ends _ _ _ c.hand-taken.ensures.takes c.run.ensures
    (λ input answers hand ran.
    begun-then a.list.now input answers a.log.now _ _ _ c.begin-said.ensures _ _ hand (ap is_last c.in-Some.is) c.if-taken.false _ _ ran)
