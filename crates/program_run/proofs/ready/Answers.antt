-- `ready` meets its promise: what is readied is checked for the list. Assumes nothing.
use Rattle.program_run.proofs.Readying.{ready-index}
use Rattle.program_run.proofs.ready.Goals as goal

pub returns-then-made-eq-PASSED : goal.returns-then-made-eq-PASSED
returns-then-made-eq-PASSED c = ready-index _ _ _ _ c.prepare-made.ensures c.if-made-eq-PASSED.true
