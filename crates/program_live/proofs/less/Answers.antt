-- `less` meets its promise: some bytes more are done with, or all that are left. Assumes nothing.
use Rattle.std.proofs.Common.{◌-◌, arith, le-ltb, lt-ltb}
use Rattle.program_live.proofs.less.Goals as goal

pub returns-then-u-done : goal.returns-then-u-done
returns-then-u-done c =
    rw (lt-ltb (c.args.u.to - c.args.u.from) c.args.done c.if-u-done.true)

pub returns-else-u-done : goal.returns-else-u-done
returns-else-u-done c =
    rw (le-ltb (c.args.u.to - c.args.u.from) c.args.done (omega (arith, c.if-u-done.false)))
