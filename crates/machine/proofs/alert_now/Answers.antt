-- The one kind names a bit, the other a counter. Assumes nothing.
use Rattle.std.proofs.Common.{◌<◌, ℕ, sym, ap, arith, rules, get_or}
use Rattle.sets.specs.Set.{holds}
use Rattle.sets.proofs.Sets.{or-false}
use Rattle.machine.specs.Machine.{which_limits}
use Rattle.machine.proofs.Instructions.{which-below}
use Rattle.machine.proofs.alert_now.Goals as goal

there : (c : goal.In-7) → c.args.w < 64
there c = let a = c.args in which-below a.k a.w a.n c.requires.0 64 (ap (λ (j : ℕ). get_or which_limits j 0) c.in-7.is)

pub overflow_shr-result : goal.overflow_shr-result
overflow_shr-result c = there c

pub returns-in-7 : goal.returns-in-7
unfolding holds
returns-in-7 c = rw c.in-7.is (sym (or-false _))

pub offset_bounds-counters-w : goal.offset_bounds-counters-w
offset_bounds-counters-w c = let l = which-below c.args.k c.args.w c.args.n c.requires.0 16 (ap (λ (j : ℕ). get_or which_limits j 0) c.in-8.is) in search rules

pub bounds-counters-w : goal.bounds-counters-w
bounds-counters-w c = let l = which-below c.args.k c.args.w c.args.n c.requires.0 16 (ap (λ (j : ℕ). get_or which_limits j 0) c.in-8.is) in omega arith
