-- Both kinds name a bit. Assumes nothing.
use Rattle.std.proofs.Common.{◌<◌, ℕ, ap, arith, get_or}
use borrow.Author.Tests.{lt-ltb}
use Rattle.sets.specs.Set.{join, insert}
use Rattle.machine.specs.Program.{without, bits_by}
use Rattle.machine.specs.Machine.{which_limits}
use Rattle.machine.proofs.Instructions.{which-below, one_at, bits-other}
use Rattle.machine.proofs.bits_by.Goals as goal

there : (c : goal.In-1) → c.args.w < 64
there c = let a = c.args in which-below a.k a.w a.n c.requires 64 (ap (λ (j : ℕ). get_or which_limits j 0) c.in-1.is)

there-2 : (c : goal.In-2) → c.args.w < 64
there-2 c = let a = c.args in which-below a.k a.w a.n c.requires 64 (ap (λ (j : ℕ). get_or which_limits j 0) c.in-2.is)

pub overflow_shl-result : goal.overflow_shl-result
overflow_shl-result c = there c

pub returns-in-1 : goal.returns-in-1
unfolding bits_by insert
returns-in-1 c = rw (c.in-1.is, one_at c.args.w (there c), lt-ltb c.args.w 64 (there c))

pub overflow_shl-one : goal.overflow_shl-one
overflow_shl-one c = there-2 c

pub returns-in-2 : goal.returns-in-2
unfolding bits_by without join
returns-in-2 c = rw (c.in-2.is, one_at c.args.w (there-2 c))

pub returns-in_default : goal.returns-in_default
returns-in_default c = let a = c.args in bits-other a.k a.w a.bits (λ e. omega arith) (λ e. omega arith)
