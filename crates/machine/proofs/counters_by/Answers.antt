-- The three kinds name a counter. Assumes nothing.
use Rattle.std.proofs.Common.{◌≡◌, true, ◌<◌, ℕ, ap, arith, rules, get_or}
use Rattle.machine.specs.Program.{counters_by}
use Rattle.machine.specs.Machine.{which_limits, good_instruction}
use Rattle.machine.proofs.Instructions.{which-below, counters-stay}
use Rattle.machine.proofs.counters_by.Goals as goal

counter : (k w n : ℕ) → good_instruction k w n ≡ true → get_or which_limits k 0 ≡ 16 → w < 16
counter k w n h e = which-below k w n h 16 e

pub offset_bounds-counters-w : goal.offset_bounds-counters-w
offset_bounds-counters-w c = let l = counter c.args.k c.args.w c.args.n c.requires.0 (ap (λ (j : ℕ). get_or which_limits j 0) c.in-3.is) in search rules

pub bounds-counters-w : goal.bounds-counters-w
bounds-counters-w c = let l = counter c.args.k c.args.w c.args.n c.requires.0 (ap (λ (j : ℕ). get_or which_limits j 0) c.in-3.is) in omega arith

pub returns-in-3 : goal.returns-in-3
unfolding counters_by
returns-in-3 c = rw (c.in-3.is, c.from.ensures)

pub offset_bounds-counters-w-in-4 : goal.offset_bounds-counters-w-in-4
offset_bounds-counters-w-in-4 c = let l = counter c.args.k c.args.w c.args.n c.requires.0 (ap (λ (j : ℕ). get_or which_limits j 0) c.in-4.is) in search rules

pub bounds-counters-w-in-4 : goal.bounds-counters-w-in-4
bounds-counters-w-in-4 c = let l = counter c.args.k c.args.w c.args.n c.requires.0 (ap (λ (j : ℕ). get_or which_limits j 0) c.in-4.is) in omega arith

pub returns-in-4 : goal.returns-in-4
unfolding counters_by
returns-in-4 c = rw c.in-4.is

pub offset_bounds-counters-w-in-5 : goal.offset_bounds-counters-w-in-5
offset_bounds-counters-w-in-5 c = let l = counter c.args.k c.args.w c.args.n c.requires.0 (ap (λ (j : ℕ). get_or which_limits j 0) c.in-5.is) in search rules

pub bounds-counters-w-in-5 : goal.bounds-counters-w-in-5
bounds-counters-w-in-5 c = let l = counter c.args.k c.args.w c.args.n c.requires.0 (ap (λ (j : ℕ). get_or which_limits j 0) c.in-5.is) in omega arith

pub offset_bounds-counters-w-in-5-2 : goal.offset_bounds-counters-w-in-5-2
offset_bounds-counters-w-in-5-2 c = let l = counter c.args.k c.args.w c.args.n c.requires.0 (ap (λ (j : ℕ). get_or which_limits j 0) c.in-5.is) in search rules

pub bounds-counters-w-in-5-2 : goal.bounds-counters-w-in-5-2
bounds-counters-w-in-5-2 c = let l = counter c.args.k c.args.w c.args.n c.requires.0 (ap (λ (j : ℕ). get_or which_limits j 0) c.in-5.is) in omega arith

pub returns-in-5 : goal.returns-in-5
unfolding counters_by
returns-in-5 c = rw (c.in-5.is, c.lowered.ensures)

pub returns-in_default : goal.returns-in_default
returns-in_default c = let a = c.args in counters-stay a.k a.w a.n a.counters.now (λ e. omega arith) (λ e. omega arith) (λ e. omega arith)
