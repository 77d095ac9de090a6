-- `recorded_unit` meets its promise: none, or the bytes are put into the array. Assumes nothing.
use Rattle.std.proofs.Common.{ℕ, ◌%◌, ap, arith}
use Rattle.program_live.proofs.Units.{unit-none, unit-is}
use Rattle.program_live.proofs.recorded_unit.Goals as goal

pub returns-then-input-at : goal.returns-then-input-at
returns-then-input-at c =
    unit-none _ _ _ _ c.requires c.no_unit.ensures (omega (arith, c.if-input-at.true))

pub returns-then-left-lt-HEAD : goal.returns-then-left-lt-HEAD
returns-then-left-lt-HEAD c =
    unit-none _ _ _ _ c.requires c.no_unit-then-left-lt-HEAD.ensures (omega (arith, c.if-left-lt-HEAD.true, c.if-input-at.false))

pub returns-then-left-n : goal.returns-then-left-n
returns-then-left-n c =
    unit-none _ _ _ _ c.requires c.no_unit-then-left-n.ensures (omega (arith, c.if-left-n.true, c.if-left-lt-HEAD.false, c.if-input-at.false, ap (λ (k : ℕ). k % 65536) c.number_at.ensures))

pub returns : goal.returns
returns c =
    let a = c.args in
    unit-is a.input.now a.at _ _ _ _ a.bytes.now _ (ap (λ (k : ℕ). k % 65536) c.number_at.ensures) (omega (arith, c.if-left-n.false, c.if-left-lt-HEAD.false, c.if-input-at.false)) c.short_number.ensures c.requires (omega arith) c.put_bytes.ensures
