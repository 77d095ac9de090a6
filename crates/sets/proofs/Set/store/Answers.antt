-- Bytes that do not fit are not written.
use Rattle.std.proofs.Common.{◌≡◌, ◌*◌, length, arith}
use Rattle.numbers.specs.Number.{digits}
use Rattle.numbers.proofs.Laws.{length_digits}
use Rattle.numbers.proofs.Bytes.{placed-out}
use Rattle.sets.specs.Set.{held}
use Rattle.sets.proofs.Set.store.Goals as goal

pub returns-else-b-at : goal.returns-else-b-at
returns-else-b-at g c =
    let l : length (digits 8 (8 * g.row.N) (held c.args.self)) ≡ 8 * g.row.N = length_digits 8 (8 * g.row.N) (held c.args.self) in
    placed-out c.args.b.now c.args.at (digits 8 (8 * g.row.N) (held c.args.self)) (omega arith)

pub returns-else-at-b : goal.returns-else-at-b
returns-else-at-b g c =
    let l : length (digits 8 (8 * g.row.N) (held c.args.self)) ≡ 8 * g.row.N = length_digits 8 (8 * g.row.N) (held c.args.self) in
    placed-out c.args.b.now c.args.at (digits 8 (8 * g.row.N) (held c.args.self)) (omega arith)
