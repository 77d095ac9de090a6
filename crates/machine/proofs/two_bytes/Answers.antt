-- `two_bytes` reads two bytes. Assumes nothing.
use Rattle.std.proofs.Common.{◌≡◌, ◌+◌, ◌*◌, slice_index, sym, ◌∙◌, arith}
use Rattle.numbers.proofs.Bytes.{num-two}
use Rattle.machine.proofs.two_bytes.Goals as goal

pub returns : goal.returns
returns c =
    let a = c.args in
    let b : c.from_le_bytes.result ≡ slice_index a.b.now a.at + 256 * slice_index a.b.now (a.at + 1) = omega (arith, c.from_le_bytes.ensures) in
    b ∙ sym (num-two _ _ c.requires)
