-- `read_array` meets its promise: as much of the input as goes into a piece is put there. Assumes nothing.
use mathlib.Core.Path.{◌∙◌}
use native.Mathlib.Omega.{arith}
use lib.ListN.{length}
use Rattle.std.proofs.lemmas.Slice.{between_to_end}
use Rattle.program.proofs.Handing.{read-front}
use Rattle.program.proofs.read_array.Goals as goal

pub returns : goal.returns
returns c =
    let a = c.args in
    let part = read-front c.in-Some.left.now a.piece.now c.min-n.result _ _ c.requires c.min-n.ensures c.put_bytes.ensures in
    let e = c.in-Some.ensures.lookup.0.2 ∙ between_to_end a.input.now a.offset (length a.input.now) (omega arith) in
    rw e at part
