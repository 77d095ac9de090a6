-- `read_piece` meets its promise: a piece is read at its start, and else stays. Assumes nothing.
use Rattle.program.proofs.Handing.{held-read}
use Rattle.program.proofs.read_piece.Goals as goal

pub returns-in-Arrays-clause-held : goal.returns-in-Arrays-clause-held
returns-in-Arrays-clause-held c =
    rw c.in-Arrays.is (λ h. held-read _ _ _ _ c.if-offset-ne0.false c.read_array.ensures.1)
