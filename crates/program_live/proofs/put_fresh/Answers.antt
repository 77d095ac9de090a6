-- `put_fresh` meets its promise. Assumes nothing.
use Rattle.std.proofs.Common.{arith}
use Rattle.io.proofs.Counting.{prefix_len_of_le}
use Rattle.program_live.proofs.put_fresh.Goals as goal

pub returns : goal.returns
returns c =
    prefix_len_of_le _ _ (omega (arith, c.put_bytes.ensures.0, c.put_bytes.ensures.3, c.put_bytes-at.ensures.0, c.put_bytes-at.ensures.3))
