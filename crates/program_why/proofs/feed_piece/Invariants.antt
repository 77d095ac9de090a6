-- What is left of the piece gets shorter.
use Rattle.std.proofs.Common.{length}
use Rattle.program_why.proofs.feed_piece.Given as goal

abbrev pub decreases-loop-rest : goal.decreases-loop-rest
decreases-loop-rest l = length l.rest
