-- `join_at` stores one byte of the set.
use Rattle.std.proofs.Common.{get_or, Fits, w8, rules}
use Rattle.matrix.proofs.Writing.{put-at}
use Rattle.matrix.proofs.join_at.Goals as goal

pub returns : goal.returns
returns c = let a = c.args in put-at a.matrix.now a.at a.t (λ i. let f : Fits w8 (get_or a.matrix.now i 0) = search rules in f.fits) c.requires.0 c.requires.1
