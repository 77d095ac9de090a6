use Rattle.std.proofs.Common.{◌+◌, arith}
use Rattle.text_walk.proofs.Sum.{cap-most, cap-least}
use Rattle.text_walk.proofs.then.Goals as goal

pub seam-requires : goal.seam-requires
seam-requires c =
    let m = cap-most (c.args.low + c.args.y.size) in
    let n = cap-least c.args.low c.args.y.size c.requires.2 in
    (omega arith, omega arith, c.requires.3)
