use Rattle.std.proofs.Common.{◌+◌, arith}
use Rattle.text_walk.proofs.Sum.{cap-most, cap-least}
use Rattle.text_walk.proofs.again.Goals as goal

pub seam-requires : goal.seam-requires
seam-requires c =
    let m = cap-most (c.args.base + c.args.x.size) in
    let n = cap-least c.args.base c.args.x.size c.requires.1 in
    (omega arith, omega arith, c.requires.2)
