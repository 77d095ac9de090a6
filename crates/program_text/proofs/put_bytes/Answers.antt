-- `put_bytes` meets its promise: the bytes stand in the part that is copied over. Assumes nothing.
use mathlib.Core.Path.{refl, ap, ◌∙◌}
use Prim.Native.Nat.{◌+◌, ◌-◌}
use native.Mathlib.Omega.{arith}
use lib.ListN.{length}
use Rattle.std.proofs.lemmas.Slice.{put_mid-paste}
use Rattle.numbers.proofs.Bytes.{placed-in}
use Rattle.numbers.proofs.Placing.{length-placed}
use Rattle.program_text.proofs.put_bytes.Goals as goal

pub returns : goal.returns
returns c =
    let a = c.args in
    let k = length a.bytes.now in
    let e =
    put_mid-paste a.at (a.at + k - a.at) a.text.now c.copy_from_slice.new.self a.bytes.now k c.copy_from_slice.ensures.after (omega arith) refl
    ∙ placed-in a.text.now a.at a.bytes.now k refl c.requires in
    (refl, omega arith, e, ap length e ∙ length-placed a.text.now a.at a.bytes.now)
