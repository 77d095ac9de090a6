-- `copy_record` writes the first four bytes as they are, and the digits of two numbers behind them.
use Rattle.std.proofs.Common.{◌≡◌, sym, ap, ◌∙◌, ◌+◌, ◌-◌, ◌*◌, ◌≤◌, length, take, drop}
use native.Mathlib.Omega.{arith}
use lib.ListN.{length-drop}
use lib.Seq.{length-take-le}
use Rattle.std.proofs.lemmas.Slice.{put_mid-paste}
use Rattle.numbers.specs.Number.{digits, placed}
use Rattle.numbers.proofs.Bytes.{placed-in}
use Rattle.list.proofs.Copied.{copied_at}
use Rattle.list.proofs.copy_record.Goals as goal

pub returns : goal.returns
returns c =
    let a = c.args in
    let head = take 4 (drop (8 * a.i) a.from.now) in
    let room : 4 ≤ length (drop (8 * a.i) a.from.now) = simp length-drop (omega arith) in
    let long = length-take-le 4 (drop (8 * a.i) a.from.now) room in
    let width : 8 * a.i + 4 - 8 * a.i ≡ 4 = omega arith in
    let same = c.copy_from_slice.ensures.after ∙ ap (λ k. take k (drop (8 * a.i) a.from.now)) width in
    let first =
    put_mid-paste a.at (a.at + 4 - a.at) a.list.now c.copy_from_slice.new.self head 4 same (omega arith) (sym long) ∙ placed-in a.list.now a.at head 4 long (omega arith) in
    c.put_number-2.ensures
    ∙ ap (λ z. placed z (a.at + 6) (digits 8 2 a.t)) (c.put_number.ensures ∙ ap (λ z. placed z (a.at + 4) (digits 8 2 a.f)) first)
    ∙ copied_at a.list.now a.from.now a.at a.i a.f a.t (omega arith) (omega arith)
