-- Four bytes for each counter. Assumes nothing.
use Rattle.std.proofs.Common.{◌≡◌, ℕ, ◌+◌, ◌*◌, List, length, get_or, take, sym, ap, ◌∙◌, arith}
use lib.Seq.{length-take-le, take_all}
use Rattle.numbers.specs.Number.{digits, placed}
use Rattle.numbers.proofs.Laws.{length_digits}
use Rattle.numbers.proofs.Placing.{placed-none, placed-after}
use Rattle.machine.specs.Record.{four_bytes}
use Rattle.machine.proofs.Records.{bytes-length, bytes-more, bytes-none}
use Rattle.machine.proofs.put_counters.Goals as goal

pub loop-i-init : goal.loop-i-init
loop-i-init c =
    let R = c.args.flow.now in
    placed-none R 16 (omega arith) ∙ ap (placed R 16) (sym bytes-none)

pub loop-i-preserved : goal.loop-i-preserved
loop-i-preserved c =
    let ns = c.args.values.now in
    let R = c.args.flow.now in
    let i = c.loop-i.i in
    let x = get_or ns i 0 in
    let xs = four_bytes (take i ns) in
    let front : length xs ≡ 4 * i = bytes-length (take i ns) ∙ ap (λ (n : ℕ). 4 * n) (length-take-le i ns (omega arith)) in
    c.put_number.ensures
    ∙ rw c.from.ensures (ap (λ (b : List ℕ). placed b (16 + 4 * i) (digits 8 4 x)) c.loop-i.invariant
    ∙ placed-after R 16 xs (digits 8 4 x) (16 + 4 * i) (omega arith) (omega (arith, length_digits 8 4 x))
    ∙ ap (placed R 16) (bytes-more ns i (omega arith)))

pub returns : goal.returns
returns c =
    let l = c.loop-i in
    l.invariant ∙ ap (λ (ns : List ℕ). placed c.args.flow.now 16 (four_bytes ns)) (take_all l.i c.args.values.now (omega arith))
