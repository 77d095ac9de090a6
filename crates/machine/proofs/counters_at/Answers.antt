-- Four bytes for each counter. Assumes nothing.
use Rattle.std.proofs.Common.{ℕ, ◌+◌, ◌*◌, take, drop, arith}
use lib.ListN.{length-set}
use Rattle.numbers.specs.Number.{num}
use Rattle.numbers.proofs.Laws.{fill_more, num-take-lt}
use Rattle.feed.proofs.Runs.{bytes_drop}
use Rattle.machine.proofs.Records.{counters-read}
use Rattle.machine.proofs.counters_at.Goals as goal

pub overflow_cast-c : goal.overflow_cast-c
overflow_cast-c c =
    let R = c.args.b.now in
    let i = c.args.at + 4 * c.loop-i.i in
    omega (arith, c.whole_number.ensures, num-take-lt 8 (drop i R) (bytes_drop i R (λ j. (c.type_inv.b j).fits)) 4)

pub loop-i-preserved : goal.loop-i-preserved
loop-i-preserved c =
    let a = c.args in
    let l = c.loop-i in
    record {
      long = omega (arith, length-set {A = ℕ});
      read = rw c.whole_number.ensures (fill_more (λ (j : ℕ). num 8 (take 4 (drop (a.at + 4 * j) a.b.now))) l.c l.i (omega arith) l.invariant.read);
    }

pub returns : goal.returns
returns c =
    let l = c.loop-i in
    counters-read c.args.b.now c.args.at l.c l.invariant.long (λ j h. l.invariant.read j (omega arith))
