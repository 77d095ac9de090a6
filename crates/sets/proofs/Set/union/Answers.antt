-- Word for word the union of the words is the union of the sets.
use Rattle.std.proofs.Common.{rules, ℕ, get_or, arith, Fits, w64}
use Rattle.std.specs.Int.Bits.{bit_or}
use Rattle.numbers.proofs.Laws.{fill_more}
use Rattle.sets.proofs.Sets.{Words}
use Rattle.sets.proofs.Words.{join-words}
use Rattle.sets.proofs.Set.union.Goals as goal

pub loop-i-preserved : goal.loop-i-preserved
loop-i-preserved g c =
    (search rules, fill_more (λ (j : ℕ). bit_or (get_or c.args.self.words j 0) (get_or c.args.other.words j 0)) c.loop-i.words c.loop-i.i (omega arith) c.loop-i.invariant.1)

pub returns : goal.returns
returns g c =
    let a : Words g.row.N c.args.self.words = record { long = search rules; small = λ i. (let f : Fits w64 (get_or c.args.self.words i 0) = search rules in f.fits) } in
    let b : Words g.row.N c.args.other.words = record { long = search rules; small = λ i. (let f : Fits w64 (get_or c.args.other.words i 0) = search rules in f.fits) } in
    join-words g.row.N c.args.self.words c.args.other.words a b c.loop-i.words c.loop-i.invariant.0 (λ j h. c.loop-i.invariant.1 j (omega arith))
