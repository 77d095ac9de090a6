-- A word turned over has the bits that it had not. Assumes nothing.
use Rattle.std.proofs.Common.{rules, ◌∙◌, ap, not, ◌-◌, ◌^◌, ◌≢◌, get_or, arith, get_or-set_other, Fits, w64}
use Rattle.std.specs.Int.Bits.{bit_xor}
use lib.Bits.{xor_lt}
use lib.Pow.{ones_lt}
use lib.ListN.{length-set}
use Rattle.numbers.specs.Number.{num}
use Rattle.numbers.proofs.Laws.{small-set}
use Rattle.sets.specs.Set.{holds}
use Rattle.sets_words.proofs.Further.{stride-more}
use Rattle.sets_words.proofs.Masks.{Reads, reads_all, reads-others}
use Rattle.sets_words.proofs.others.Goals as goal

pub loop-x-preserved : goal.loop-x-preserved
loop-x-preserved c =
    let l = c.loop-x in
    let a = c.args.set.words in
    let r = bit_xor (get_or l.x-items l.x-index 0) (2 ^ 64 - 1) in
    record {
      long = rw length-set l.invariant.long;
      small = small-set 64 l.x-items l.x-index r l.invariant.small (xor_lt 64 (get_or l.x-items l.x-index 0) (2 ^ 64 - 1) (l.invariant.small l.x-index) (ones_lt 64));
      done =
          stride-more (λ j x. Reads (λ z. not (holds (num 64 a) z)) j x) l.x-items l.x-index r (omega arith) l.invariant.done
          (rw (l.invariant.left l.x-index (omega arith)) (reads-others a (λ i. (let f : Fits w64 (get_or a i 0) = search rules in f.fits)) l.x-index));
      left = λ j h. let n : j ≢ l.x-index = omega arith in rw get_or-set_other (l.invariant.left j (omega arith));
    }

pub returns : goal.returns
returns c =
    let l = c.loop-x in
    λ x h. ap (λ z. holds z x) c.of_words.ensures
    ∙ reads_all (λ z. not (holds (num 64 c.args.set.words) z)) l.x-items (record { long = l.invariant.long; small = l.invariant.small })
    (λ i k. l.invariant.done i (omega arith)) x h
