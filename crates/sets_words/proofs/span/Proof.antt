-- `span` meets its promise. The loop's invariant: the first i words are done. Assumes nothing.
use borrow.Author.Rules.{rules}
use native.Mathlib.Omega.{arith}
use Prim.Native.Nat.{◌≤◌, ◌<◌, ◌-◌, ℕ}
use lib.ListN.{length, get_or}
use mathlib.Core.Path.{◌≡◌, ◌∙◌, ap}
use mathlib.Core.Bool.{◌&&◌, ◌||◌}
use lib.Dec.{leb}
use mir.Val.{Fits}
use mir.Syntax.{w64}
use Rattle.numbers.specs.Number.{num}
use Rattle.sets.specs.Set.{byte_words, holds}
use Rattle.numbers.proofs.Laws.{Small, small-set}
use Rattle.sets.proofs.Whole.{byte-set-valid-of}
use Rattle.sets_words.proofs.Further.{stride-more}
use lib.Bits.{bit_or, or_lt}
use Rattle.sets_words.proofs.Masks.{Reads, reads_all, reads-span}
use Rattle.sets_words.proofs.span.Statement.{statement}
use Rattle.sets_words.proofs.span.Tie as tie

abbrev invariant-loop : tie.invariant-loop-i
invariant-loop low high a w₀ i₀ w i = (i ≤ byte_words) × (length w ≡ byte_words) × Small 64 w × ((j : ℕ) → j < i → Reads (λ c. holds (num 64 a) c || (leb low c && leb c high)) j (get_or w j 0))

abbrev decreases-loop : tie.decreases-loop-i
decreases-loop low high a w₀ i₀ w i = byte_words - i

loop-holds : tie.Need-loop-i-init invariant-loop decreases-loop
loop-holds c =
    let v = byte-set-valid-of c.before.args.set _ c.before.well_formed.0 in
    (omega arith, v.long, v.small, λ j h. absurd (omega arith))

mul-w : tie.Need-offset_bounds-a-i invariant-loop decreases-loop
mul-w c = search rules

array-read-w : tie.Need-bounds-a-i invariant-loop decreases-loop
array-read-w c = search rules

ones-in-requires : tie.Need-ones_in-requires invariant-loop decreases-loop
ones-in-requires c κs = search rules

mul-w-2 : tie.Need-offset_bounds-w-i invariant-loop decreases-loop
mul-w-2 c = search rules

array-write-w : tie.Need-bounds-w-i invariant-loop decreases-loop
array-write-w c = search rules

add-i : tie.Need-overflow_step-i invariant-loop decreases-loop
add-i c = search rules

loop-less : tie.Need-loop-i-smaller invariant-loop decreases-loop
loop-less c = search rules

loop-again : tie.Need-loop-i-preserved invariant-loop decreases-loop
loop-again c =
    let a = c.before.before.before.before.args in
    let v = byte-set-valid-of a.set _ c.before.before.before.before.well_formed.0 in
    let l = c.before.before.loop-i in
    let m = c.ones_in.result in
    let f : Fits w64 m = search rules in
    let r = bit_or (get_or a.set.words l.i 0) m in (
      omega arith,
      search rules,
      small-set 64 l.w l.i r l.invariant.2 (or_lt 64 (get_or a.set.words l.i 0) m (v.small l.i) f.fits),
      stride-more (λ j x. Reads (λ z. holds (num 64 a.set.words) z || (leb a.low z && leb z a.high)) j x) l.w l.i r (omega arith) l.invariant.3 (reads-span a.set.words v.small a.low a.high l.i m c.ones_in.ensures),
    )

of-words-requires : tie.Need-of_words-requires invariant-loop decreases-loop
of-words-requires c κs = search rules

returns : tie.Need-returns invariant-loop decreases-loop
returns c =
    let a = c.before.before.before.before.args in
    let l = c.before.before.loop-i in
    λ x h. ap (λ z. holds z x) c.of_words.ensures ∙ reads_all (λ z. holds (num 64 a.set.words) z || (leb a.low z && leb z a.high)) l.w (record { long = l.invariant.1; small = l.invariant.2 }) (λ i k. l.invariant.3 i (omega arith)) x h

pub span_spec : {M : Type 1} → statement M
span_spec =
    tie.close
    (tie.spec
    invariant-loop
    decreases-loop
    loop-holds
    mul-w
    array-read-w
    ones-in-requires
    mul-w-2
    array-write-w
    add-i
    loop-less
    loop-again
    of-words-requires
    returns)
