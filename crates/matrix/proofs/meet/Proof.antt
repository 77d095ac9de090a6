-- `meet` lays the bytes' common ones over one another. Assumes nothing.
use borrow.Author.Rules.{rules}
use mathlib.Core.Path.{◌≡◌}
use Prim.Native.Nat.{zero, ◌≤◌, ◌<◌, ◌-◌}
use native.Mathlib.Omega.{arith}
use lib.ListN.{get_or}
use lib.Bits.{bit_and}
use Rattle.sets.specs.Set.{set_size}
use Rattle.numbers.proofs.Laws.{Small}
use Rattle.sets.proofs.Words.{Laid, laid_none, laid_more}
use Rattle.matrix.proofs.Joining.{meets-all}
use Rattle.matrix.proofs.meet.Statement.{statement}
use Rattle.matrix.proofs.meet.Tie as tie

abbrev invariant-loop : tie.invariant-loop-i
invariant-loop a b shared₀ i₀ shared i = (i ≤ set_size) × Laid (λ j. bit_and (get_or a j 0) (get_or b j 0)) i shared × (zero < i → Small 8 a) × (zero < i → Small 8 b)

abbrev decreases-loop : tie.decreases-loop-i
decreases-loop a b shared₀ i₀ shared i = set_size - i

loop-holds : tie.Need-loop-i-init invariant-loop decreases-loop
loop-holds c =
    (omega arith, laid_none (λ j. bit_and (get_or c.args.a.now j 0) (get_or c.args.b.now j 0)), λ h. absurd (omega arith), λ h. absurd (omega arith))

shared-slice-read-shared : tie.Need-bounds-a-i invariant-loop decreases-loop
shared-slice-read-shared c = search rules

shared-slice-read-shared-2 : tie.Need-bounds-b-i invariant-loop decreases-loop
shared-slice-read-shared-2 c = search rules

add-i : tie.Need-overflow_step-i invariant-loop decreases-loop
add-i c = search rules

loop-less : tie.Need-loop-i-smaller invariant-loop decreases-loop
loop-less c = search rules

loop-again : tie.Need-loop-i-preserved invariant-loop decreases-loop
loop-again c =
    let l = c.loop-i in
    let a = c.args in
    (omega arith, laid_more (λ j. bit_and (get_or a.a.now j 0) (get_or a.b.now j 0)) l.i l.shared l.invariant.1, λ h j. (c.shared_slice_known-1.given j).fits, λ h j. (c.shared_slice_known-in-loop-i-1.given j).fits)

returns : tie.Need-returns invariant-loop decreases-loop
returns c =
    let s = c.before.before in
    let l = c.loop-i in
    let e : l.i ≡ set_size = omega arith in
    meets-all s.args.a.now s.args.b.now (l.invariant.2 (omega (arith, e))) (l.invariant.3 (omega (arith, e))) l.shared (rw e at l.invariant.1)

pub meet_spec : {M : Type 1} → statement M
meet_spec = tie.close (tie.spec invariant-loop decreases-loop loop-holds shared-slice-read-shared shared-slice-read-shared-2 add-i loop-less loop-again returns)
