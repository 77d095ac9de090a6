-- `good_targets` goes through the targets; the invariant is the definition for those passed. Assumes nothing.
use borrow.Author.Rules.{rules}
use mathlib.Core.Path.{◌≡◌}
use Prim.Native.Nat.{◌≤◌, ◌-◌, ◌*◌, ◌/◌}
use native.Mathlib.Omega.{arith}
use native.Mathlib.Numerals.{add-one}
use lib.ListN.{length}
use Rattle.rules.specs.Scan.{every}
use Rattle.machine.specs.Machine.{good_target}
use Rattle.machine.proofs.good_targets.Statement.{statement}
use Rattle.machine.proofs.good_targets.Tie as tie

abbrev invariant-loop : tie.invariant-loop-i
invariant-loop moves states n all₀ i₀ i-end all i = (i ≤ i-end) × (all ≡ every i (good_target moves))

abbrev decreases-loop : tie.decreases-loop-i
decreases-loop moves states n all₀ i₀ i-end all i = i-end - i

cast-n : tie.Need-overflow_cast-n invariant-loop decreases-loop
cast-n c = search rules

mul-i-end : tie.Need-overflow_mul-i-end invariant-loop decreases-loop
mul-i-end c = search rules

loop-holds : tie.Need-loop-i-init invariant-loop decreases-loop
unfolding every
loop-holds c = (search rules, mathlib.Core.Path.refl)

mul-two-bytes : tie.Need-overflow_mul-i invariant-loop decreases-loop
mul-two-bytes c = search rules

two-bytes-requires : tie.Need-two_bytes-requires invariant-loop decreases-loop
two-bytes-requires c κs = search rules

add-i : tie.Need-overflow_step-i invariant-loop decreases-loop
add-i c = search rules

loop-less : tie.Need-loop-i-smaller invariant-loop decreases-loop
loop-less c = search rules

loop-again : tie.Need-loop-i-preserved invariant-loop decreases-loop
unfolding every
loop-again c = (search rules, rw add-one (cc))

returns : tie.Need-returns invariant-loop decreases-loop
returns c = let e : c.loop-i.i ≡ 256 * (length c.args.moves.now / 512) = omega arith in cc

pub good_targets_spec : {M : Type 1} → statement M
good_targets_spec =
    tie.close
    (tie.spec
    invariant-loop
    decreases-loop
    cast-n
    mul-i-end
    loop-holds
    mul-two-bytes
    two-bytes-requires
    add-i
    loop-less
    loop-again
    returns)
