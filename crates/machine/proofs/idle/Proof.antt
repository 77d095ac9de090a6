-- `idle` lays the words of a program over one another. Assumes nothing.
use borrow.Author.Rules.{rules}
use Prim.Native.Nat.{◌≤◌, ◌-◌, ◌+◌, ◌*◌}
use mathlib.Core.Path.{◌≡◌}
use native.Mathlib.Omega.{arith}
use lib.ListN.{take, drop}
use Rattle.numbers.specs.Number.{num}
use Rattle.sets.proofs.Words.{Laid, laid_none, laid_more}
use Rattle.machine.specs.Machine.{program_size}
use Rattle.machine.proofs.Programs.{laid-every}
use Rattle.machine.proofs.idle.Statement.{statement}
use Rattle.machine.proofs.idle.Tie as tie

abbrev invariant-loop : tie.invariant-loop-k
invariant-loop programs q all₀ k₀ all k = (k ≤ 4) × Laid (λ j. num 8 (take 8 (drop (program_size * q + 8 * j) programs))) k all

abbrev decreases-loop : tie.decreases-loop-k
decreases-loop programs q all₀ k₀ all k = 4 - k

loop-holds : tie.Need-loop-k-init invariant-loop decreases-loop
loop-holds c =
    let a = c.args in
    (search rules, laid_none (λ j. num 8 (take 8 (drop (program_size * a.q + 8 * j) a.programs.now))))

mul-whole-number : tie.Need-overflow_mul-q invariant-loop decreases-loop
mul-whole-number c = search rules

mul-whole-number-2 : tie.Need-overflow_mul-k invariant-loop decreases-loop
mul-whole-number-2 c = search rules

add-whole-number : tie.Need-overflow_add-q invariant-loop decreases-loop
add-whole-number c = search rules

whole-number-requires : tie.Need-whole_number-all-requires invariant-loop decreases-loop
whole-number-requires c κs = search rules

add-k : tie.Need-overflow_step-k invariant-loop decreases-loop
add-k c = search rules

loop-less : tie.Need-loop-k-smaller invariant-loop decreases-loop
loop-less c = search rules

loop-again : tie.Need-loop-k-preserved invariant-loop decreases-loop
loop-again c =
    let a = c.args in
    let l = c.loop-k in
    (omega arith, rw c.whole_number-all.ensures (laid_more (λ j. num 8 (take 8 (drop (program_size * a.q + 8 * j) a.programs.now))) l.k l.all l.invariant.1))

returns : tie.Need-returns invariant-loop decreases-loop
returns c =
    let a = c.args in
    let l = c.loop-k in
    let e : l.k ≡ 4 = omega arith in
    laid-every (λ j. num 8 (take 8 (drop (program_size * a.q + 8 * j) a.programs.now))) 4 l.all (rw e at l.invariant.1)

pub idle_spec : {M : Type 1} → statement M
idle_spec =
    tie.close
    (tie.spec
    invariant-loop
    decreases-loop
    loop-holds
    mul-whole-number
    mul-whole-number-2
    add-whole-number
    whole-number-requires
    add-k
    loop-less
    loop-again
    returns)
