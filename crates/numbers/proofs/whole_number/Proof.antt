-- `whole_number` meets its promise. Assumes nothing.
use borrow.Author.Rules.{rules}
use mathlib.Core.Path.{◌≡◌, ◌∙◌, ap}
use Prim.Native.Nat.{ℕ, ◌≤◌, ◌-◌, ◌+◌}
use native.Mathlib.Omega.{arith}
use lib.ListN.{take, drop}
use Rattle.numbers.specs.Number.{num}
use Rattle.numbers.proofs.Bytes.{byte_more}
use Rattle.numbers.proofs.whole_number.Statement.{statement}
use Rattle.numbers.proofs.whole_number.Tie as tie

abbrev invariant-loop : tie.invariant-loop-j
invariant-loop b at n v₀ j₀ v j = (j ≤ n) × (v ≡ num 8 (take j (drop at b)))

abbrev decreases-loop : tie.decreases-loop-j
decreases-loop b at n v₀ j₀ v j = n - j

loop-holds : tie.Need-loop-j-init invariant-loop decreases-loop
unfolding num
loop-holds c = search rules

add-v : tie.Need-overflow_add-v invariant-loop decreases-loop
add-v c = search rules

shared-slice-read-v : tie.Need-bounds-b-at invariant-loop decreases-loop
shared-slice-read-v c = search rules

cast-v : tie.Need-overflow_cast-v invariant-loop decreases-loop
cast-v c =
    let a = c.before.before.before.args in
    omega (arith, c.shared_slice_known-1.given (a.at + c.before.before.loop-j.j))

mul-v : tie.Need-overflow_mul-v invariant-loop decreases-loop
mul-v c = search rules

shl-v : tie.Need-overflow_shl-v invariant-loop decreases-loop
shl-v c = search rules

add-j : tie.Need-overflow_step-j invariant-loop decreases-loop
add-j c = search rules

loop-less : tie.Need-loop-j-smaller invariant-loop decreases-loop
loop-less c = search rules

loop-again : tie.Need-loop-j-preserved invariant-loop decreases-loop
loop-again c =
    let a = c.before.before.before.args in
    let l = c.before.before.loop-j in
    (omega arith, rw l.invariant.1 (byte_more a.b.now a.at l.j (λ i. (c.shared_slice_known-1.given i).fits) (omega arith)))

returns : tie.Need-returns invariant-loop decreases-loop
returns c =
    let a = c.before.before.args in
    let l = c.before.loop-j in
    let e : l.j ≡ a.n = omega arith in
    l.invariant.1 ∙ ap (λ (n : ℕ). num 8 (take n (drop a.at a.b.now))) e

pub whole_number_spec : {M : Type 1} → statement M
whole_number_spec =
    tie.close (tie.spec invariant-loop decreases-loop loop-holds add-v shared-slice-read-v cast-v mul-v shl-v add-j loop-less loop-again returns)
