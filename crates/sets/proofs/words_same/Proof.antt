-- `words_same` meets its promise. Assumes nothing.
use borrow.Author.Rules.{rules}
use mathlib.Core.Path.{◌≡◌}
use Prim.Native.Nat.{◌≤◌, ◌<◌, ◌-◌}
use native.Mathlib.Omega.{arith}
use lib.ListN.{length, get_or}
use Rattle.numbers.proofs.Laws.{Small}
use Rattle.sets.proofs.Words.{Alike, alike-none, alike-more, alike-lists}
use Rattle.sets.proofs.words_same.Statement.{statement}
use Rattle.sets.proofs.words_same.Tie as tie

abbrev invariant-loop : tie.invariant-loop-i
invariant-loop a b all₀ i₀ i-end all i = (i ≤ length a) × Alike (λ j. get_or a j 0) (λ j. get_or b j 0) i all × (0 < i → Small 64 a × Small 64 b)

abbrev decreases-loop : tie.decreases-loop-i
decreases-loop a b all₀ i₀ i-end all i = length a - i

loop-holds : tie.Need-loop-i-init invariant-loop decreases-loop
loop-holds c = (search rules, alike-none (λ j. get_or c.args.a.now j 0) (λ j. get_or c.args.b.now j 0), λ l. absurd (omega arith))

mul-all : tie.Need-offset_bounds-a-i invariant-loop decreases-loop
mul-all c = search rules

shared-slice-read-all : tie.Need-bounds-a-i invariant-loop decreases-loop
shared-slice-read-all c = search rules

mul-all-2 : tie.Need-offset_bounds-b-i invariant-loop decreases-loop
mul-all-2 c = search rules

shared-slice-read-all-2 : tie.Need-bounds-b-i invariant-loop decreases-loop
shared-slice-read-all-2 c = search rules

add-i : tie.Need-overflow_step-i invariant-loop decreases-loop
add-i c = search rules

loop-less : tie.Need-loop-i-smaller invariant-loop decreases-loop
loop-less c = search rules

loop-again : tie.Need-loop-i-preserved invariant-loop decreases-loop
loop-again c =
    let l = c.before.before.before.loop-i in
    let a = c.before.before.before.before.args in
    (omega arith, alike-more (λ j. get_or a.a.now j 0) (λ j. get_or a.b.now j 0) l.i l.all l.invariant.1, λ k. ((λ j. (c.before.shared_slice_known-1.given j).fits), (λ j. (c.shared_slice_known-in-loop-i-1.given j).fits)))

returns : tie.Need-returns invariant-loop decreases-loop
returns c =
    let l = c.before.loop-i in
    let a = c.before.before.args in
    let e : l.i ≡ length a.a.now = omega arith in
    alike-lists a.a.now a.b.now c.before.before.requires l.all (rw e at l.invariant.1) (rw e at l.invariant.2)

pub words_same_spec : {M : Type 1} → statement M
words_same_spec = tie.close (tie.spec invariant-loop decreases-loop loop-holds mul-all shared-slice-read-all mul-all-2 shared-slice-read-all-2 add-i loop-less loop-again returns)
