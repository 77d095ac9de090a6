-- `ask_all` asks each in turn; those asked so far were answered 0. Assumes nothing.
use borrow.Author.Rules.{rules}
use Prim.Native.Nat.{◌+◌, ◌-◌, ◌*◌, ◌≤◌}
use mathlib.Core.Path.{◌≡◌, refl, sym, ◌∙◌}
use native.Mathlib.Omega.{arith}
use lib.ListN.{length, get_or}
use Rattle.list_why.specs.Run.{of_signature}
use Rattle.list_why_laws.specs.Drivers.{AllAnswered}
use Rattle.list_why_laws.proofs.Driving.{same_answer, all_more}
use Rattle.list_why_laws.proofs.ask_all.Statement.{statement}
use Rattle.list_why_laws.proofs.ask_all.Tie as tie

abbrev invariant-loop : tie.invariant-loop-i
invariant-loop list flow piece pairs n run₀ work₀ i₀ run work i =
    (i ≤ n) × (length run ≡ length run₀) × (length work ≡ length work₀) × AllAnswered list flow piece pairs i run₀ work₀

abbrev decreases-loop : tie.decreases-loop-i
decreases-loop list flow piece pairs n run₀ work₀ i₀ run work i = n - i

loop-holds : tie.Need-loop-i-init invariant-loop decreases-loop
loop-holds c = (search rules, refl, refl, λ j l. absurd (omega arith))

mul-why : tie.Need-overflow_mul-i invariant-loop decreases-loop
mul-why c = search rules

mul-why-2 : tie.Need-offset_bounds-pairs-i invariant-loop decreases-loop
mul-why-2 c = search rules

shared-slice-read-why : tie.Need-bounds-pairs-i invariant-loop decreases-loop
shared-slice-read-why c = search rules

mul-why-3 : tie.Need-overflow_mul-i-in-loop-i invariant-loop decreases-loop
mul-why-3 c = search rules

add-why : tie.Need-overflow_add-i invariant-loop decreases-loop
add-why c = search rules

mul-why-4 : tie.Need-offset_bounds-pairs-i-in-loop-i invariant-loop decreases-loop
mul-why-4 c = search rules

shared-slice-read-why-2 : tie.Need-bounds-pairs-i-in-loop-i invariant-loop decreases-loop
shared-slice-read-why-2 c = search rules

cast-why : tie.Need-overflow_cast-pairs invariant-loop decreases-loop
cast-why c = omega (arith, (c.shared_slice_known-4-1.given (2 * c.loop-i.i + 1)).fits)

why-requires : tie.Need-why-refusal-requires invariant-loop decreases-loop
why-requires c κs = search rules

same_length : tie.Need-shape_of-run-then-refusal-ne-PASSED invariant-loop decreases-loop
same_length c = search rules

same-length-2 : tie.Need-shape_of-work-then-refusal-ne-PASSED invariant-loop decreases-loop
same-length-2 c = search rules

returns : tie.Need-returns-then-refusal-ne-PASSED invariant-loop decreases-loop
returns c =
    let p = c.loop-i in
    let a = c.args in
    let same = same_answer a.list.now a.flow.now 0 a.piece.now (of_signature (get_or a.pairs.now (2 * p.i) 0)) (get_or a.pairs.now (2 * p.i + 1) 0) p.run p.work a.run.now a.work.now p.invariant.1 p.invariant.2 in
    (λ z. absurd (c.if-refusal-ne-PASSED.true z), λ h. c.why-refusal.ensures.refuses ∙ same ∙ h p.i (search rules))

add-i : tie.Need-overflow_step-i invariant-loop decreases-loop
add-i c = search rules

loop-less : tie.Need-loop-i-smaller invariant-loop decreases-loop
loop-less c = search rules

loop-again : tie.Need-loop-i-preserved invariant-loop decreases-loop
loop-again c =
    let p = c.loop-i in
    let a = c.args in
    let same = same_answer a.list.now a.flow.now 0 a.piece.now (of_signature (get_or a.pairs.now (2 * p.i) 0)) (get_or a.pairs.now (2 * p.i + 1) 0) p.run p.work a.run.now a.work.now p.invariant.1 p.invariant.2 in (
      search rules,
      search rules,
      search rules,
      all_more a.list.now a.flow.now a.piece.now a.pairs.now p.i a.run.now a.work.now p.invariant.3 (sym same ∙ sym c.why-refusal.ensures.refuses ∙ c.if-refusal-ne-PASSED.false),
    )

same-length-3 : tie.Need-shape_of-run invariant-loop decreases-loop
same-length-3 c = search rules

same-length-4 : tie.Need-shape_of-work invariant-loop decreases-loop
same-length-4 c = search rules

returns-2 : tie.Need-returns invariant-loop decreases-loop
returns-2 c =
    let e : c.loop-i.i ≡ c.args.n = omega arith in
    (λ z. rw e at c.loop-i.invariant.3, λ h. refl)

pub ask_all_spec : {M : Type 1} → statement M
ask_all_spec =
    tie.close
    (tie.spec
    invariant-loop
    decreases-loop
    loop-holds
    mul-why
    mul-why-2
    shared-slice-read-why
    mul-why-3
    add-why
    mul-why-4
    shared-slice-read-why-2
    cast-why
    why-requires
    same_length
    same-length-2
    returns
    add-i
    loop-less
    loop-again
    same-length-3
    same-length-4
    returns-2)
