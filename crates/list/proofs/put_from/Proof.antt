-- `put_from` goes through the records; the words hold what those passed name, and it ends at the first that is not good. Assumes nothing.
use borrow.Author.Rules.{rules}
use mathlib.Core.Path.{◌≡◌, refl, sym, ◌∙◌}
use mathlib.Core.Bool.{and-true, and-false, false≢true}
use Prim.Native.Nat.{◌≤◌, ◌-◌}
use native.Mathlib.Omega.{arith}
use native.Mathlib.Numerals.{add-one}
use lib.ListN.{length}
use borrow.Author.Tests.{not-true, not-false}
use Rattle.numbers.specs.Number.{num}
use Rattle.sets.specs.Set.{set_words}
use Rattle.rules.specs.Scan.{every}
use Rattle.rules.proofs.Scanning.{every-fails}
use Rattle.list.specs.List.{good_record}
use Rattle.list.specs.Automaton.{named_by}
use Rattle.list.proofs.Named.{by-put}
use Rattle.list.proofs.put_from.Statement.{statement}
use Rattle.list.proofs.put_from.Tie as tie

abbrev invariant-loop : tie.invariant-loop-i
invariant-loop list from end w₀ i₀ w i =
    (i ≤ end) × (length w ≡ set_words) × (every i (good_record list) ≡ every from (good_record list)) × (num 64 w ≡ named_by list i)

abbrev decreases-loop : tie.decreases-loop-i
decreases-loop list from end w₀ i₀ w i = end - i

loop-holds : tie.Need-loop-i-init invariant-loop decreases-loop
loop-holds c = let p = c.requires in (search rules, p.2, refl, p.3)

put-good-requires : tie.Need-put_good-requires invariant-loop decreases-loop
put-good-requires c κs = search rules

same_length : tie.Need-shape_of-w-then-not-put_good invariant-loop decreases-loop
same_length c = search rules

returns : tie.Need-returns-then-not-put_good invariant-loop decreases-loop
returns c =
    let p = c.before.before.before in
    let h = p.before.before.before in
    let a = h.args in (
      and-false (every a.from (good_record a.list.now)) ∙ sym (every-fails a.end (good_record a.list.now) h.loop-i.i (omega arith) (sym p.put_good.ensures.0 ∙ not-true _ c.if-not-put_good.true-raw)),
      λ t. absurd (false≢true t),
    )

add-i : tie.Need-overflow_step-i invariant-loop decreases-loop
add-i c = search rules

loop-less : tie.Need-loop-i-smaller invariant-loop decreases-loop
loop-less c = search rules

loop-again : tie.Need-loop-i-preserved invariant-loop decreases-loop
unfolding every
loop-again c =
    let p = c.before.before.before in
    let h = p.before.before.before in
    let l = h.loop-i in
    let good = not-false _ c.if-not-put_good.false-raw in (
      search rules,
      search rules,
      rw (add-one, l.invariant.2, sym p.put_good.ensures.0 ∙ good) (and-true _),
      p.put_good.ensures.1 ∙ rw (good, l.invariant.1, l.invariant.3) (by-put h.args.list.now l.i),
    )

same-length-2 : tie.Need-shape_of-w invariant-loop decreases-loop
same-length-2 c = search rules

returns-2 : tie.Need-returns invariant-loop decreases-loop
returns-2 c =
    let l = c.loop-i in
    let e : l.i ≡ c.args.end = omega arith in
    (and-true _ ∙ sym (rw e at l.invariant.2), λ t. rw e at l.invariant.3)

pub put_from_spec : {M : Type 1} → statement M
put_from_spec = tie.close (tie.spec invariant-loop decreases-loop loop-holds put-good-requires same_length returns add-i loop-less loop-again same-length-2 returns-2)
