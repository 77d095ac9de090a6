-- `step` goes through the records; the invariant is the definition for the records passed. Assumes nothing.
use borrow.Author.Rules.{rules}
use mathlib.Core.Path.{◌≡◌, refl}
use Prim.Native.Nat.{◌≤◌, ◌-◌}
use native.Mathlib.Omega.{arith}
use native.Mathlib.Numerals.{add-one}
use lib.ListN.{length}
use Rattle.numbers.specs.Number.{num}
use Rattle.sets.specs.Set.{states, set_words}
use Rattle.sets.proofs.Sets.{empty-words}
use Rattle.sets.proofs.Whole.{valid-of}
use Rattle.rules.specs.Scan.{gather}
use Rattle.list.specs.List.{records, target}
use Rattle.list.specs.Automaton.{edge, leaves, step}
use Rattle.list.proofs.Quick.{has-place}
use Rattle.list.proofs.step.Statement.{statement}
use Rattle.list.proofs.step.Tie as tie

abbrev invariant-loop : tie.invariant-loop-i
invariant-loop list c n frontier all d w₀ i₀ w i =
    (i ≤ n) × (length w ≡ set_words) × (num 64 w ≡ gather states (leaves list (num 64 frontier) (edge list c)) (target list) i)

abbrev decreases-loop : tie.decreases-loop-i
decreases-loop list c n frontier all d w₀ i₀ w i = n - i

records-requires : tie.Need-records-n-requires invariant-loop decreases-loop
records-requires c κs = search rules

slice-aggregate-places : tie.Need-slice_bounds-places-end invariant-loop decreases-loop
slice-aggregate-places c = search rules

places-requires : tie.Need-places-all-requires invariant-loop decreases-loop
places-requires c κs = search rules

exchanged-requires : tie.Need-exchanged-d-requires invariant-loop decreases-loop
exchanged-requires c κs = search rules

loop-holds : tie.Need-loop-i-init invariant-loop decreases-loop
unfolding gather
loop-holds c = (search rules, search rules, empty-words set_words)

slice-aggregate-leads : tie.Need-slice_bounds-leads-end invariant-loop decreases-loop
slice-aggregate-leads c = search rules

leads-requires : tie.Need-leads-requires invariant-loop decreases-loop
leads-requires c κs =
    let x = c.before.before.before.before in
    let p = x.before in
    let s = p.before.before.before.before.before in
    (search rules, x.exchanged-d.ensures, has-place set_words s.args.f.words _ (valid-of s.args.f _ s.well_formed.1.0) p.places-all.ensures)

slice-aggregate-put-word : tie.Need-slice_bounds-put_word-end invariant-loop decreases-loop
slice-aggregate-put-word c = search rules

put-word-requires : tie.Need-put_word-requires invariant-loop decreases-loop
put-word-requires c κs = search rules

add-i : tie.Need-overflow_step-i invariant-loop decreases-loop
add-i c = search rules

loop-less : tie.Need-loop-i-smaller invariant-loop decreases-loop
loop-less c = search rules

loop-again : tie.Need-loop-i-preserved invariant-loop decreases-loop
unfolding gather
loop-again c =
    let p = c.loop-i in
    (search rules, search rules, rw (add-one, c.put_word.ensures, c.leads.ensures, p.invariant.1, p.invariant.2) refl)

of-words-requires : tie.Need-of_words-requires invariant-loop decreases-loop
of-words-requires c κs = search rules

returns : tie.Need-returns invariant-loop decreases-loop
unfolding step
returns c = let e : c.loop-i.i ≡ records c.args.list.now = omega arith in cc

pub step_spec : {M : Type 1} → statement M
step_spec =
    tie.close
    (tie.spec
    invariant-loop
    decreases-loop
    records-requires
    slice-aggregate-places
    places-requires
    exchanged-requires
    loop-holds
    slice-aggregate-leads
    leads-requires
    slice-aggregate-put-word
    put-word-requires
    add-i
    loop-less
    loop-again
    of-words-requires
    returns)
