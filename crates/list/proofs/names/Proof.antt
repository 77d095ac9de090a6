-- `names` goes through the records; the invariant is the definition for the records passed. Assumes nothing.
use borrow.Author.Rules.{rules}
use mathlib.Core.Path.{◌≡◌, sym, ap, ◌∙◌}
use Prim.Native.Nat.{◌≤◌, ◌-◌}
use native.Mathlib.Omega.{arith}
use lib.ListN.{length}
use Rattle.numbers.specs.Number.{num}
use Rattle.sets.specs.Set.{set_words}
use Rattle.sets.proofs.Sets.{empty-words}
use Rattle.list.specs.List.{records}
use Rattle.list.specs.Automaton.{named_by}
use Rattle.list.proofs.Named.{by-none, by-put}
use Rattle.list.proofs.names.Statement.{statement}
use Rattle.list.proofs.names.Tie as tie

abbrev invariant-loop : tie.invariant-loop-i
invariant-loop list n w₀ i₀ w i = (i ≤ n) × (length w ≡ set_words) × (num 64 w ≡ named_by list i)

abbrev decreases-loop : tie.decreases-loop-i
decreases-loop list n w₀ i₀ w i = n - i

records-requires : tie.Need-records-n-requires invariant-loop decreases-loop
records-requires c κs = search rules

loop-holds : tie.Need-loop-i-init invariant-loop decreases-loop
loop-holds c = (search rules, search rules, empty-words set_words ∙ sym (by-none c.args.list.now))

slice-aggregate-put-named : tie.Need-slice_bounds-put_named-end invariant-loop decreases-loop
slice-aggregate-put-named c = search rules

put-named-requires : tie.Need-put_named-requires invariant-loop decreases-loop
put-named-requires c κs = search rules

add-i : tie.Need-overflow_step-i invariant-loop decreases-loop
add-i c = search rules

loop-less : tie.Need-loop-i-smaller invariant-loop decreases-loop
loop-less c = search rules

loop-again : tie.Need-loop-i-preserved invariant-loop decreases-loop
loop-again c =
    let a = c.args in
    let l = c.loop-i in
    (search rules, search rules, c.put_named.ensures ∙ rw (l.invariant.1, l.invariant.2) (by-put a.list.now l.i))

of-words-requires : tie.Need-of_words-requires invariant-loop decreases-loop
of-words-requires c κs = search rules

returns : tie.Need-returns invariant-loop decreases-loop
returns c =
    let l = c.loop-i in
    let a = c.args in
    let e : l.i ≡ records a.list.now = omega arith in
    c.of_words.ensures ∙ l.invariant.2 ∙ ap (named_by a.list.now) e

pub names_spec : {M : Type 1} → statement M
names_spec =
    tie.close (tie.spec invariant-loop decreases-loop records-requires loop-holds slice-aggregate-put-named put-named-requires add-i loop-less loop-again of-words-requires returns)
