-- `accepted` goes through the records; the invariant is the definition for the records passed. Assumes nothing.
use borrow.Author.Rules.{rules}
use mathlib.Core.Path.{◌≡◌, refl}
use Prim.Native.Nat.{◌≤◌, ◌-◌}
use native.Mathlib.Omega.{arith}
use native.Mathlib.Numerals.{add-one}
use lib.ListN.{length}
use Rattle.numbers.specs.Number.{num}
use Rattle.sets.specs.Set.{signatures, sig_words}
use Rattle.sets.proofs.Sets.{empty-words}
use Rattle.rules.specs.Scan.{gather}
use Rattle.list.specs.List.{records, is_accept, target}
use Rattle.list.specs.Automaton.{leaves, accepted}
use Rattle.list.proofs.accepted.Statement.{statement}
use Rattle.list.proofs.accepted.Tie as tie

abbrev invariant-loop : tie.invariant-loop-i
invariant-loop list n frontier w₀ i₀ w i =
    (i ≤ n) × (length w ≡ sig_words) × (num 64 w ≡ gather signatures (leaves list (num 64 frontier) (is_accept list)) (target list) i)

abbrev decreases-loop : tie.decreases-loop-i
decreases-loop list n frontier w₀ i₀ w i = n - i

records-requires : tie.Need-records-n-requires invariant-loop decreases-loop
records-requires c κs = search rules

loop-holds : tie.Need-loop-i-init invariant-loop decreases-loop
unfolding gather
loop-holds c = (search rules, search rules, empty-words sig_words)

slice-aggregate-accepts : tie.Need-slice_bounds-accepts-end invariant-loop decreases-loop
slice-aggregate-accepts c = search rules

accepts-requires : tie.Need-accepts-requires invariant-loop decreases-loop
accepts-requires c κs = search rules

slice-aggregate-put-word : tie.Need-slice_bounds-put_word-end invariant-loop decreases-loop
slice-aggregate-put-word c = search rules

put-word-requires : tie.Need-put_word-requires invariant-loop decreases-loop
put-word-requires c κs = search rules

add-i : tie.Need-overflow_step-i invariant-loop decreases-loop
add-i c = search rules

loop-less : tie.Need-loop-i-smaller invariant-loop decreases-loop
loop-less c = search rules

loop-again : tie.Need-loop-i-preserved invariant-loop decreases-loop
unfolding gather
loop-again c =
    let p = c.loop-i in
    (search rules, search rules, rw (add-one, c.put_word.ensures, c.accepts.ensures, p.invariant.1, p.invariant.2) refl)

of-words-requires : tie.Need-of_words-requires invariant-loop decreases-loop
of-words-requires c κs = search rules

returns : tie.Need-returns invariant-loop decreases-loop
unfolding accepted
returns c = let e : c.loop-i.i ≡ records c.args.list.now = omega arith in cc

pub accepted_spec : {M : Type 1} → statement M
accepted_spec =
    tie.close
    (tie.spec
    invariant-loop
    decreases-loop
    records-requires
    loop-holds
    slice-aggregate-accepts
    accepts-requires
    slice-aggregate-put-word
    put-word-requires
    add-i
    loop-less
    loop-again
    of-words-requires
    returns)
