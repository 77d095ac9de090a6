-- `taken` goes through the slots up to the first unused one. Assumes nothing.
use borrow.Author.Rules.{rules}
use borrow.Author.Tests.{eq-eqb, ne_eqb}
use mathlib.Core.Path.{◌≡◌}
use mathlib.Core.List.{◌∷◌}
use Prim.Native.Nat.{◌+◌, ◌-◌, ◌≤◌}
use native.Mathlib.Omega.{arith}
use lib.ListN.{length, drop}
use Rattle.table.specs.Table.{slots, taken_slots}
use Rattle.table.proofs.Entries.{slots-cons, slots_end}
use Rattle.index_fill.proofs.Filling.{taken-on, taken-end, rest-unused, rest-none}
use Rattle.index_fill.proofs.taken.Statement.{statement}
use Rattle.index_fill.proofs.taken.Tie as tie

abbrev invariant-loop : tie.invariant-loop-j
invariant-loop splits i j₀ j = (j ≤ 4) × (length (taken_slots (slots splits i)) ≡ j + length (taken_slots (drop j (slots splits i))))

abbrev decreases-loop : tie.decreases-loop-j
decreases-loop splits i j₀ j = 4 - j

abbrev entry : tie.At-loop-j invariant-loop decreases-loop → tie.Start invariant-loop decreases-loop
entry c = c.before.before

-- the slot that is read is the next of the rest
here : (c : tie.After-slot invariant-loop decreases-loop)
    → let l = c.loop-j in
    let ss = slots (entry c.before.before).args.splits.now (entry c.before.before).args.i in
    drop l.j ss ≡ c.slot.result ∷ drop (l.j + 1) ss
here c =
    let a = (entry c.before.before).args in
    slots-cons a.splits.now a.i c.loop-j.j c.slot.result (omega arith) c.slot.ensures

loop-holds : tie.Need-loop-j-init invariant-loop decreases-loop
loop-holds c = (search rules, omega arith)

slot-requires : tie.Need-slot-requires invariant-loop decreases-loop
slot-requires c κs = search rules

returns : tie.Need-returns-then-slot-eq-UNUSED invariant-loop decreases-loop
returns c =
    let l = c.loop-j in
    taken-end _ l.j (rest-unused _ l.j c.slot.result (here c.before) (eq-eqb _ _ c.if-slot-eq-UNUSED.true)) l.invariant.1

add-j : tie.Need-overflow_step-j invariant-loop decreases-loop
add-j c = search rules

loop-less : tie.Need-loop-j-smaller invariant-loop decreases-loop
loop-less c = search rules

loop-again : tie.Need-loop-j-preserved invariant-loop decreases-loop
loop-again c =
    let l = c.loop-j in
    (search rules, taken-on _ l.j c.slot.result (here c.before) (ne_eqb _ _ c.if-slot-eq-UNUSED.false) l.invariant.1)

returns-2 : tie.Need-returns invariant-loop decreases-loop
returns-2 c =
    let a = (entry c.before).args in
    let l = c.loop-j in
    let d = taken-end _ l.j (rest-none _ l.j (slots_end a.splits.now a.i l.j (omega arith))) l.invariant.1 in
    omega (arith, d)

pub taken_spec : {M : Type 1} → statement M
taken_spec = tie.close (tie.spec invariant-loop decreases-loop loop-holds slot-requires returns add-j loop-less loop-again returns-2)
