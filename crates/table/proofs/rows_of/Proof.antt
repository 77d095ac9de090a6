-- `rows_of` goes through the slots; the union so far, with the rest, is the whole. Assumes nothing.
use borrow.Author.Rules.{rules}
use Prim.Native.Nat.{◌-◌, ◌≤◌}
use native.Mathlib.Omega.{arith}
use Rattle.sets.specs.Set.{set_words, set_of}
use Rattle.sets.proofs.Sets.{empty-words}
use Rattle.table.specs.Table.{most_parts, row, slots}
use Rattle.table.proofs.Entries.{slots-cons, slots_end}
use Rattle.table.proofs.Slots.{Joining, joining-start, joining-more, joining-end, slot-below}
use Rattle.table.proofs.rows_of.Statement.{statement}
use Rattle.table.proofs.rows_of.Tie as tie

abbrev invariant-loop : tie.invariant-loop-j
invariant-loop classes rows splits k i c all₀ j₀ all j = (j ≤ 4) × Joining (λ p. row classes rows p c) (slots splits i) (set_of all) j

abbrev decreases-loop : tie.decreases-loop-j
decreases-loop classes rows splits k i c all₀ j₀ all j = 4 - j

loop-holds : tie.Need-loop-j-init invariant-loop decreases-loop
loop-holds c = (search rules, joining-start _ _ _ (empty-words set_words))

slot-requires : tie.Need-slot-requires invariant-loop decreases-loop
slot-requires c κs = search rules

add-row-requires : tie.Need-add_row-all-requires invariant-loop decreases-loop
add-row-requires c κs =
    let s = c in
    let l = c.loop-j in
    (s.requires.0, slot-below most_parts s.args.splits.now s.args.i l.j c.slot.result s.requires.1 (omega arith) c.slot.ensures)

add-j : tie.Need-overflow_step-j invariant-loop decreases-loop
add-j c = search rules

loop-less : tie.Need-loop-j-smaller invariant-loop decreases-loop
loop-less c = search rules

loop-again : tie.Need-loop-j-preserved invariant-loop decreases-loop
loop-again c =
    let a = c.args in
    let l = c.loop-j in
    (search rules, joining-more _ _ _ l.j c.slot.result _ l.invariant.1 (slots-cons a.splits.now a.i l.j c.slot.result (omega arith) c.slot.ensures) c.add_row-all.ensures)

returns : tie.Need-returns invariant-loop decreases-loop
returns c =
    let a = c.args in
    let l = c.loop-j in
    joining-end _ _ _ l.j l.invariant.1 (slots_end a.splits.now a.i l.j (omega arith))

pub rows_of_spec : {M : Type 1} → statement M
rows_of_spec =
    tie.close
    (tie.spec
    invariant-loop
    decreases-loop
    loop-holds
    slot-requires
    add-row-requires
    add-j
    loop-less
    loop-again
    returns)
