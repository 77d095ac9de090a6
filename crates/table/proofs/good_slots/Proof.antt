-- `good_slots` walks the slots; what it has passed leaves the rest to decide. Assumes nothing.
use borrow.Author.Rules.{rules}
use borrow.Author.Tests.{eq-eqb, ne_eqb, not-true, not-false, leb-true, ltb-true}
use mathlib.Core.Path.{◌≡◌, sym, ap, ◌∙◌}
use mathlib.Core.Bool.{◌&&◌}
use mathlib.Core.List.{◌∷◌}
use Prim.Native.Nat.{◌+◌, ◌-◌, ◌≤◌, ◌<◌}
use native.Mathlib.Omega.{arith}
use lib.ListN.{drop}
use lib.Dec.{ltb, leb}
use Rattle.rules.proofs.Scanning.{choose, both}
use Rattle.table.specs.Table.{slots, good_slots}
use Rattle.table.proofs.Entries.{slots-cons, slots_end}
use Rattle.table.proofs.Slots.{rest, rest-start, rest_end, rest-unused, rest-bad, rest-good}
use Rattle.table.proofs.good_slots.Statement.{statement}
use Rattle.table.proofs.good_slots.Tie as tie

abbrev invariant-loop : tie.invariant-loop-j
invariant-loop splits i n bound least₀ left₀ going₀ j₀ least left going j = (j ≤ 4) × (good_slots n bound (slots splits i) ≡ rest n left least going (drop j (slots splits i)))

abbrev decreases-loop : tie.decreases-loop-j
decreases-loop splits i n bound least₀ left₀ going₀ j₀ least left going j = 4 - j

-- the way back from the loop's head to the entry
abbrev entry : tie.At-loop-j invariant-loop decreases-loop → tie.Start invariant-loop decreases-loop
entry c = c.before.before

-- the slot that is read is the next of the rest
next : (c : tie.After-slot-x invariant-loop decreases-loop)
    → let l = c.loop-j in
    let ss = slots (entry c.before.before).args.splits.now (entry c.before.before).args.i in
    drop l.j ss ≡ c.slot-x.result ∷ drop (l.j + 1) ss
next c =
    let a = (entry c.before.before).args in
    slots-cons a.splits.now a.i c.loop-j.j c.slot-x.result (omega arith) c.slot-x.ensures

-- what the test of a slot in use has passed
tested : (c : tie.Else-not-going-least invariant-loop decreases-loop)
    → (c.slot-x.result < (entry c.before.before.before.before).args.n) × (1 ≤ c.loop-j.left)
tested c =
    let l = c.loop-j in
    let x = c.slot-x.result in
    let n = (entry c.before.before.before.before).args.n in
    let t = both (l.going && leb l.least x && ltb x n) (leb 1 l.left) (not-false _ c.if-not-going-least.false-raw) in
    (ltb-true x n (both (l.going && leb l.least x) (ltb x n) t.0).1, leb-true 1 l.left t.1)

loop-holds : tie.Need-loop-j-init invariant-loop decreases-loop
loop-holds c = (search rules, rest-start _ _ _)

slot-requires : tie.Need-slot-x-requires invariant-loop decreases-loop
slot-requires c κs = search rules

returns : tie.Need-returns-then-not-going-least invariant-loop decreases-loop
returns c =
    let l = c.loop-j in
    let x = c.slot-x.result in
    let a = (entry c.before.before.before.before).args in
    sym (l.invariant.1 ∙ ap (rest a.n l.left l.least l.going) (next c.before.before)
    ∙ rest-bad a.n l.left l.least l.going x _ (ne_eqb _ _ c.if-x-eq-UNUSED.false) (not-true _ c.if-not-going-least.true-raw))

add-least : tie.Need-overflow_add-least invariant-loop decreases-loop
add-least c = omega (arith, tested c)

sub-left : tie.Need-overflow_sub-left invariant-loop decreases-loop
sub-left c = omega (arith, tested c)

add-j : tie.Need-overflow_step-j invariant-loop decreases-loop
add-j c = search rules

loop-less : tie.Need-loop-j-smaller invariant-loop decreases-loop
loop-less c = search rules

loop-again : tie.Need-loop-j-preserved invariant-loop decreases-loop
loop-again c =
    let l = c.loop-j in
    let x = c.slot-x.result in
    let a = (entry c.before.before.before).args in (
      search rules,
      choose c.if-x-eq-UNUSED.branch-raw
          (λ w. rw (w.least-is, w.left-is, w.going-is) (l.invariant.1 ∙ ap (rest a.n l.left l.least l.going) (next c.before)
          ∙ rest-unused a.n l.left l.least l.going x _ (eq-eqb _ _ w.if-x-eq-UNUSED.true)))
          (λ w. rw (w.least-is, w.left-is, w.going-is) (l.invariant.1 ∙ ap (rest a.n l.left l.least l.going) (next c.before)
          ∙ rest-good a.n l.left l.least l.going x _ (ne_eqb _ _ w.if-x-eq-UNUSED.false) (not-false _ w.if-not-going-least.false-raw))),
    )

returns-2 : tie.Need-returns invariant-loop decreases-loop
returns-2 c =
    let l = c.loop-j in
    let a = (entry c.before).args in
    sym (l.invariant.1 ∙ ap (rest a.n l.left l.least l.going) (slots_end a.splits.now a.i l.j (omega arith)) ∙ rest_end a.n l.left l.least l.going)

pub good_slots_spec : {M : Type 1} → statement M
good_slots_spec =
    tie.close
    (tie.spec
    invariant-loop
    decreases-loop
    loop-holds
    slot-requires
    returns
    add-least
    sub-left
    add-j
    loop-less
    loop-again
    returns-2)
