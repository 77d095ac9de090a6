-- `number` meets its promise. Assumes nothing.
use borrow.Author.Rules.{rules}
use mathlib.Core.Path.{◌≡◌, refl, ap, ◌∙◌}
use mathlib.Core.List.{List}
use Prim.Native.Nat.{ℕ, ◌-◌, ◌≤◌}
use native.Mathlib.Omega.{arith}
use lib.ListN.{length, get_or, length-set}
use Rattle.table.specs.Table.{byte_values}
use Rattle.table_classes.specs.inner.Loops.{Lows}
use Rattle.table_classes.proofs.Parting.{Numbering, number-start, number-lead, number-other, number-end}
use Rattle.rules.proofs.Scanning.{choose}
use Rattle.table_classes.proofs.number.Statement.{statement}
use Rattle.table_classes.proofs.number.Tie as tie

abbrev invariant-loop : tie.invariant-loop-c
invariant-loop classes₀ next₀ c₀ classes next c = (c ≤ byte_values) × (next ≤ c) × (length classes ≡ length classes₀) × ((l : List ℕ) → Lows l classes₀ → Numbering l classes₀ classes c next)

abbrev decreases-loop : tie.decreases-loop-c
decreases-loop classes₀ next₀ c₀ classes next c = byte_values - c

loop-holds : tie.Need-loop-c-init invariant-loop decreases-loop
loop-holds c = (omega arith, omega arith, refl, λ l h. number-start l c.args.classes.now)

slice-read-low : tie.Need-bounds-classes-c invariant-loop decreases-loop
slice-read-low c = omega (arith, c.loop-c.invariant.2)

cast-low : tie.Need-overflow_cast-low invariant-loop decreases-loop
cast-low c = omega (arith, c.slice_known-1.given c.loop-c.c)

cast-classes : tie.Need-overflow_cast-classes invariant-loop decreases-loop
cast-classes c = omega (arith, c.loop-c.invariant.1)

slice-write-classes : tie.Need-bounds-classes-c-then-low-c invariant-loop decreases-loop
slice-write-classes c = omega (arith, c.loop-c.invariant.2)

add-next : tie.Need-overflow_add-next invariant-loop decreases-loop
add-next c = omega (arith, c.loop-c.invariant.1)

slice-read-classes : tie.Need-bounds-classes-low invariant-loop decreases-loop
slice-read-classes c = omega (arith, c.slice_known-1.given c.loop-c.c, c.loop-c.invariant.2, c.requires)

slice-write-classes-2 : tie.Need-bounds-classes-c-else-low-c invariant-loop decreases-loop
slice-write-classes-2 c = omega (arith, c.loop-c.invariant.2)

add-c : tie.Need-overflow_step-c invariant-loop decreases-loop
add-c c = search rules

loop-less : tie.Need-loop-c-smaller invariant-loop decreases-loop
loop-less c = search rules

loop-again : tie.Need-loop-c-preserved invariant-loop decreases-loop
loop-again c =
    let s = c in
    let l = c.loop-c in
    let z : byte_values ≤ length s.args.classes.now = s.requires in
    choose c.if-low-c.branch-raw
    (λ w. (
      omega arith,
      omega (arith, w.next-is, l.invariant.1),
      ap length w.classes-is ∙ length-set l.classes l.c l.next ∙ l.invariant.2,
      λ x h. rw (w.classes-is, w.next-is) (number-lead x s.args.classes.now l.classes l.c l.next (get_or l.classes l.c 0) (omega arith) z h (l.invariant.3 x h) refl w.if-low-c.true),
    ))
    (λ w. (
      omega arith,
      omega (arith, w.next-is, l.invariant.1),
      ap length w.classes-is ∙ length-set l.classes l.c _ ∙ l.invariant.2,
      λ x h. rw (w.classes-is, w.next-is) (number-other x s.args.classes.now l.classes l.c l.next (get_or l.classes l.c 0) (omega arith) z h (l.invariant.3 x h) refl w.if-low-c.false),
    ))

same_length : tie.Need-shape_of-classes invariant-loop decreases-loop
same_length c = c.loop-c.invariant.2

returns : tie.Need-returns invariant-loop decreases-loop
returns c = (c.loop-c.invariant.2, λ l h. number-end l c.args.classes.now c.loop-c.classes c.loop-c.c c.loop-c.next (omega (arith, c.loop-c.invariant.0)) (c.loop-c.invariant.3 l h))

pub number_spec : {M : Type 1} → statement M
number_spec =
    tie.close
    (tie.spec
    invariant-loop
    decreases-loop
    loop-holds
    slice-read-low
    cast-low
    cast-classes
    slice-write-classes
    add-next
    slice-read-classes
    slice-write-classes-2
    add-c
    loop-less
    loop-again
    same_length
    returns)
