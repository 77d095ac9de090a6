-- `low_bytes` meets its promise. Assumes nothing.
use borrow.Author.Rules.{rules}
use mathlib.Core.Path.{◌≡◌, refl, ◌∙◌}
use Prim.Native.Nat.{◌-◌, ◌≤◌}
use native.Mathlib.Omega.{arith}
use lib.ListN.{length}
use Rattle.sets.specs.Set.{states}
use Rattle.table.specs.Table.{byte_values}
use Rattle.table_classes.specs.inner.Loops.{low_to, Filled}
use Rattle.table_classes.proofs.Parting.{low-start, low_end}
use Rattle.table_classes.proofs.low_bytes.Statement.{statement}
use Rattle.table_classes.proofs.low_bytes.Tie as tie

abbrev invariant-loop : tie.invariant-loop-s
invariant-loop l classes₀ rows₀ s₀ classes rows s = (s ≤ states) × (length rows ≡ length rows₀) × Filled classes₀ classes (low_to l s) byte_values

abbrev decreases-loop : tie.decreases-loop-s
decreases-loop l classes₀ rows₀ s₀ classes rows s = states - s

loop-holds : tie.Need-loop-s-init invariant-loop decreases-loop
loop-holds c = let s = c in (omega arith, refl, low-start s.args.list.now s.args.classes.now s.requires.2)

part-by-requires : tie.Need-part_by-requires invariant-loop decreases-loop
part-by-requires c κs =
    let s = c in
    let l = c.loop-s in
    (omega arith, omega (arith, l.invariant.2.long, s.requires.0), omega (arith, l.invariant.1, s.requires.1))

add-s : tie.Need-overflow_step-s invariant-loop decreases-loop
add-s c = search rules

loop-less : tie.Need-loop-s-smaller invariant-loop decreases-loop
loop-less c = omega arith

loop-again : tie.Need-loop-s-preserved invariant-loop decreases-loop
loop-again c =
    let s = c in
    let l = c.loop-s in
    let p = c.part_by.ensures in
    (omega arith, p.1 ∙ l.invariant.1, p.2 s.args.classes.now l.invariant.2)

same_length : tie.Need-shape_of-classes invariant-loop decreases-loop
same_length c = c.loop-s.invariant.2.long

same-length-2 : tie.Need-shape_of-rows invariant-loop decreases-loop
same-length-2 c = c.loop-s.invariant.1

returns : tie.Need-returns invariant-loop decreases-loop
returns c = (c.loop-s.invariant.1, low_end c.args.list.now c.args.classes.now c.loop-s.classes c.loop-s.s (omega (arith, c.loop-s.invariant.0)) c.loop-s.invariant.2)

pub low_bytes_spec : {M : Type 1} → statement M
low_bytes_spec =
    tie.close
    (tie.spec
    invariant-loop
    decreases-loop
    loop-holds
    part-by-requires
    add-s
    loop-less
    loop-again
    same_length
    same-length-2
    returns)
