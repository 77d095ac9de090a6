-- `put_lows` meets its promise. Assumes nothing.
use mathlib.Core.Path.{◌≡◌, refl, ◌∙◌}
use Prim.Native.Nat.{ℕ, ◌-◌, ◌≤◌, ◌<◌}
use native.Mathlib.Omega.{arith}
use lib.ListN.{length, get_or, length-set}
use Rattle.table.specs.Table.{byte_values}
use Rattle.index_fill.specs.inner.Lows.{low_in}
use Rattle.index_fill.proofs.Filling.{low-there, lows-more}
use Rattle.index_fill.proofs.put_lows.Statement.{statement}
use Rattle.index_fill.proofs.put_lows.Tie as tie

abbrev invariant-loop : tie.invariant-loop-c
invariant-loop classes lows₀ c₀ lows c = (c ≤ byte_values) × (length lows ≡ length lows₀) × ((d : ℕ) → d < c → get_or lows d 0 ≡ low_in classes d)

abbrev decreases-loop : tie.decreases-loop-c
decreases-loop classes lows₀ c₀ lows c = byte_values - c

loop-holds : tie.Need-loop-c-init invariant-loop decreases-loop
loop-holds c = (omega arith, refl, λ d h. absurd (omega arith))

shared-slice-read-lowest-of : tie.Need-bounds-classes-c invariant-loop decreases-loop
shared-slice-read-lowest-of c = let s = c.before.before.before.before.before in omega (arith, c.loop-c-test, s.requires.0)

lowest-of-requires : tie.Need-lowest_of-requires invariant-loop decreases-loop
lowest-of-requires c κs =
    let s = c.before.before.before.before.before in
    (s.requires.0, low-there s.args.classes.now c.loop-c.c (omega (arith, c.loop-c-test)))

slice-write-lows : tie.Need-bounds-lows-c invariant-loop decreases-loop
slice-write-lows c =
    let s = c.before.before.before.before.before.before in
    omega (arith, c.loop-c-test, c.loop-c.invariant.1, s.requires.1)

add-c : tie.Need-overflow_step-c invariant-loop decreases-loop
add-c c = omega (arith, c.loop-c-test)

loop-less : tie.Need-loop-c-smaller invariant-loop decreases-loop
loop-less c = omega (arith, c.loop-c-test)

loop-again : tie.Need-loop-c-preserved invariant-loop decreases-loop
loop-again c =
    let s = c.before.before.before.before.before.before in
    let l = c.loop-c in (
      omega (arith, c.loop-c-test),
      length-set l.lows l.c _ ∙ l.invariant.1,
      lows-more s.args.classes.now l.lows l.c _ (omega (arith, c.loop-c-test, l.invariant.1, s.requires.1)) c.lowest_of.ensures l.invariant.2,
    )

same_length : tie.Need-shape_of-lows invariant-loop decreases-loop
same_length c = c.loop-c.invariant.1

returns : tie.Need-returns invariant-loop decreases-loop
returns c = let l = c.loop-c in (l.invariant.1, λ d h. l.invariant.2 d (omega (arith, c.loop-c-test, h)))

pub put_lows_spec : {M : Type 1} → statement M
put_lows_spec = tie.close (tie.spec invariant-loop decreases-loop loop-holds shared-slice-read-lowest-of lowest-of-requires slice-write-lows add-c loop-less loop-again same_length returns)
