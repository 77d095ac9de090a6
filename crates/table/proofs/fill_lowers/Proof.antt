-- `fill_lowers` keeps the lengths. Assumes nothing.
use borrow.Author.Rules.{rules}
use mathlib.Core.Path.{◌≡◌, refl, ◌∙◌}
use Prim.Native.Nat.{◌-◌, ◌≤◌}
use lib.ListN.{length}
use Rattle.table.proofs.fill_lowers.Statement.{statement}
use Rattle.table.proofs.fill_lowers.Tie as tie

abbrev invariant-loop : tie.invariant-loop-c
invariant-loop classes lowers₀ last₀ c₀ lowers last c = (c ≤ 256) × (length lowers ≡ length lowers₀) × (length last ≡ 256)

abbrev decreases-loop : tie.decreases-loop-c
decreases-loop classes lowers₀ last₀ c₀ lowers last c = 256 - c

loop-holds : tie.Need-loop-c-init invariant-loop decreases-loop
loop-holds c = (search rules, refl, search rules)

byte-at-requires : tie.Need-byte_at-q-requires invariant-loop decreases-loop
byte-at-requires c κs = search rules

cast-q : tie.Need-overflow_cast-q invariant-loop decreases-loop
cast-q c = search rules

slice-aggregate-byte-at : tie.Need-slice_bounds-byte_at-end invariant-loop decreases-loop
slice-aggregate-byte-at c = search rules

byte-at-requires-2 : tie.Need-byte_at-requires invariant-loop decreases-loop
byte-at-requires-2 c κs = search rules

put-byte-requires : tie.Need-put_byte-requires invariant-loop decreases-loop
put-byte-requires c κs = search rules

slice-aggregate-put-byte : tie.Need-slice_bounds-put_byte-end invariant-loop decreases-loop
slice-aggregate-put-byte c = search rules

cast-put-byte : tie.Need-overflow_cast-c invariant-loop decreases-loop
cast-put-byte c = search rules

put-byte-requires-2 : tie.Need-put_byte-requires-in-loop-c invariant-loop decreases-loop
put-byte-requires-2 c κs = search rules

add-c : tie.Need-overflow_step-c invariant-loop decreases-loop
add-c c = search rules

loop-less : tie.Need-loop-c-smaller invariant-loop decreases-loop
loop-less c = search rules

loop-again : tie.Need-loop-c-preserved invariant-loop decreases-loop
loop-again c =
    let l = c.loop-c in
    (search rules, c.put_byte.auto.places ∙ l.invariant.1, c.put_byte-in-loop-c.auto.places ∙ l.invariant.2)

same_length : tie.Need-shape_of-lowers invariant-loop decreases-loop
same_length c = c.loop-c.invariant.1

returns : tie.Need-returns invariant-loop decreases-loop
returns c = search rules

pub fill_lowers_spec : {M : Type 1} → statement M
fill_lowers_spec =
    tie.close
    (tie.spec
    invariant-loop
    decreases-loop
    loop-holds
    byte-at-requires
    cast-q
    slice-aggregate-byte-at
    byte-at-requires-2
    put-byte-requires
    slice-aggregate-put-byte
    cast-put-byte
    put-byte-requires-2
    add-c
    loop-less
    loop-again
    same_length
    returns)
