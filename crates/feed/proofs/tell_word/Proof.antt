-- `tell_word` tells the lowest bit of what is left, again and again; the invariant is that what it told and what is left are all. Assumes nothing.
use Prim.Native.Nat.{◌+◌, ◌*◌, ◌^◌, ◌<◌}
use native.Mathlib.Omega.{arith}
use native.Mathlib.Nat.{div-le_self}
use Rattle.sets.specs.Set.{signatures}
use Rattle.feed.proofs.Telling.{Left, left-all, left-none, lowest-at, lowest-low, lowest-more}
use Rattle.feed.proofs.tell_word.Statement.{statement}
use Rattle.feed.proofs.tell_word.Tie as tie

abbrev invariant-loop : tie.invariant-loop-rest
invariant-loop pairs₀ at word base offset w₀ rest₀ s₀ pairs w rest s = Left pairs₀ at offset (word * 2 ^ base) pairs w rest s

abbrev decreases-loop : tie.decreases-loop-rest
decreases-loop pairs₀ at word base offset w₀ rest₀ s₀ pairs w rest s = rest

loop-holds : tie.Need-loop-rest-init invariant-loop decreases-loop
loop-holds c = let a = c.args in left-all a.pairs.now a.at a.offset a.word a.base c.requires.0

-- the way back from the lowest bit to the loop's head; there is room for all
abbrev head : tie.After-lowest-zeros invariant-loop decreases-loop → tie.At-loop-rest invariant-loop decreases-loop
head c = c.before.before

abbrev room : tie.After-lowest-zeros invariant-loop decreases-loop → tie.Start invariant-loop decreases-loop
room c = (head c).before.before

lowest-requires : tie.Need-lowest-zeros-requires invariant-loop decreases-loop
lowest-requires c κs = c.loop-rest-test.true

-- it is a signature
signature : (c : tie.After-lowest-zeros invariant-loop decreases-loop) → (head c).loop-rest.s + c.lowest-zeros.result < signatures
signature c = let e = c.lowest-zeros.ensures in lowest-at (head c).loop-rest.invariant (room c).requires.1 c.lowest-zeros.result e.1 e.2

add-tell-one : tie.Need-overflow_add-s invariant-loop decreases-loop
add-tell-one c = omega (arith, signature c.before)

tell-one-requires : tie.Need-tell_one-w-requires invariant-loop decreases-loop
tell-one-requires c κs =
    let b = c.before in
    let e = b.lowest-zeros.ensures in
    let l = lowest-low (head b).loop-rest.invariant (room b).requires.1 b.lowest-zeros.result e.1 e.2 in
    (omega arith, l.0, l.1)

shr-rest : tie.Need-overflow_shr-rest invariant-loop decreases-loop
shr-rest c = omega (arith, c.lowest-zeros.ensures.0)

add-s : tie.Need-overflow_add-s-in-loop-rest invariant-loop decreases-loop
add-s c = omega (arith, signature c.before.before.before.before)

add-s-2 : tie.Need-overflow_add-s-in-loop-rest-2 invariant-loop decreases-loop
add-s-2 c = omega (arith, signature c.before.before.before.before)

loop-less : tie.Need-loop-rest-smaller invariant-loop decreases-loop
loop-less c =
    let b = c.before.before.before.before in
    omega (arith, b.loop-rest-test.true, div-le_self (head b).loop-rest.rest (2 ^ b.lowest-zeros.result))

loop-again : tie.Need-loop-rest-preserved invariant-loop decreases-loop
loop-again c =
    let told = c.before.before in
    let b = told.before.before in
    let e = b.lowest-zeros.ensures in
    lowest-more (head b).loop-rest.invariant (room b).requires.1 b.lowest-zeros.result e.1 e.2 _ _ told.tell_one-w.ensures

same_length : tie.Need-shape_of-pairs invariant-loop decreases-loop
same_length c = c.loop-rest.invariant.kept

returns : tie.Need-returns invariant-loop decreases-loop
returns c = left-none c.loop-rest.invariant c.requires.1 c.loop-rest-test.false

pub tell_word_spec : {M : Type 1} → statement M
tell_word_spec =
    tie.close (tie.spec invariant-loop decreases-loop loop-holds lowest-requires add-tell-one tell-one-requires shr-rest add-s add-s-2 loop-less loop-again same_length returns)
