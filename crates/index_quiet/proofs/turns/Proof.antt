-- `turns` joins turn to turn. Assumes nothing.
use mathlib.Core.Path.{refl}
use Prim.Native.Nat.{◌≤◌, ◌<◌, ◌-◌, ◌+◌, ◌*◌}
use native.Mathlib.Omega.{arith}
use Rattle.index.specs.Entry.{limit}
use Rattle.index_quiet.specs.inner.Moves.{Moves}
use Rattle.index_quiet.proofs.Moving.{still, join}
use Rattle.index_quiet.proofs.turns.Statement.{statement}
use Rattle.index_quiet.proofs.turns.Tie as tie

abbrev invariant-loop : tie.invariant-loop-i
invariant-loop index piece from place stop i₀ at₀ rows₀ i at rows =
    (from ≤ i) × (i ≤ stop) × (at < limit index) × (rows + 255 * from ≤ 255 * i) × Moves index piece from place i at rows

abbrev decreases-loop : tie.decreases-loop-i
decreases-loop index piece from place stop i₀ at₀ rows₀ i at rows = stop - i

-- the ways back: from the loop's head to the entry, and from the turn to the head
abbrev entry : tie.At-loop-i invariant-loop decreases-loop → tie.Start invariant-loop decreases-loop
entry c = c.before.before.before

abbrev head : tie.After-turn-led invariant-loop decreases-loop → tie.At-loop-i invariant-loop decreases-loop
head c = c.before.before

-- where the turn leads
led : (c : tie.After-turn-led invariant-loop decreases-loop) → let a = (entry (head c)).args in
    let r = c.turn-led.result in
    (a.from ≤ r.bytes) × (r.bytes ≤ a.stop) × (r.place < limit a.index.now) × ((head c).loop-i.rows + r.rows + 255 * a.from ≤ 255 * r.bytes)
    × Moves a.index.now a.piece.now a.from a.place r.bytes r.place ((head c).loop-i.rows + r.rows)
led c =
    let l = (head c).loop-i in
    let t = c.turn-led.ensures in
    (omega (arith, t.0, l.invariant.0), t.1, t.2, omega (arith, t.3, l.invariant.3), join l.invariant.4 t.4 (l.rows + c.turn-led.result.rows) refl)

loop-holds : tie.Need-loop-i-init invariant-loop decreases-loop
loop-holds c =
    let s = c.before.before in
    let a = s.args in
    (omega arith, s.requires.0, s.requires.2, omega arith, still a.index.now a.piece.now a.from a.place)

sub-loop : tie.Need-overflow_sub-stop invariant-loop decreases-loop
sub-loop c = omega (arith, c.loop-i.invariant.1)

turn-requires : tie.Need-turn-led-requires invariant-loop decreases-loop
turn-requires c κs =
    let h = c.before in
    let s = entry h in
    (h.loop-i.invariant.1, s.requires.1, h.loop-i.invariant.2, s.requires.3, s.requires.4)

add-rows : tie.Need-overflow_add-rows invariant-loop decreases-loop
add-rows c =
    let t = c.before in
    let s = entry (head t) in
    omega (arith, (led t).3, (led t).1, s.requires.1, s.requires.4)

add-if1 : tie.Need-overflow_add-i invariant-loop decreases-loop
add-if1 c =
    let t = c.before in
    let s = entry (head t) in
    omega (arith, (head t).loop-i.invariant.1, s.requires.1, s.requires.4)

returns : tie.Need-returns-then-led-i invariant-loop decreases-loop
returns c = led c.before.before.before

loop-less : tie.Need-loop-i-smaller invariant-loop decreases-loop
loop-less c = omega (arith, c.if-led-i.false, c.loop-i-test, (led c.before.before.before).1)

loop-again : tie.Need-loop-i-preserved invariant-loop decreases-loop
loop-again c = led c.before.before.before

returns-2 : tie.Need-returns invariant-loop decreases-loop
returns-2 c = c.loop-i.invariant

pub turns_spec : {M : Type 1} → statement M
turns_spec = tie.close (tie.spec invariant-loop decreases-loop loop-holds sub-loop turn-requires add-rows add-if1 returns loop-less loop-again returns-2)
