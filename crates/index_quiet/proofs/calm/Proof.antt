-- `calm` adds what is skipped and the two bytes behind it to `Moves`. Assumes nothing.
use borrow.Author.Rules.{rules}
use mathlib.Core.Path.{◌≡◌, refl, sym, ap, ◌∙◌}
use Prim.Native.Nat.{ℕ, ◌≤◌, ◌<◌, ◌-◌, ◌+◌, ◌*◌}
use native.Mathlib.Omega.{arith}
use lib.ListN.{length}
use Rattle.index.specs.Entry.{limit, cost_at}
use Rattle.index_quiet.specs.inner.Moves.{Moves}
use Rattle.index_quiet.proofs.Moving.{still, join, on}
use Rattle.index_quiet.proofs.calm.Statement.{statement}
use Rattle.index_quiet.proofs.calm.Tie as tie

abbrev invariant-loop : tie.invariant-loop-i
invariant-loop index piece from place r end cost i₀ rows₀ left₀ i rows left = (from ≤ i) × (i ≤ length piece) × (cost ≡ cost_at index place) × (cost < 256) × (rows + 255 * from ≤ 255 * i) × Moves index piece from place i place rows

abbrev decreases-loop : tie.decreases-loop-i
decreases-loop index piece from place r end cost i₀ rows₀ left₀ i rows left = length piece - i

-- the ways back: from the loop's head to the entry, and from the tries to the head
abbrev entry : tie.At-loop-i invariant-loop decreases-loop → tie.Start invariant-loop decreases-loop
entry c = c.before.before.before.before

abbrev head : tie.After-tries-left invariant-loop decreases-loop → tie.At-loop-i invariant-loop decreases-loop
head c = c.before.before.before.before

-- what is skipped
skipped : (c : tie.After-tries-left invariant-loop decreases-loop) → let a = (entry (head c)).args in
    let l = (head c).loop-i in
    Moves a.index.now a.piece.now a.from a.place (l.i + c.skip-n.result) a.place (l.rows + c.times-rows.result)
skipped c =
    let l = (head c).loop-i in
    let s = c.skip-n in
    let e = c.times-rows.ensures.0 ∙ ap (λ (x : ℕ). s.result * x) l.invariant.2 in
    join l.invariant.5 s.ensures.1 (l.rows + c.times-rows.result) (omega (arith, e))

sub-end : tie.Need-overflow_sub-end invariant-loop decreases-loop
sub-end c = search rules

cost-at-requires : tie.Need-cost_at-cost-requires invariant-loop decreases-loop
cost-at-requires c κs = search rules

loop-holds : tie.Need-loop-i-init invariant-loop decreases-loop
loop-holds c =
    let a = c.args in
    (omega arith, omega arith, c.cost_at-cost.ensures.0, c.cost_at-cost.ensures.1, omega arith, still a.index.now a.piece.now a.from a.place)

sub-loop : tie.Need-overflow_sub-piece invariant-loop decreases-loop
sub-loop c = search rules

skip-requires : tie.Need-skip-n-requires invariant-loop decreases-loop
skip-requires c κs = search rules

times-requires : tie.Need-times-rows-requires invariant-loop decreases-loop
times-requires c κs = search rules

add-rows : tie.Need-overflow_add-rows invariant-loop decreases-loop
add-rows c = search rules

add-i : tie.Need-overflow_add-i invariant-loop decreases-loop
add-i c = search rules

tries-requires : tie.Need-tries-left-requires invariant-loop decreases-loop
tries-requires c κs = search rules

returns : tie.Need-returns-then-left-eq0 invariant-loop decreases-loop
returns c = let t = c.before in (omega arith, omega arith, refl, omega arith, skipped t)

sub-if2 : tie.Need-overflow_sub-piece-in-loop-i invariant-loop decreases-loop
sub-if2 c = search rules

returns-2 : tie.Need-returns-then-piece-i-lt2 invariant-loop decreases-loop
returns-2 c = let t = c.before.before in (omega arith, omega arith, refl, omega arith, skipped t)

shared-slice-read-word-at : tie.Need-bounds-piece-i invariant-loop decreases-loop
shared-slice-read-word-at c = search rules

word-at-requires : tie.Need-word_at-x-requires invariant-loop decreases-loop
word-at-requires c κs = search rules

returns-3 : tie.Need-returns-then-end-x invariant-loop decreases-loop
returns-3 c = let t = c.before.before.before.before.before in (omega arith, omega arith, refl, omega arith, skipped t)

add-word-at : tie.Need-overflow_add-i-in-loop-i invariant-loop decreases-loop
add-word-at c = search rules

shared-slice-read-word-at-2 : tie.Need-bounds-piece-i-in-loop-i invariant-loop decreases-loop
shared-slice-read-word-at-2 c = search rules

word-at-requires-2 : tie.Need-word_at-requires invariant-loop decreases-loop
word-at-requires-2 c κs = search rules

returns-4 : tie.Need-returns-then-word_at-place invariant-loop decreases-loop
returns-4 c = let t = c.before.before.before.before.before.before.before.before in (omega arith, omega arith, refl, omega arith, skipped t)

add-rows-2 : tie.Need-overflow_add-rows-in-loop-i invariant-loop decreases-loop
add-rows-2 c = search rules

cost-at-requires-2 : tie.Need-cost_at-requires invariant-loop decreases-loop
cost-at-requires-2 c κs = search rules

add-rows-3 : tie.Need-overflow_add-rows-in-loop-i-2 invariant-loop decreases-loop
add-rows-3 c = search rules

add-i-2 : tie.Need-overflow_add-i-in-loop-i-2 invariant-loop decreases-loop
add-i-2 c = search rules

loop-less : tie.Need-loop-i-smaller invariant-loop decreases-loop
loop-less c = search rules

loop-again : tie.Need-loop-i-preserved invariant-loop decreases-loop
loop-again c =
    let w = c.before.before.before.before.before in
    let t = w.before.before.before.before in
    let h = head t in
    let l = h.loop-i in
    let a = (entry h).args in
    let n = l.rows + t.times-rows.result in
    let cost = h.cost_at-cost.result in
    let x = w.word_at-x in
    let place : a.place < limit a.index.now = (entry h).requires.1 in
    let b : x.result < limit a.index.now = omega arith in
    let m = on (skipped t) (l.i + t.skip-n.result + 1) x.result (n + cost) (omega arith) place x.ensures (omega (arith, b, (entry h).requires.2)) (omega arith) (omega (arith, l.invariant.2)) in
    let m2 = on m (l.i + t.skip-n.result + 2) a.place (n + cost + c.cost_at.result) (omega arith) b (sym c.if-word_at-place.false ∙ c.word_at.ensures) (omega (arith, place, (entry h).requires.2)) (omega arith)
    (omega (arith, c.cost_at.ensures.0)) in
    (omega arith, omega arith, l.invariant.2, l.invariant.3, omega arith, m2)

returns-5 : tie.Need-returns invariant-loop decreases-loop
returns-5 c =
    let l = c.loop-i in
    (l.invariant.0, l.invariant.1, refl, l.invariant.4, l.invariant.5)

pub calm_spec : {M : Type 1} → statement M
calm_spec =
    tie.close
    (tie.spec
    invariant-loop
    decreases-loop
    sub-end
    cost-at-requires
    loop-holds
    sub-loop
    skip-requires
    times-requires
    add-rows
    add-i
    tries-requires
    returns
    sub-if2
    returns-2
    shared-slice-read-word-at
    word-at-requires
    returns-3
    add-word-at
    shared-slice-read-word-at-2
    word-at-requires-2
    returns-4
    add-rows-2
    cost-at-requires-2
    add-rows-3
    add-i-2
    loop-less
    loop-again
    returns-5)
