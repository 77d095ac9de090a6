-- `turn` goes on by a byte at a time: each is one more of `Moves`. Assumes nothing.
use borrow.Author.Rules.{rules}
use mathlib.Core.Path.{refl}
use Prim.Native.Nat.{ℕ, ◌<◌, ◌-◌, ◌+◌}
use native.Mathlib.Omega.{arith}
use Rattle.index.specs.Entry.{limit}
use Rattle.index_quiet.specs.inner.Moves.{Moves}
use Rattle.index_quiet.proofs.Moving.{still, on}
use Rattle.index_quiet.proofs.turn.Statement.{statement}
use Rattle.index_quiet.proofs.turn.Tie as tie

-- the ways back: from a byte's cost to the one before it, and from the first to the entry
abbrev entry : tie.After-cost_at-first → tie.Start
entry c = c.before.before.before.before.before.before.before

abbrev first : tie.After-cost_at → tie.After-cost_at-first
first c = c.before.before.before.before

abbrev second : tie.After-cost_at-2 → tie.After-cost_at
second c = c.before.before.before.before

abbrev third : tie.After-cost_at-3 → tie.After-cost_at-2
third c = c.before.before.before.before

-- so many bytes on, at place q, for so many rows
abbrev Led : tie.After-cost_at-first → ℕ → ℕ → ℕ → Type 0
Led c n q rows =
    let a = (entry c).args in
    (q < limit a.index.now) × Moves a.index.now a.piece.now a.i a.at (a.i + n) q rows

one : (c : tie.After-cost_at-first) → Led c 1 c.word_at-x.result c.cost_at-first.result
one c =
    let s = entry c in
    let a = s.args in
    let w = c.word_at-x in
    let b : w.result < limit a.index.now = omega (arith, c.if-end-x.false) in
    (b, on (still a.index.now a.piece.now a.i a.at) (a.i + 1) w.result c.cost_at-first.result (omega arith) s.requires.2 w.ensures (omega arith) refl (omega (arith, c.cost_at-first.ensures.0)))

two : (c : tie.After-cost_at) → Led (first c) 2 c.word_at-y.result ((first c).cost_at-first.result + c.cost_at.result)
two c =
    let a = (entry (first c)).args in
    let w = c.word_at-y in
    let m = one (first c) in
    let b : w.result < limit a.index.now = omega (arith, c.if-end-y.false) in
    (b, on m.1 (a.i + 2) w.result ((first c).cost_at-first.result + c.cost_at.result) (omega arith) m.0 w.ensures (omega arith) (omega arith) (omega (arith, c.cost_at.ensures.0)))

three : (c : tie.After-cost_at-2) → Led (first (second c)) 3 c.word_at-z.result ((first (second c)).cost_at-first.result + (second c).cost_at.result + c.cost_at-2.result)
three c =
    let a = (entry (first (second c))).args in
    let w = c.word_at-z in
    let m = two (second c) in
    let b : w.result < limit a.index.now = omega (arith, c.if-end-z.false) in
    (b, on m.1 (a.i + 3) w.result ((first (second c)).cost_at-first.result + (second c).cost_at.result + c.cost_at-2.result) (omega arith) m.0 w.ensures (omega arith) (omega arith) (omega (arith, c.cost_at-2.ensures.0)))

four : (c : tie.After-cost_at-3) → Led (first (second (third c))) 4 c.word_at-v.result
    ((first (second (third c))).cost_at-first.result + (second (third c)).cost_at.result + (third c).cost_at-2.result + c.cost_at-3.result)
four c =
    let a = (entry (first (second (third c)))).args in
    let w = c.word_at-v in
    let m = three (third c) in
    let b : w.result < limit a.index.now = omega (arith, c.if-end-v.false) in (
      b,
      on m.1 (a.i + 4) w.result ((first (second (third c))).cost_at-first.result + (second (third c)).cost_at.result + (third c).cost_at-2.result + c.cost_at-3.result) (omega arith) m.0 w.ensures (omega arith) (omega arith)
          (omega (arith, c.cost_at-3.ensures.0)),
    )

sub-end : tie.Need-overflow_sub-end
sub-end c = search rules

sub-if1 : tie.Need-overflow_sub-stop
sub-if1 c = search rules

returns : tie.Need-returns-then-stop-i-lt4
returns c =
    let s = c.before.before.before in
    let a = s.args in
    (omega arith, omega arith, s.requires.2, omega arith, still a.index.now a.piece.now a.i a.at)

shared-slice-read-word-at : tie.Need-bounds-piece-i
shared-slice-read-word-at c = search rules

word-at-requires : tie.Need-word_at-x-requires
word-at-requires c κs = search rules

returns-2 : tie.Need-returns-then-end-x
returns-2 c =
    let s = c.before.before.before.before.before.before in
    let a = s.args in
    (omega arith, omega arith, s.requires.2, omega arith, still a.index.now a.piece.now a.i a.at)

cost-at-requires : tie.Need-cost_at-first-requires
cost-at-requires c κs = search rules

add-word-at : tie.Need-overflow_add-i
add-word-at c = search rules

shared-slice-read-word-at-2 : tie.Need-bounds-piece-i-2
shared-slice-read-word-at-2 c = search rules

word-at-requires-2 : tie.Need-word_at-y-requires
word-at-requires-2 c κs = search rules

add-t19 : tie.Need-overflow_add-result
add-t19 c = search rules

returns-3 : tie.Need-returns-then-end-y
returns-3 c = let m = one c.before.before.before in (omega arith, omega arith, m.0, omega arith, m.1)

cost-at-requires-2 : tie.Need-cost_at-requires
cost-at-requires-2 c κs = search rules

add-second : tie.Need-overflow_add-second
add-second c = search rules

add-word-at-2 : tie.Need-overflow_add-i-2
add-word-at-2 c = search rules

shared-slice-read-word-at-3 : tie.Need-bounds-piece-i-3
shared-slice-read-word-at-3 c = search rules

word-at-requires-3 : tie.Need-word_at-z-requires
word-at-requires-3 c κs = search rules

add-t22 : tie.Need-overflow_add-result-then-end-z
add-t22 c = search rules

returns-4 : tie.Need-returns-then-end-z
returns-4 c = let m = two c.before.before.before in (omega arith, omega arith, m.0, omega arith, m.1)

cost-at-requires-3 : tie.Need-cost_at-requires-2
cost-at-requires-3 c κs = search rules

add-third : tie.Need-overflow_add-third
add-third c = search rules

add-word-at-3 : tie.Need-overflow_add-i-3
add-word-at-3 c = search rules

shared-slice-read-word-at-4 : tie.Need-bounds-piece-i-4
shared-slice-read-word-at-4 c = search rules

word-at-requires-4 : tie.Need-word_at-v-requires
word-at-requires-4 c κs = search rules

add-t24 : tie.Need-overflow_add-result-then-end-v
add-t24 c = search rules

returns-5 : tie.Need-returns-then-end-v
returns-5 c = let m = three c.before.before.before in (omega arith, omega arith, m.0, omega arith, m.1)

add-t14 : tie.Need-overflow_add-result-2
add-t14 c = search rules

cost-at-requires-4 : tie.Need-cost_at-requires-3
cost-at-requires-4 c κs = search rules

add-t25 : tie.Need-overflow_add-result-3
add-t25 c = search rules

returns-6 : tie.Need-returns
returns-6 c = let m = four c in (omega arith, omega arith, m.0, omega arith, m.1)

pub turn_spec : {M : Type 1} → statement M
turn_spec =
    tie.close
    (tie.spec
    sub-end
    sub-if1
    returns
    shared-slice-read-word-at
    word-at-requires
    returns-2
    cost-at-requires
    add-word-at
    shared-slice-read-word-at-2
    word-at-requires-2
    add-t19
    returns-3
    cost-at-requires-2
    add-second
    add-word-at-2
    shared-slice-read-word-at-3
    word-at-requires-3
    add-t22
    returns-4
    cost-at-requires-3
    add-third
    add-word-at-3
    shared-slice-read-word-at-4
    word-at-requires-4
    add-t24
    returns-5
    add-t14
    cost-at-requires-4
    add-t25
    returns-6)
