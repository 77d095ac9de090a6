-- `first_like` meets its promise. Assumes nothing.
use borrow.Author.Rules.{rules}
use mathlib.Core.Path.{◌≡◌, sym, ap, ◌∙◌}
use mathlib.Core.Bool.{false, ◌&&◌}
use Prim.Native.Nat.{ℕ, ◌-◌, ◌≤◌}
use native.Mathlib.Omega.{arith}
use lib.ListN.{get_or}
use lib.Dec.{eqb}
use Rattle.rules.specs.Scan.{some}
use Rattle.rules.proofs.Scanning.{first-at}
use Rattle.table.specs.Table.{byte_values, part}
use Rattle.table_classes.specs.inner.Loops.{like, parted}
use Rattle.table_classes.proofs.Turns.{some-zero, some_more}
use Rattle.table_classes.proofs.Parting.{like-self}
use Rattle.table_classes.proofs.first_like.Statement.{statement}
use Rattle.table_classes.proofs.first_like.Tie as tie

abbrev invariant-loop : tie.invariant-loop-d
invariant-loop classes rows c x f d₀ d = (d ≤ c) × (some d (like classes rows c) ≡ false)

abbrev decreases-loop : tie.decreases-loop-d
decreases-loop classes rows c x f d₀ d = c - d

shared-slice-read-x : tie.Need-bounds-classes-c invariant-loop decreases-loop
shared-slice-read-x c = search rules

mul-from-bytes : tie.Need-overflow_mul-c invariant-loop decreases-loop
mul-from-bytes c = search rules

from-bytes-requires : tie.Need-from_bytes-f-requires invariant-loop decreases-loop
from-bytes-requires c κs = search rules

-- what the test says
said : (c : tie.After-is_like invariant-loop decreases-loop) → c.is_like.result ≡ like c.args.classes.now c.args.rows.now c.args.c c.loop-d.d
unfolding part
said c = c.is_like.ensures ∙ ap (λ (x : ℕ). eqb (get_or c.args.classes.now c.loop-d.d 0) (get_or c.args.classes.now c.args.c 0) && eqb (part c.args.rows.now c.loop-d.d) x) c.from_bytes-f.ensures

loop-holds : tie.Need-loop-d-init invariant-loop decreases-loop
loop-holds c = (omega arith, some-zero _)

is-like-requires : tie.Need-is_like-requires invariant-loop decreases-loop
is-like-requires c κs = search rules

returns : tie.Need-returns-then-is_like invariant-loop decreases-loop
unfolding parted
returns c = (sym (first-at byte_values (like c.args.classes.now c.args.rows.now c.args.c) c.loop-d.d (omega (arith, c.requires.2)) c.loop-d.invariant.1 (sym (said c.before) ∙ c.if-is_like.true)), c.loop-d.invariant.0)

add-d : tie.Need-overflow_step-d invariant-loop decreases-loop
add-d c = search rules

loop-less : tie.Need-loop-d-smaller invariant-loop decreases-loop
loop-less c = search rules

loop-again : tie.Need-loop-d-preserved invariant-loop decreases-loop
loop-again c = (omega arith, some_more _ c.loop-d.d c.loop-d.invariant.1 (sym (said c.before) ∙ c.if-is_like.false))

returns-2 : tie.Need-returns invariant-loop decreases-loop
unfolding parted
returns-2 c =
    let s = c in
    let e : c.loop-d.d ≡ s.args.c = omega (arith, c.loop-d.invariant.0) in
    (sym (first-at byte_values (like s.args.classes.now s.args.rows.now s.args.c) s.args.c s.requires.2 (rw e at c.loop-d.invariant.1) (like-self s.args.classes.now s.args.rows.now s.args.c)), omega arith)

pub first_like_spec : {M : Type 1} → statement M
first_like_spec =
    tie.close
    (tie.spec
    invariant-loop
    decreases-loop
    shared-slice-read-x
    mul-from-bytes
    from-bytes-requires
    loop-holds
    is-like-requires
    returns
    add-d
    loop-less
    loop-again
    returns-2)
