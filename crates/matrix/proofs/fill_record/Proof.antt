-- `fill_record` goes through the bytes; the invariant is the definition at c. Assumes nothing.
use borrow.Author.Rules.{rules}
use native.Mathlib.Omega.{arith}
use Prim.Native.Nat.{ℕ, suc, ◌≤◌, ◌<◌, ◌-◌}
use lib.ListN.{length}
use mathlib.Core.List.{List}
use mathlib.Core.Path.{◌≡◌, refl, sym, ap, ◌∙◌}
use native.Mathlib.Numerals.{add-one}
use Rattle.sets.specs.Set.{states}
use Rattle.list.specs.List.{from, target}
use Rattle.matrix.specs.Matrix.{byte_values, cell_at}
use Rattle.matrix.specs.inner.Filling.{marked, marked_bytes}
use Rattle.matrix.proofs.Filling.{no_edge}
use Rattle.matrix.proofs.fill_record.Statement.{statement}
use Rattle.matrix.proofs.fill_record.Tie as tie

abbrev invariant-loop : tie.invariant-loop-c
invariant-loop list i matrix₀ s t c₀ matrix c = (c ≤ byte_values) × (matrix ≡ marked_bytes list i matrix₀ c) × (length matrix ≡ length matrix₀)

abbrev decreases-loop : tie.decreases-loop-c
decreases-loop list i matrix₀ s t c₀ matrix c = byte_values - c

is-edge-requires : tie.Need-is_edge-requires invariant-loop decreases-loop
is-edge-requires c κs = search rules

from-requires : tie.Need-from-s-requires invariant-loop decreases-loop
from-requires c κs = search rules

target-requires : tie.Need-target-t-requires invariant-loop decreases-loop
target-requires c κs = search rules

-- an edge of a checked list leads to a state, and its state has stored sets
placed-in : (c : tie.Then-is_edge invariant-loop decreases-loop)
    → let a = c.args in (target a.list.now a.i < states) × (cell_at (suc (from a.list.now a.i)) 0 ≤ length a.matrix.now)
placed-in c = c.requires.1 (sym c.is_edge.ensures ∙ c.if-is_edge.true)

loop-holds : tie.Need-loop-c-init invariant-loop decreases-loop
unfolding marked_bytes
loop-holds c = (search rules, refl, search rules)

cast-fill-byte : tie.Need-overflow_cast-c invariant-loop decreases-loop
cast-fill-byte c = search rules

fill-byte-requires : tie.Need-fill_byte-requires invariant-loop decreases-loop
fill-byte-requires c κs =
    let p = placed-in c.before.before.before.before.before in
    let s = c.before.before.before.before.before.before.before.before.before in
    let f = c.from-s.ensures in
    let t = c.target-t.ensures in
    (s.requires.0, f, t, rw t p.0, rw f (omega (arith, p.1, c.loop-c.invariant.2)))

add-c : tie.Need-overflow_step-c invariant-loop decreases-loop
add-c c = search rules

loop-less : tie.Need-loop-c-smaller invariant-loop decreases-loop
loop-less c = search rules

loop-again : tie.Need-loop-c-preserved invariant-loop decreases-loop
unfolding marked_bytes
loop-again c =
    let l = c.loop-c in
    let a = c.args in
    (search rules, rw add-one (c.fill_byte.ensures ∙ ap (λ (m : List ℕ). marked a.list.now a.i m l.c) l.invariant.1), search rules)

same_length : tie.Need-shape_of-matrix invariant-loop decreases-loop
same_length c = search rules

returns : tie.Need-returns-after-loop-c invariant-loop decreases-loop
returns c =
    let e : c.loop-c.c ≡ byte_values = omega arith in
    rw e at c.loop-c.invariant.1

returns-2 : tie.Need-returns-else-is_edge invariant-loop decreases-loop
returns-2 c = sym (no_edge _ _ _ byte_values (sym c.is_edge.ensures ∙ c.if-is_edge.false))

pub fill_record_spec : {M : Type 1} → statement M
fill_record_spec =
    tie.close
    (tie.spec
    invariant-loop
    decreases-loop
    is-edge-requires
    from-requires
    target-requires
    loop-holds
    cast-fill-byte
    fill-byte-requires
    add-c
    loop-less
    loop-again
    same_length
    returns
    returns-2)
