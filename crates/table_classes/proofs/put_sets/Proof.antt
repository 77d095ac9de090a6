-- `put_sets` meets its promise. Assumes nothing.
use borrow.Author.Rules.{rules}
use mathlib.Core.Path.{◌≡◌, refl}
use Prim.Native.Nat.{◌-◌, ◌≤◌}
use native.Mathlib.Omega.{arith}
use Rattle.sets.specs.Set.{set_of}
use Rattle.table.specs.Table.{byte_values}
use Rattle.table_classes.specs.inner.Loops.{SetsAre}
use Rattle.table_classes.proofs.Records.{sets-start, sets_more}
use Rattle.table_classes.proofs.put_sets.Statement.{statement}
use Rattle.table_classes.proofs.put_sets.Tie as tie

abbrev invariant-loop : tie.invariant-loop-c
invariant-loop f rows₀ c₀ rows c = (c ≤ byte_values) × SetsAre rows₀ rows (λ d. set_of f) c

abbrev decreases-loop : tie.decreases-loop-c
decreases-loop f rows₀ c₀ rows c = byte_values - c

loop-holds : tie.Need-loop-c-init invariant-loop decreases-loop
loop-holds c = (omega arith, sets-start c.args.rows.now (λ d. set_of c.args.f))

mul-store : tie.Need-overflow_mul-c invariant-loop decreases-loop
mul-store c = search rules

store-requires : tie.Need-store-requires invariant-loop decreases-loop
store-requires c κs = search rules

add-c : tie.Need-overflow_step-c invariant-loop decreases-loop
add-c c = search rules

loop-less : tie.Need-loop-c-smaller invariant-loop decreases-loop
loop-less c = search rules

loop-again : tie.Need-loop-c-preserved invariant-loop decreases-loop
loop-again c =
    let s = c in
    let l = c.loop-c in
    (omega arith, rw c.store.ensures (sets_more s.args.rows.now l.rows (λ d. set_of s.args.f) l.c _ s.requires.0 (omega arith) l.invariant.1 refl s.requires.1))

same_length : tie.Need-shape_of-rows invariant-loop decreases-loop
same_length c = c.loop-c.invariant.1.long

returns : tie.Need-returns invariant-loop decreases-loop
returns c = let e : c.loop-c.c ≡ byte_values = omega (arith, c.loop-c.invariant.0) in rw e at c.loop-c.invariant.1

pub put_sets_spec : {M : Type 1} → statement M
put_sets_spec =
    tie.close
    (tie.spec
    invariant-loop
    decreases-loop
    loop-holds
    mul-store
    store-requires
    add-c
    loop-less
    loop-again
    same_length
    returns)
