-- `add_steps` meets its promise: where the byte does not take the record, its set stays. Assumes nothing.
use borrow.Author.Rules.{rules}
use mathlib.Core.Path.{◌≡◌, sym, ap, ap₂, ◌∙◌}
use Prim.Native.Nat.{ℕ, ◌-◌, ◌≤◌, ◌<◌}
use native.Mathlib.Omega.{arith}
use Rattle.sets.specs.Set.{set_of, join}
use Rattle.numbers.proofs.Laws.{Small}
use Rattle.sets.proofs.Sets.{set-at-lt, join-comm, join-empty}
use Rattle.rules.proofs.Scanning.{choose}
use Rattle.list.specs.Automaton.{step}
use Rattle.list.proofs.Steps.{step-lt}
use Rattle.table.specs.Table.{byte_values, part}
use Rattle.table_classes.specs.inner.Loops.{SetsAre}
use Rattle.table_classes.proofs.Records.{step-untaken, untaken-same, sets-from, sets-all, sets_more, sets-kept, join-lt}
use Rattle.table_classes.proofs.add_steps.Statement.{statement}
use Rattle.table_classes.proofs.add_steps.Tie as tie

abbrev invariant-loop : tie.invariant-loop-c
invariant-loop l f rows₀ low end c₀ rows c = (c ≤ byte_values) × SetsAre rows₀ rows (λ d. join (part rows₀ d) (step l (set_of f) d)) c × Small 8 rows

abbrev decreases-loop : tie.decreases-loop-c
decreases-loop l f rows₀ low end c₀ rows c = end - c

-- in the loop a byte is still to come
to-come : (c : tie.In-loop-c invariant-loop decreases-loop) → c.loop-c.c < byte_values
to-come c = omega (arith, c.loop-c-test, c.end_byte-end.ensures.0)

first-byte-requires : tie.Need-first_byte-low-requires invariant-loop decreases-loop
first-byte-requires c κs = c.requires.1

end-byte-requires : tie.Need-end_byte-end-requires invariant-loop decreases-loop
end-byte-requires c κs = c.requires.1

loop-holds : tie.Need-loop-c-init invariant-loop decreases-loop
loop-holds c =
    let s = c in
    let a = s.args in
    let low = c.first_byte-low in
    let W = a.rows.now in (
      low.ensures.0,
      sets-from W (λ d. join (part W d) (step a.list.now (set_of a.f) d)) low.result (λ d h. untaken-same a.list.now (set_of a.f) d (part W d) s.requires.1 (low.ensures.1 d h)),
      λ i. (c.slice_known-1.given i).fits,
    )

cast-b : tie.Need-overflow_cast-b invariant-loop decreases-loop
cast-b c = omega (arith, to-come c)

exchanged-requires : tie.Need-exchanged-requires invariant-loop decreases-loop
exchanged-requires c κs = search rules

edge-requires : tie.Need-edge-requires invariant-loop decreases-loop
edge-requires c κs = (omega (arith, c.requires.1), c.exchanged.ensures)

mul-from-bytes : tie.Need-overflow_mul-c invariant-loop decreases-loop
mul-from-bytes c = omega (arith, to-come c.before.before.before)

from-bytes-requires : tie.Need-from_bytes-requires invariant-loop decreases-loop
from-bytes-requires c κs = (search rules, omega (arith, to-come c.before.before.before, c.loop-c.invariant.1.long, c.requires.0))

step-requires : tie.Need-step-requires invariant-loop decreases-loop
step-requires c κs = search rules

union-requires : tie.Need-union-t-requires invariant-loop decreases-loop
union-requires c κs = search rules

mul-store : tie.Need-overflow_mul-c-then-edge invariant-loop decreases-loop
mul-store c = omega (arith, to-come c.before.before.before.before.before.before.before)

store-requires : tie.Need-store-requires invariant-loop decreases-loop
store-requires c κs = search rules

add-c : tie.Need-overflow_step-c invariant-loop decreases-loop
add-c c = omega (arith, to-come c.before.before.before)

loop-less : tie.Need-loop-c-smaller invariant-loop decreases-loop
loop-less c = omega (arith, c.loop-c-test)

loop-again : tie.Need-loop-c-preserved invariant-loop decreases-loop
unfolding part
loop-again c =
    let s = c in
    let l = c.loop-c in
    let k = to-come c.before.before.before in
    let f : ℕ → ℕ = λ d. join (part s.args.rows.now d) (step s.args.list.now (set_of s.args.f) d) in
    choose c.if-edge.branch-raw
    (λ w. let g : set_of w.from_bytes.result ≡ part l.rows l.c = w.from_bytes.ensures in
    let u : set_of w.union-t.result ≡ join (part l.rows l.c) (step s.args.list.now (set_of s.args.f) l.c) = w.union-t.ensures ∙ ap₂ join g w.step.ensures in (
      omega (arith, k),
      rw (w.rows-is, w.store.ensures) (sets_more s.args.rows.now l.rows f l.c (set_of w.union-t.result) s.requires.0 k l.invariant.1
          (u ∙ ap (λ (x : ℕ). join x (step s.args.list.now (set_of s.args.f) l.c)) (l.invariant.1.rest l.c (omega arith)))
          (rw u (join-lt _ _ (set-at-lt l.rows _ l.invariant.2) (step-lt s.args.list.now _ _)))),
      rw w.rows-is (λ i. (w.slice_known-then-edge-1.given i).fits),
    ))
    (λ w. let z : step s.args.list.now (set_of s.args.f) l.c ≡ 0 =
    step-untaken s.args.list.now (set_of s.args.f) l.c s.requires.1 (sym c.edge.ensures ∙ w.if-edge.false) in (
      omega (arith, k),
      rw w.rows-is (sets-kept s.args.rows.now l.rows f l.c l.invariant.1
          (sym (ap (λ (x : ℕ). join (part s.args.rows.now l.c) x) z ∙ join-comm (part s.args.rows.now l.c) 0 ∙ join-empty (part s.args.rows.now l.c)))),
      rw w.rows-is l.invariant.2,
    ))

same_length : tie.Need-shape_of-rows invariant-loop decreases-loop
same_length c = c.loop-c.invariant.1.long

returns : tie.Need-returns invariant-loop decreases-loop
returns c =
    let s = c in
    let a = s.args in
    let l = c.loop-c in
    let end = c.end_byte-end in
    let W = a.rows.now in
    sets-all W l.rows (λ d. join (part W d) (step a.list.now (set_of a.f) d)) l.c byte_values l.invariant.1
    (λ d h m. untaken-same a.list.now (set_of a.f) d (part W d) s.requires.1 (end.ensures.1 d (omega (arith, c.loop-c-test, h)) m))
    (λ d h. l.invariant.1.rest d (omega (arith, l.invariant.0, h)))

pub add_steps_spec : {M : Type 1} → statement M
add_steps_spec =
    tie.close
    (tie.spec
    invariant-loop
    decreases-loop
    first-byte-requires
    end-byte-requires
    loop-holds
    cast-b
    exchanged-requires
    edge-requires
    mul-from-bytes
    from-bytes-requires
    step-requires
    union-requires
    mul-store
    store-requires
    add-c
    loop-less
    loop-again
    same_length
    returns)
