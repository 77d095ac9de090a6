-- `keep_fronts` writes each frontier behind those before it. Assumes nothing.
use borrow.Author.Rules.{rules}
use Prim.Native.Nat.{suc, ◌≤◌, ◌-◌}
use mathlib.Core.Path.{refl, ap, ◌≡◌, sym, ◌∙◌}
use native.Mathlib.Nat.{mul-suc, mul-le-mul_left}
use native.Mathlib.Numerals.{add-one}
use native.Mathlib.Omega.{arith}
use lib.ListN.{length}
use Rattle.numbers.specs.Number.{placed}
use Rattle.sets.specs.Set.{set_size, set_of, set_bytes}
use Rattle.numbers.proofs.Placing.{length-placed}
use Rattle.rules.specs.Scan.{stack}
use Rattle.list_why.specs.Reason.{front}
use Rattle.list_why.proofs.Keeping.{kept_on, kept-none}
use Rattle.list_why.proofs.Traces.{front-none, front-more}
use Rattle.list_why.proofs.keep_fronts.Statement.{statement}
use Rattle.list_why.proofs.keep_fronts.Tie as tie

abbrev invariant-loop : tie.invariant-loop-i
invariant-loop list piece n work₀ f₀ i₀ work f i = (i ≤ n) × (set_of f ≡ front list (set_of f₀) piece i) × (work ≡ placed work₀ 0 (stack (λ j. set_bytes (front list (set_of f₀) piece j)) i))

abbrev decreases-loop : tie.decreases-loop-i
decreases-loop list piece n work₀ f₀ i₀ work f i = n - i

loop-holds : tie.Need-loop-i-init invariant-loop decreases-loop
loop-holds c =
    let a = c.args in
    (search rules, sym (front-none a.list.now (set_of a.first) a.piece.now), kept-none (front a.list.now (set_of a.first) a.piece.now) a.work.now)

mul-store : tie.Need-overflow_mul-i invariant-loop decreases-loop
mul-store c = search rules

store-requires : tie.Need-store-requires invariant-loop decreases-loop
store-requires c κs = search rules

shared-slice-read-step : tie.Need-bounds-piece-i invariant-loop decreases-loop
shared-slice-read-step c = search rules

step-requires : tie.Need-step-f-requires invariant-loop decreases-loop
step-requires c κs = search rules

add-i : tie.Need-overflow_step-i invariant-loop decreases-loop
add-i c = search rules

loop-less : tie.Need-loop-i-smaller invariant-loop decreases-loop
loop-less c = search rules

loop-again : tie.Need-loop-i-preserved invariant-loop decreases-loop
loop-again c =
    let s = c.before.before.before.before.before.before.before in
    let p = s.loop-i in
    let b = s in
    let a = b.args in
    let m = mul-le-mul_left {m = suc p.i} {n = a.n} set_size (search rules) in (
      search rules,
      rw (add-one, front-more a.list.now (set_of a.first) a.piece.now p.i (search rules), c.step-f.ensures, p.invariant.1) refl,
      rw add-one (kept_on (front a.list.now (set_of a.first) a.piece.now) a.work.now p.work _ p.i (set_of p.f) p.invariant.2 c.store.ensures p.invariant.1
          (omega (arith, m, b.requires.1, mul-suc set_size a.n))),
    )

mul-store-2 : tie.Need-overflow_mul-n invariant-loop decreases-loop
mul-store-2 c = search rules

store-requires-2 : tie.Need-store-requires-2 invariant-loop decreases-loop
store-requires-2 c κs = search rules

-- the last frontier is written behind the others
kept : (c : tie.After-slice_known-2-1 invariant-loop decreases-loop)
    → let a = c.args in
    c.store-2.new.b ≡ placed a.work.now 0 (stack (λ j. set_bytes (front a.list.now (set_of a.first) a.piece.now j)) (suc a.n))
kept c =
    let p = c.loop-i in
    let a = c.args in
    let e : p.i ≡ a.n = omega arith in
    kept_on (front a.list.now (set_of a.first) a.piece.now) a.work.now p.work _ a.n (set_of p.f) (rw e at p.invariant.2) c.store-2.ensures (rw e at p.invariant.1) c.requires.1

same_length : tie.Need-shape_of-work invariant-loop decreases-loop
same_length c =
    let a = c.args in
    ap length (kept c) ∙ length-placed a.work.now 0 _

returns : tie.Need-returns invariant-loop decreases-loop
returns c = kept c

pub keep_fronts_spec : {M : Type 1} → statement M
keep_fronts_spec =
    tie.close
    (tie.spec
    invariant-loop
    decreases-loop
    loop-holds
    mul-store
    store-requires
    shared-slice-read-step
    step-requires
    add-i
    loop-less
    loop-again
    mul-store-2
    store-requires-2
    same_length
    returns)
