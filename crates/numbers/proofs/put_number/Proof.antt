-- `put_number` meets its promise. Assumes nothing.
use borrow.Author.Rules.{rules}
use mathlib.Core.Path.{◌≡◌, ◌∙◌, ap}
use Prim.Native.Nat.{◌≤◌, ◌-◌}
use native.Mathlib.Omega.{arith}
use native.Mathlib.Numerals.{add-one}
use lib.ListN.{length}
use lib.Seq.{paste, paste-zero, paste-suc, length-paste}
use Rattle.numbers.specs.Number.{digits}
use Rattle.numbers.proofs.Laws.{length_digits, digits-at}
use Rattle.numbers.proofs.Bytes.{placed-in}
use Rattle.numbers.proofs.put_number.Statement.{statement}
use Rattle.numbers.proofs.put_number.Tie as tie

abbrev invariant-loop : tie.invariant-loop-j
invariant-loop b₀ at n v j₀ b j = (j ≤ n) × (b ≡ paste b₀ at (digits 8 n v) j)

abbrev decreases-loop : tie.decreases-loop-j
decreases-loop b₀ at n v j₀ b j = n - j

-- the bytes are as many as the loop writes
long : (c : tie.Start invariant-loop decreases-loop) → length (digits 8 c.args.n c.args.v) ≡ c.args.n
long c = length_digits 8 c.args.n c.args.v

-- the list keeps its length
kept : (c : tie.At-loop-j invariant-loop decreases-loop) → length c.loop-j.b ≡ length c.before.args.b.now
kept c =
    let a = c.before.args in
    ap length c.loop-j.invariant.1 ∙ length-paste a.b.now a.at (digits 8 a.n a.v) c.loop-j.j (omega (arith, c.before.requires)) (omega (arith, long c.before))

loop-holds : tie.Need-loop-j-init invariant-loop decreases-loop
loop-holds c = (search rules, paste-zero c.args.b.now c.args.at (digits 8 c.args.n c.args.v))

mul-b : tie.Need-overflow_mul-b invariant-loop decreases-loop
mul-b c = search rules

shr-b : tie.Need-overflow_shr-b invariant-loop decreases-loop
shr-b c = search rules

cast-b : tie.Need-overflow_cast-b invariant-loop decreases-loop
cast-b c = search rules

add-b : tie.Need-overflow_add-b invariant-loop decreases-loop
add-b c = search rules

slice-write-b : tie.Need-bounds-b-at invariant-loop decreases-loop
slice-write-b c = omega (arith, kept c.before)

add-j : tie.Need-overflow_step-j invariant-loop decreases-loop
add-j c = search rules

loop-less : tie.Need-loop-j-smaller invariant-loop decreases-loop
loop-less c = search rules

loop-again : tie.Need-loop-j-preserved invariant-loop decreases-loop
loop-again c =
    let a = c.before.before.args in
    let l = c.before.loop-j in
    (omega arith, rw (← digits-at 8 a.n a.v l.j (omega arith), l.invariant.1, add-one l.j) (paste-suc a.b.now a.at (digits 8 a.n a.v) l.j 0 (omega arith) (omega (arith, long c.before.before))))

same_length : tie.Need-shape_of-b invariant-loop decreases-loop
same_length c = kept c.before

returns : tie.Need-returns invariant-loop decreases-loop
returns c =
    let a = c.before.before.args in
    let l = c.before.loop-j in
    l.invariant.1 ∙ placed-in a.b.now a.at (digits 8 a.n a.v) l.j (omega (arith, long c.before.before)) (omega arith)

pub put_number_spec : {M : Type 1} → statement M
put_number_spec =
    tie.close (tie.spec invariant-loop decreases-loop loop-holds mul-b shr-b cast-b add-b slice-write-b add-j loop-less loop-again same_length returns)
