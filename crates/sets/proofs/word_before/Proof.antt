-- `word_before` meets its promise: the bytes read so far, as numbers with the high byte first, tell the order. Assumes nothing.
use borrow.Author.Rules.{rules}
use mathlib.Core.Path.{◌≡◌}
use Prim.Native.Nat.{ℕ, ◌+◌, ◌*◌, ◌/◌, ◌%◌, ◌^◌, ◌≤◌, ◌<◌, ◌-◌}
use native.Mathlib.Nat.{mod-lt, lt_of_lt_of_le}
use native.Mathlib.Omega.{arith}
use lib.Dec.{lit<}
use lib.Arith.{digits_lt}
use lib.Pow.{pow_mono, pow-add}
use Rattle.numbers.specs.Number.{digits}
use Rattle.numbers.proofs.Laws.{digits-at, small-digits, length_digits}
use Rattle.numbers.proofs.Order.{Ranks, ranks-none, ranks-more, ranks-all}
use Rattle.sets.proofs.word_before.Statement.{statement}
use Rattle.sets.proofs.word_before.Tie as tie

abbrev invariant-loop : tie.invariant-loop-j
invariant-loop x y p₀ q₀ j₀ p q j = (j ≤ 8) × (p < 2 ^ (8 * j)) × (q < 2 ^ (8 * j)) × Ranks (digits 8 8 x) (digits 8 8 y) j p q

abbrev decreases-loop : tie.decreases-loop-j
decreases-loop x y p₀ q₀ j₀ p q j = 8 - j

-- seven bytes and one more are a word
room : (p j : ℕ) → p < 2 ^ (8 * j) → j < 8 → p < 2 ^ 56
room p j h l = lt_of_lt_of_le h (pow_mono {j = 56} (omega arith))

byte : (n : ℕ) → n % 256 < 256
byte n = mod-lt n (lit< tt)

-- and the number of one byte more
more : (p j x : ℕ) → p < 2 ^ (8 * j) → p * 256 + x / 2 ^ (8 * j) % 256 < 2 ^ (8 * (j + 1))
more p j x h =
    let e : 8 * (j + 1) ≡ 8 * j + 8 = omega arith in
    rw (e, pow-add 2 (8 * j) 8) (digits_lt h (byte (x / 2 ^ (8 * j))))

loop-holds : tie.Need-loop-j-init invariant-loop decreases-loop
loop-holds c = (search rules, lit< tt, lit< tt, ranks-none (digits 8 8 c.args.x) (digits 8 8 c.args.y))

mul-p : tie.Need-overflow_mul-p invariant-loop decreases-loop
mul-p c = let l = c.before.loop-j in omega (arith, room l.p l.j l.invariant.1 (omega arith))

mul-p-2 : tie.Need-overflow_mul-p-in-loop-j invariant-loop decreases-loop
mul-p-2 c = search rules

shr-p : tie.Need-overflow_shr-p invariant-loop decreases-loop
shr-p c = search rules

add-p : tie.Need-overflow_add-p invariant-loop decreases-loop
add-p c = let l = c.before.loop-j in omega (arith, room l.p l.j l.invariant.1 (omega arith), byte (c.before.before.args.x / 2 ^ (8 * l.j)))

mul-q : tie.Need-overflow_mul-q invariant-loop decreases-loop
mul-q c = let l = c.before.loop-j in omega (arith, room l.q l.j l.invariant.2 (omega arith))

mul-q-2 : tie.Need-overflow_mul-q-in-loop-j invariant-loop decreases-loop
mul-q-2 c = search rules

shr-q : tie.Need-overflow_shr-q invariant-loop decreases-loop
shr-q c = search rules

add-q : tie.Need-overflow_add-q invariant-loop decreases-loop
add-q c = let l = c.before.loop-j in omega (arith, room l.q l.j l.invariant.2 (omega arith), byte (c.before.before.args.y / 2 ^ (8 * l.j)))

add-j : tie.Need-overflow_step-j invariant-loop decreases-loop
add-j c = search rules

loop-less : tie.Need-loop-j-smaller invariant-loop decreases-loop
loop-less c = search rules

loop-again : tie.Need-loop-j-preserved invariant-loop decreases-loop
loop-again c =
    let l = c.before.loop-j in
    let a = c.before.before.args in
    let u = digits-at 8 8 a.x l.j (omega arith) in
    let v = digits-at 8 8 a.y l.j (omega arith) in (
      omega arith,
      more l.p l.j a.x l.invariant.1,
      more l.q l.j a.y l.invariant.2,
      rw (← u, ← v) (ranks-more (digits 8 8 a.x) (digits 8 8 a.y) l.j l.p l.q l.invariant.3
          (omega (arith, length_digits 8 8 a.x)) (omega (arith, length_digits 8 8 a.y))
          (small-digits 8 8 a.x l.j) (small-digits 8 8 a.y l.j)),
    )

returns : tie.Need-returns invariant-loop decreases-loop
returns c =
    let l = c.before.loop-j in
    let a = c.before.before.args in
    ranks-all (digits 8 8 a.x) (digits 8 8 a.y) l.j l.p l.q l.invariant.3
    (omega (arith, length_digits 8 8 a.x)) (omega (arith, length_digits 8 8 a.y))

pub word_before_spec : {M : Type 1} → statement M
word_before_spec =
    tie.close
    (tie.spec
    invariant-loop
    decreases-loop
    loop-holds
    mul-p
    mul-p-2
    shr-p
    add-p
    mul-q
    mul-q-2
    shr-q
    add-q
    add-j
    loop-less
    loop-again
    returns)
