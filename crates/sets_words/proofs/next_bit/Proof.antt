-- `next_bit` meets its promise: it looks at the rest of the word where s stands, then at the words after it. Assumes nothing.
use borrow.Author.Rules.{rules}
use native.Mathlib.Omega.{arith}
use Prim.Native.Nat.{◌*◌, ◌/◌, ◌%◌, ◌^◌}
use lib.ListN.{length, get_or}
use mathlib.Core.Path.{◌≡◌}
use Rattle.numbers.specs.Number.{num}
use Rattle.sets_words.proofs.Visiting.{next-none, next_here, next-on}
use Rattle.sets_words.proofs.next_bit.Statement.{statement}
use Rattle.sets_words.proofs.next_bit.Tie as tie

mul-result : tie.Need-overflow_mul-result
mul-result c = search rules

returns : tie.Need-returns-then-w-i
returns c =
    let a = c.before.before.args in
    next-none (num 64 a.w.now) a.s (64 * length a.w.now) (λ q h l. absurd (omega (arith, c.if-w-i.true)))

mul-x : tie.Need-offset_bounds-w-i
mul-x c = search rules

shared-slice-read-x : tie.Need-bounds-w-i
shared-slice-read-x c = search rules

shr-x : tie.Need-overflow_shr-x
shr-x c = search rules

lowest-requires : tie.Need-lowest-requires
lowest-requires c κs = search rules

add-result : tie.Need-overflow_add-result
add-result c = search rules

returns-2 : tie.Need-returns-then-x-ne0
returns-2 c =
    let a = c.before.before.before.before.before.args in
    next_here a.w.now (λ i. (c.before.before.shared_slice_known-2-1.given i).fits) a.s c.lowest.result (64 * length a.w.now) (omega (arith, c.before.before.before.if-w-i.false)) c.lowest.ensures

add-bit-ahead : tie.Need-overflow_add-i
add-bit-ahead c = search rules

bit-ahead-requires : tie.Need-bit_ahead-requires
bit-ahead-requires c κs = search rules

returns-3 : tie.Need-returns
returns-3 c =
    let a = c.before.before.before.before.before.args in
    let z : get_or a.w.now (a.s / 64) 0 / 2 ^ (a.s % 64) ≡ 0 = omega (arith, c.before.if-x-ne0.false) in
    next-on a.w.now (λ i. (c.before.before.shared_slice_known-2-1.given i).fits) a.s c.bit_ahead.result (64 * length a.w.now) z (omega (arith, c.before.before.before.if-w-i.false)) c.bit_ahead.ensures

pub next_bit_spec : {M : Type 1} → statement M
next_bit_spec =
    tie.close
    (tie.spec
    mul-result
    returns
    mul-x
    shared-slice-read-x
    shr-x
    lowest-requires
    add-result
    returns-2
    add-bit-ahead
    bit-ahead-requires
    returns-3)
