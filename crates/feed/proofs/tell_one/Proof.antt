-- `tell_one` meets its promise. Assumes nothing.
use borrow.Author.Rules.{rules}
use mathlib.Core.Path.{◌≡◌, ap, ◌∙◌}
use Prim.Native.Nat.{ℕ, ◌≤◌, ◌<◌, ◌+◌, ◌*◌, ◌^◌}
use native.Mathlib.Omega.{arith}
use native.Mathlib.Nat.{one-mul, zero-mul}
use lib.ListN.{length, length-set}
use Rattle.sets.specs.Set.{signatures, size}
use Rattle.sets.proofs.Parts.{at-state}
use Rattle.feed.proofs.Telling.{tells_none, tells-one, one_size}
use Rattle.feed.proofs.tell_one.Statement.{statement}
use Rattle.feed.proofs.tell_one.Tie as tie

-- where the bit is 1, it is the signature's
one : (c : tie.Then-bit-eq1) → c.args.bit * 2 ^ c.args.s ≡ 2 ^ c.args.s
one c = ap (λ (n : ℕ). n * 2 ^ c.args.s) c.if-bit-eq1.true ∙ one-mul (2 ^ c.args.s)

signature : (c : tie.Then-bit-eq1) → c.args.s < signatures
signature c = at-state c.args.bit c.args.s signatures c.requires.1 (λ e. omega (arith, c.if-bit-eq1.true))

-- and its two words are there
room : (c : tie.Then-bit-eq1) → c.args.w + 2 ≤ length c.args.pairs.now
room c = omega (arith, c.requires.2, ap (size signatures) (one c), one_size c.args.s (signature c))

cast-signature : tie.Need-overflow_cast-signature
cast-signature c = omega (arith, signature c)

mul-pairs : tie.Need-offset_bounds-pairs-w
mul-pairs c = omega (arith, room c)

slice-write-pairs : tie.Need-bounds-pairs-w
slice-write-pairs c = omega (arith, room c)

add-pairs : tie.Need-overflow_add-pairs
add-pairs c = omega (arith, room c)

mul-pairs-2 : tie.Need-offset_bounds-pairs-w-then-bit-eq1
mul-pairs-2 c = omega (arith, room c)

slice-write-pairs-2 : tie.Need-bounds-pairs-w-then-bit-eq1
slice-write-pairs-2 c = simp length-set (omega (arith, room c))

add-result : tie.Need-overflow_add-result
add-result c = omega (arith, room c)

same_length : tie.Need-shape_of-pairs-then-bit-eq1
same_length c = search rules

returns : tie.Need-returns-then-bit-eq1
returns c = let a = c.args in rw (one c) (tells-one a.pairs.now a.w a.offset a.s (signature c) (room c))

returns-2 : tie.Need-returns
returns-2 c =
    let a = c.args in
    let z : a.bit ≡ 0 = omega (arith, c.if-bit-eq1.false, c.requires.0) in
    tells_none a.pairs.now a.w a.offset (a.bit * 2 ^ a.s) (ap (λ (n : ℕ). n * 2 ^ a.s) z ∙ zero-mul (2 ^ a.s))

pub tell_one_spec : {M : Type 1} → statement M
tell_one_spec =
    tie.close
    (tie.spec cast-signature mul-pairs slice-write-pairs add-pairs mul-pairs-2 slice-write-pairs-2 add-result same_length returns returns-2)
