-- `zeros` goes through the bytes; the invariant is the definition for the bytes passed. Assumes nothing.
use borrow.Author.Rules.{rules}
use mathlib.Core.Path.{◌≡◌, refl}
use Prim.Native.Nat.{◌≤◌, ◌-◌, ◌+◌}
use native.Mathlib.Omega.{arith}
use native.Mathlib.Numerals.{add-one}
use lib.Dec.{eqb}
use Rattle.rules.specs.Scan.{every}
use Rattle.list.specs.List.{byte_of}
use Rattle.list.proofs.zeros.Statement.{statement}
use Rattle.list.proofs.zeros.Tie as tie

abbrev invariant-loop : tie.invariant-loop-k
invariant-loop list i n all₀ k₀ all k = (k ≤ n) × (all ≡ every k (λ j. eqb (byte_of list i (j + 1)) 0))

abbrev decreases-loop : tie.decreases-loop-k
decreases-loop list i n all₀ k₀ all k = n - k

loop-holds : tie.Need-loop-k-init invariant-loop decreases-loop
unfolding every
loop-holds c = (search rules, refl)

add-byte-of : tie.Need-overflow_add-k invariant-loop decreases-loop
add-byte-of c = search rules

byte-of-requires : tie.Need-byte_of-requires invariant-loop decreases-loop
byte-of-requires c κs = search rules

add-k : tie.Need-overflow_step-k invariant-loop decreases-loop
add-k c = search rules

loop-less : tie.Need-loop-k-smaller invariant-loop decreases-loop
loop-less c = search rules

loop-again : tie.Need-loop-k-preserved invariant-loop decreases-loop
unfolding every
loop-again c = (search rules, rw add-one (cc))

returns : tie.Need-returns invariant-loop decreases-loop
returns c = let e : c.loop-k.k ≡ c.args.n = omega arith in cc

pub zeros_spec : {M : Type 1} → statement M
zeros_spec =
    tie.close
    (tie.spec
    invariant-loop
    decreases-loop
    loop-holds
    add-byte-of
    byte-of-requires
    add-k
    loop-less
    loop-again
    returns)
