-- `times` is the product, which is small. Assumes nothing.
use borrow.Author.Rules.{rules}
use Prim.Native.Nat.{◌≤◌, ◌-◌, ◌*◌}
use native.Mathlib.Omega.{arith}
use native.Mathlib.Nat.{mul-le-mul_left}
use Rattle.index_quiet.proofs.times.Statement.{statement}
use Rattle.index_quiet.proofs.times.Tie as tie

mul-result : tie.Need-overflow_mul-result
mul-result c =
    let a = c.args in
    let h : a.n * a.c ≤ a.n * 255 = mul-le-mul_left a.n (omega arith) in
    record { fits = omega (arith, h) }

returns : tie.Need-returns
returns c =
    let a = c.args in
    let h : a.n * a.c ≤ a.n * 255 = mul-le-mul_left a.n (omega arith) in
    (search rules, omega (arith, h))

pub times_spec : {M : Type 1} → statement M
times_spec = tie.close (tie.spec mul-result returns)
