-- `next_byte` meets its promise. Assumes nothing.
use borrow.Author.Rules.{rules}
use native.Mathlib.Omega.{arith}
use Prim.Native.Nat.{◌*◌}
use mathlib.Core.Path.{subst}
use Rattle.sets.specs.Set.{byte_set_of}
use Rattle.sets.proofs.Whole.{byte-set-valid-of}
use Rattle.sets_words.specs.inner.Next.{Next}
use Rattle.sets_words.proofs.next_byte.Statement.{statement}
use Rattle.sets_words.proofs.next_byte.Tie as tie

slice-aggregate-next-bit : tie.Need-slice_bounds-next_bit-end
slice-aggregate-next-bit c = search rules

next-bit-requires : tie.Need-next_bit-requires
next-bit-requires c κs =
    let s = c.before.before in
    let l = (byte-set-valid-of s.args.set _ s.well_formed.0).long in
    omega arith

returns : tie.Need-returns
returns c =
    let s = c.before.before.before in
    let l = (byte-set-valid-of s.args.set _ s.well_formed.0).long in
    subst (λ z. Next (byte_set_of s.args.set) s.args.c (64 * z) c.next_bit.result) l c.next_bit.ensures

pub next_byte_spec : {M : Type 1} → statement M
next_byte_spec = tie.close (tie.spec slice-aggregate-next-bit next-bit-requires returns)
