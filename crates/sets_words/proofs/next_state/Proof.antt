-- `next_state` meets its promise. Assumes nothing.
use borrow.Author.Rules.{rules}
use native.Mathlib.Omega.{arith}
use Prim.Native.Nat.{◌*◌}
use mathlib.Core.Path.{subst}
use Rattle.sets.specs.Set.{states, set_of}
use Rattle.sets.proofs.Whole.{valid-of}
use Rattle.sets_words.specs.inner.Next.{Next}
use Rattle.sets_words.proofs.Visiting.{next-cut, next-kept}
use Rattle.sets_words.proofs.next_state.Statement.{statement}
use Rattle.sets_words.proofs.next_state.Tie as tie

slice-aggregate-next-bit : tie.Need-slice_bounds-next_bit-end
slice-aggregate-next-bit c = search rules

next-bit-requires : tie.Need-next_bit-r-requires
next-bit-requires c κs =
    let s = c.before.before in
    let l = (valid-of s.args.set _ s.well_formed.0).long in
    omega arith

returns : tie.Need-returns-then-r-end
returns c =
    let s = c.before.before.before.before in
    let l = (valid-of s.args.set _ s.well_formed.0).long in
    let n = subst (λ z. Next (set_of s.args.set) s.args.s (64 * z) c.before.next_bit-r.result) l c.before.next_bit-r.ensures in
    next-kept (set_of s.args.set) s.args.s states s.args.end c.before.next_bit-r.result s.requires n c.if-r-end.true

returns-2 : tie.Need-returns-else-r-end
returns-2 c =
    let s = c.before.before.before.before in
    let l = (valid-of s.args.set _ s.well_formed.0).long in
    let n = subst (λ z. Next (set_of s.args.set) s.args.s (64 * z) c.before.next_bit-r.result) l c.before.next_bit-r.ensures in
    next-cut (set_of s.args.set) s.args.s states s.args.end c.before.next_bit-r.result s.requires n (omega (arith, c.if-r-end.false))

pub next_state_spec : {M : Type 1} → statement M
next_state_spec = tie.close (tie.spec slice-aggregate-next-bit next-bit-requires returns returns-2)
