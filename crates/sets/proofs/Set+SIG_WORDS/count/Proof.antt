-- `count` meets its promise. Assumes nothing.
use borrow.Author.Rules.{rules}
use native.Mathlib.Omega.{arith}
use Rattle.sets.proofs.Whole.{sigs-valid-of}
use Rattle.sets.proofs.Set+SIG_WORDS.count.Statement.{statement}
use Rattle.sets.proofs.Set+SIG_WORDS.count.Tie as tie

slice-aggregate-ones-of : tie.Need-slice_bounds-ones_of-end
slice-aggregate-ones-of c = search rules

ones-of-requires : tie.Need-ones_of-requires
ones-of-requires c κs =
    let s = c.before.before in
    omega (arith, (sigs-valid-of s.args.self _ s.well_formed.0).long)

returns : tie.Need-returns
returns c =
    let s = c.before.before.before in
    rw (sigs-valid-of s.args.self _ s.well_formed.0).long at c.ones_of.ensures

pub count_spec : {M : Type 1} → statement M
count_spec = tie.close (tie.spec slice-aggregate-ones-of ones-of-requires returns)
