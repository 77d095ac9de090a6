-- `bytes_of` writes all bytes of the set. Assumes nothing.
use borrow.Author.Rules.{rules}
use mathlib.Core.Path.{ap, ◌∙◌}
use mathlib.Core.List.{List}
use Prim.Native.Nat.{ℕ}
use Rattle.sets.specs.Set.{set_words, set_of, set_at}
use Rattle.sets.proofs.Sets.{words-lt}
use Rattle.sets.proofs.Whole.{valid-of}
use Rattle.matrix.proofs.Joining.{bytes-set}
use Rattle.matrix.proofs.bytes_of.Statement.{statement}
use Rattle.matrix.proofs.bytes_of.Tie as tie

slice-aggregate-store : tie.Need-slice_bounds-store-end
slice-aggregate-store c = search rules

store-requires : tie.Need-store-requires
store-requires c κs = search rules

returns : tie.Need-returns
returns c =
    let s = c.before.before.before in
    ap (λ (b : List ℕ). set_at b 0) c.store.ensures
    ∙ bytes-set _ (set_of s.args.f) (search rules) (words-lt set_words s.args.f.words (valid-of s.args.f _ s.well_formed.0))

pub bytes_of_spec : {M : Type 1} → statement M
bytes_of_spec = tie.close (tie.spec slice-aggregate-store store-requires returns)
