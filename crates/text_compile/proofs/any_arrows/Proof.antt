-- `any_arrows` meets its promise. Assumes nothing.
use borrow.Author.Rules.{rules}
use mathlib.Core.Path.{◌∙◌, ap}
use Rattle.sets.proofs.Sets.{empty-words}
use Rattle.text_compile.proofs.Listing.{all-bytes}
use Rattle.sets.specs.Set.{states, set_words, byte_set_of, insert, holds}
use Rattle.text_compile.proofs.any_arrows.Statement.{statement}
use Rattle.text_compile.proofs.any_arrows.Tie as tie

empty-requires : tie.Need-empty-requires
empty-requires c κs = search rules

span-requires : tie.Need-span-letter-requires
span-requires c κs = search rules

returns : tie.Need-returns-then-bound
returns c =
    (rw c.if-bound.true (empty-words set_words), λ b h. c.span-letter.ensures b h ∙ all-bytes (holds (byte_set_of c.empty.result) b) b h)

with-requires : tie.Need-with-requires
with-requires c κs = search rules

returns-2 : tie.Need-returns
returns-2 c =
    (rw c.if-bound.false (c.with.ensures ∙ ap (λ z. insert states z 0) (empty-words set_words)), λ b h. c.span-letter.ensures b h ∙ all-bytes (holds (byte_set_of c.empty.result) b) b h)

pub any_arrows_spec : {M : Type 1} → statement M
any_arrows_spec =
    tie.close
    (tie.spec
    empty-requires
    span-requires
    returns
    with-requires
    returns-2)
