-- `block_ones` meets its promise. Assumes nothing.
use borrow.Author.Rules.{rules}
use borrow.Author.Tests.{eqb-true}
use mathlib.Core.Path.{sym, ap, ◌∙◌}
use Prim.Native.Nat.{◌*◌}
use lib.ListN.{length}
use Rattle.numbers.specs.Number.{num}
use Rattle.sets.specs.Set.{size}
use Rattle.sets.proofs.Words.{count-zero}
use Rattle.sets.proofs.block_ones.Statement.{statement}
use Rattle.sets.proofs.block_ones.Tie as tie

none-of-requires : tie.Need-none_of-requires
none-of-requires c κs = search rules

ones-of-requires : tie.Need-ones_of-requires
ones-of-requires c κs = search rules

returns : tie.Need-returns-then-none_of
returns c =
    let w = c.before.before.before.args.w.now in
    count-zero (64 * length w) ∙ ap (size (64 * length w)) (sym (eqb-true (num 64 w) 0 (sym c.before.none_of.ensures ∙ c.if-none_of.true)))

returns-2 : tie.Need-returns-else-none_of
returns-2 c = search rules

pub block_ones_spec : {M : Type 1} → statement M
block_ones_spec = tie.close (tie.spec none-of-requires ones-of-requires returns returns-2)
