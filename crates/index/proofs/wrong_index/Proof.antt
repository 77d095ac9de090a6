-- `wrong_index` counts the splits. Assumes nothing.
use borrow.Author.Rules.{rules}
use mathlib.Core.Path.{ap, ◌∙◌}
use mathlib.Core.Bool.{not}
use Prim.Native.Nat.{ℕ}
use lib.ListN.{length}
use lib.Dec.{eqb}
use Rattle.index.specs.Entry.{entry_place}
use Rattle.index.proofs.wrong_index.Statement.{statement}
use Rattle.index.proofs.wrong_index.Tie as tie

split-count-requires : tie.Need-split_count-requires
split-count-requires c κs = search rules

entry-place-requires : tie.Need-entry_place-requires
entry-place-requires c κs = search rules

returns : tie.Need-returns
returns c = ap (λ (n : ℕ). not (eqb (length c.args.index.now) n)) (c.entry_place.ensures ∙ ap entry_place c.split_count.ensures)

pub wrong_index_spec : {M : Type 1} → statement M
wrong_index_spec = tie.close (tie.spec split-count-requires entry-place-requires returns)
