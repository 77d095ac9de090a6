-- `words_differ` compares the two words that it reads. Assumes nothing.
use borrow.Author.Rules.{rules}
use mathlib.Core.Path.{ap₂}
use mathlib.Core.Bool.{not}
use Prim.Native.Nat.{ℕ}
use lib.Dec.{eqb}
use Rattle.sets.proofs.words_differ.Statement.{statement}
use Rattle.sets.proofs.words_differ.Tie as tie

whole-word-requires : tie.Need-whole_word-requires
whole-word-requires c κs = search rules

whole-word-requires-2 : tie.Need-whole_word-requires-2
whole-word-requires-2 c κs = search rules

returns : tie.Need-returns
returns c = ap₂ (λ (m n : ℕ). not (eqb m n)) c.before.whole_word.ensures c.whole_word-2.ensures

pub words_differ_spec : {M : Type 1} → statement M
words_differ_spec = tie.close (tie.spec whole-word-requires whole-word-requires-2 returns)
