-- `words_before` compares the two words that it reads. Assumes nothing.
use borrow.Author.Rules.{rules}
use mathlib.Core.Path.{ap₂, ◌∙◌}
use Prim.Native.Nat.{ℕ}
use Rattle.numbers.specs.Number.{digits, before}
use Rattle.sets.proofs.words_before.Statement.{statement}
use Rattle.sets.proofs.words_before.Tie as tie

whole-word-requires : tie.Need-whole_word-requires
whole-word-requires c κs = search rules

whole-word-requires-2 : tie.Need-whole_word-requires-2
whole-word-requires-2 c κs = search rules

word-before-requires : tie.Need-word_before-requires
word-before-requires c κs = search rules

returns : tie.Need-returns
returns c = c.word_before.ensures ∙ ap₂ (λ (m n : ℕ). before (digits 8 8 m) (digits 8 8 n)) c.before.before.whole_word.ensures c.before.whole_word-2.ensures

pub words_before_spec : {M : Type 1} → statement M
words_before_spec = tie.close (tie.spec whole-word-requires whole-word-requires-2 word-before-requires returns)
