-- `put_word` inserts where its test holds. Assumes nothing.
use borrow.Author.Rules.{rules}
use Rattle.list.proofs.put_word.Statement.{statement}
use Rattle.list.proofs.put_word.Tie as tie

word-of-requires : tie.Need-word_of-requires
word-of-requires c κs = search rules

put-bit-requires : tie.Need-put_bit-requires
put-bit-requires c κs = search rules

same_length : tie.Need-shape_of-w
same_length c = search rules

returns : tie.Need-returns-then-test
returns c = rw c.if-test.true (cc)

returns-2 : tie.Need-returns-else-test
returns-2 c = rw c.if-test.false

pub put_word_spec : {M : Type 1} → statement M
put_word_spec = tie.close (tie.spec word-of-requires put-bit-requires same_length returns returns-2)
