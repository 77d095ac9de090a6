-- `put_byte` meets its promise. Assumes nothing.
use borrow.Author.Rules.{rules}
use Rattle.program_text.proofs.Texts.{puts-byte}
use Rattle.program_text.proofs.put_byte.Statement.{statement}
use Rattle.program_text.proofs.put_byte.Tie as tie

slice-write-text : tie.Need-bounds-text-at
slice-write-text c = search rules

add-result : tie.Need-overflow_add-result
add-result c = search rules

same_length : tie.Need-shape_of-text
same_length c = search rules

returns : tie.Need-returns
returns c = puts-byte c.args.text.now c.args.at c.args.b c.requires

pub put_byte_spec : {M : Type 1} → statement M
put_byte_spec = tie.close (tie.spec slice-write-text add-result same_length returns)
