-- `put_ending` meets its promise: word, number and line feed are put one after the other. Assumes nothing.
use borrow.Author.Rules.{rules}
use native.Mathlib.Omega.{arith}
use Rattle.io.proofs.Counting.{prefix_len_of_le}
use Rattle.program_text.proofs.Texts.{puts-after, puts-front}
use Rattle.program_text.proofs.put_ending.Statement.{statement}
use Rattle.program_text.proofs.put_ending.Tie as tie

put-bytes-requires : tie.Need-put_bytes-a-requires
put-bytes-requires c κs = search rules

put-number-requires : tie.Need-put_number-b-requires
put-number-requires c κs = search rules

put-byte-requires : tie.Need-put_byte-requires
put-byte-requires c κs = search rules

same_length : tie.Need-shape_of-text
same_length c = search rules

returns : tie.Need-returns
returns c =
    let s = c.before.before.before.before.before.before.before.before.before.before.before.before.before.before in
    let a = puts-after _ 20 _ _ _ _ _ _ _ _ (omega (arith, s.requires)) c.put_bytes-a.ensures c.put_number-b.ensures in
    let b = puts-after _ 1 _ _ _ _ _ _ _ _ (omega (arith, s.requires)) a c.put_byte.ensures in
    (prefix_len_of_le _ _ (omega (arith, s.requires, b.0, b.1, b.3)), puts-front _ _ _ _ _ (omega (arith, s.requires)) b)

pub put_ending_spec : {M : Type 1} → statement M
put_ending_spec =
    tie.close
    (tie.spec put-bytes-requires put-number-requires put-byte-requires same_length returns)
