-- `word_of` reads the two bytes of a number. Assumes nothing.
use borrow.Author.Rules.{rules}
use mathlib.Core.Path.{◌∙◌}
use Prim.Native.Nat.{◌+◌, ◌*◌}
use native.Mathlib.Omega.{arith}
use Rattle.numbers.proofs.Bytes.{num-two}
use Rattle.list.specs.List.{record_size}
use Rattle.list.proofs.word_of.Statement.{statement}
use Rattle.list.proofs.word_of.Tie as tie

mul-whole-number : tie.Need-overflow_mul-i
mul-whole-number c = search rules

add-whole-number : tie.Need-overflow_add-i
add-whole-number c = search rules

whole-number-requires : tie.Need-whole_number-requires
whole-number-requires c κs = search rules

returns : tie.Need-returns
returns c =
    let a = c.args in
    c.whole_number.ensures ∙ num-two a.list.now (record_size * a.i + a.k) (omega arith)

pub word_of_spec : {M : Type 1} → statement M
word_of_spec = tie.close (tie.spec mul-whole-number add-whole-number whole-number-requires returns)
