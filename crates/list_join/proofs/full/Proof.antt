-- `full` reads bytes 1 and 2 at once. Assumes nothing.
use Rattle.list_join.proofs.Marking.{every_byte}
use borrow.Author.Rules.{rules}
use Rattle.list_join.proofs.full.Statement.{statement}
use Rattle.list_join.proofs.full.Tie as tie

mul-whole-number : tie.Need-overflow_mul-i
mul-whole-number c = search rules

add-whole-number : tie.Need-overflow_add-i
add-whole-number c = search rules

whole-number-requires : tie.Need-whole_number-requires
whole-number-requires c κs = search rules

returns : tie.Need-returns
returns c =
    let a = c.args in
    rw (c.whole_number.ensures, every_byte a.list.now (λ i. (c.shared_slice_known-1.given i).fits) a.i c.requires)

pub full_spec : {M : Type 1} → statement M
full_spec =
    tie.close
    (tie.spec
    mul-whole-number
    add-whole-number
    whole-number-requires
    returns)
