-- `good_record` tests the fields of a record. Assumes nothing.
use borrow.Author.Rules.{rules}
use Rattle.machine.proofs.good_record.Statement.{statement}
use Rattle.machine.proofs.good_record.Tie as tie

mul-good-instruction : tie.Need-overflow_mul-i
mul-good-instruction c = search rules

shared-slice-read-good-instruction : tie.Need-bounds-programs-i
shared-slice-read-good-instruction c = search rules

mul-good-instruction-2 : tie.Need-overflow_mul-i-2
mul-good-instruction-2 c = search rules

add-good-instruction : tie.Need-overflow_add-i
add-good-instruction c = search rules

shared-slice-read-good-instruction-2 : tie.Need-bounds-programs-i-2
shared-slice-read-good-instruction-2 c = search rules

mul-two-bytes : tie.Need-overflow_mul-i-3
mul-two-bytes c = search rules

add-two-bytes : tie.Need-overflow_add-i-2
add-two-bytes c = search rules

two-bytes-requires : tie.Need-two_bytes-requires
two-bytes-requires c κs = search rules

good-instruction-requires : tie.Need-good_instruction-requires
good-instruction-requires c κs = search rules

returns : tie.Need-returns
returns c = rw (c.good_instruction.ensures, c.two_bytes.ensures)

pub good_record_spec : {M : Type 1} → statement M
good_record_spec =
    tie.close
    (tie.spec
    mul-good-instruction
    shared-slice-read-good-instruction
    mul-good-instruction-2
    add-good-instruction
    shared-slice-read-good-instruction-2
    mul-two-bytes
    add-two-bytes
    two-bytes-requires
    good-instruction-requires
    returns)
