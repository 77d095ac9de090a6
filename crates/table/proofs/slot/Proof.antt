-- `slot` reads the two bytes of the slot, which stand in the list. Assumes nothing.
use borrow.Author.Rules.{rules}
use mathlib.Core.Path.{sym, ◌∙◌}
use Prim.Native.Nat.{◌+◌, ◌*◌}
use native.Mathlib.Omega.{arith}
use Rattle.sets.specs.Set.{set_size}
use Rattle.numbers.proofs.Bytes.{num-two}
use Rattle.table.specs.Table.{split_size}
use Rattle.table.proofs.Entries.{slot_at}
use Rattle.table.proofs.slot.Statement.{statement}
use Rattle.table.proofs.slot.Tie as tie

mul-whole-number : tie.Need-overflow_mul-i
mul-whole-number c = search rules

add-whole-number : tie.Need-overflow_add-i
add-whole-number c = search rules

mul-whole-number-2 : tie.Need-overflow_mul-j
mul-whole-number-2 c = search rules

add-whole-number-2 : tie.Need-overflow_add-i-2
add-whole-number-2 c = search rules

whole-number-requires : tie.Need-whole_number-requires
whole-number-requires c κs = search rules

returns : tie.Need-returns
returns c =
    let s = c in
    let a = s.args in
    c.whole_number.ensures
    ∙ num-two a.splits.now (split_size * a.i + set_size + 2 * a.j) (omega arith)
    ∙ sym (slot_at a.splits.now a.i a.j s.requires.1)

pub slot_spec : {M : Type 1} → statement M
slot_spec =
    tie.close
    (tie.spec
    mul-whole-number
    add-whole-number
    mul-whole-number-2
    add-whole-number-2
    whole-number-requires
    returns)
