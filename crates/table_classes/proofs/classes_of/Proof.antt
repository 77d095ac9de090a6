-- `classes_of` meets its promise. Assumes nothing.
use borrow.Author.Rules.{rules}
use mathlib.Core.Path.{◌≡◌, sym, ◌∙◌}
use native.Mathlib.Omega.{arith}
use lib.ListN.{length}
use lib.Seq.{length-take-le}
use Rattle.table.specs.Table.{byte_values}
use Rattle.table_classes.proofs.Numbers.{cleared-zeros, cleared-length, numbered}
use Rattle.table_classes.proofs.classes_of.Statement.{statement}
use Rattle.table_classes.proofs.classes_of.Tie as tie

-- the list of classes keeps its length
kept : (c : tie.After-number) → length c.number.new.classes ≡ length c.args.classes.now
kept c = c.number.ensures.0 ∙ c.low_bytes.ensures.1.long ∙ cleared-length c.args.classes.now _ c.clear.ensures

clear-requires : tie.Need-clear-requires
clear-requires c κs = search rules

low-bytes-requires : tie.Need-low_bytes-requires
low-bytes-requires c κs =
    let s = c in
    (omega (arith, cleared-length s.args.classes.now _ c.clear.ensures, s.requires.0), s.requires.1, cleared-zeros s.args.classes.now _ c.clear.ensures)

number-requires : tie.Need-number-requires
number-requires c κs = search rules

slice-reshare-prefix-class-count : tie.Need-slice_bounds-class_count-end
slice-reshare-prefix-class-count c = search rules

slice-aggregate-class-count : tie.Need-slice_bounds-class_count-end-2
slice-aggregate-class-count c = sym (length-take-le byte_values c.number.new.classes (omega (arith, kept c.before.before, c.requires.0)))

class-count-requires : tie.Need-class_count-requires
class-count-requires c κs = search rules

same_length : tie.Need-shape_of-classes
same_length c = search rules

same-length-2 : tie.Need-shape_of-rows
same-length-2 c = search rules

returns : tie.Need-returns
returns c =
    let s = c in
    numbered s.args.list.now s.args.classes.now s.args.rows.now _ _ c.number.new.classes _ c.class_count.result s.requires.0 c.clear.ensures c.low_bytes.ensures.0 c.low_bytes.ensures.1 c.number.ensures.1 c.class_count.ensures

pub classes_of_spec : {M : Type 1} → statement M
classes_of_spec =
    tie.close
    (tie.spec
    clear-requires
    low-bytes-requires
    number-requires
    slice-reshare-prefix-class-count
    slice-aggregate-class-count
    class-count-requires
    same_length
    same-length-2
    returns)
