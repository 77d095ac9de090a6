-- `first_byte` meets its promise: where case counts, by the range. Assumes nothing.
use mathlib.Core.Path.{◌≡◌, ◌∙◌}
use mathlib.Core.Logic.{inl}
use native.Mathlib.Omega.{arith}
use Rattle.list.specs.List.{byte_of}
use Rattle.table_classes.proofs.Records.{not_taken}
use Rattle.table_classes.proofs.first_byte.Statement.{statement}
use Rattle.table_classes.proofs.first_byte.Tie as tie

-- case counts
cased : (c : tie.Else-byte_of-eq1) → byte_of c.args.list.now 0 3 ≡ 1 → ⊥
cased c e = c.if-byte_of-eq1.false (c.byte_of.ensures ∙ e)

byte-of-requires : tie.Need-byte_of-requires
byte-of-requires c κs = (omega (arith, c.requires), omega arith)

returns : tie.Need-returns-then-byte_of-eq1
returns c = (omega arith, λ d h. absurd (omega arith))

byte-of-requires-2 : tie.Need-byte_of-requires-2
byte-of-requires-2 c κs = (omega (arith, c.requires), omega arith)

cast-result : tie.Need-overflow_cast-result
cast-result c = omega (arith, c.byte_of-2.ensures, c.shared_slice_known-1.given 1)

returns-2 : tie.Need-returns
returns-2 c =
    let b = c.byte_of-2.ensures in
    let g = c.shared_slice_known-1.given 1 in
    (omega (arith, b, g), λ d h. not_taken c.args.list.now d (cased c.before) (inl (omega (arith, h, b))))

pub first_byte_spec : {M : Type 1} → statement M
first_byte_spec = tie.close (tie.spec byte-of-requires returns byte-of-requires-2 cast-result returns-2)
