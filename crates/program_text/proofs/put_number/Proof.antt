-- `put_number` meets its promise: the digits of the number are put. Assumes nothing.
use borrow.Author.Rules.{rules}
use native.Mathlib.Omega.{arith}
use Rattle.program_text.specs.Text.{most_digits}
use Rattle.program_text.proofs.Texts.{digits-most, digits_decimal, puts-less}
use Rattle.program_text.proofs.put_number.Statement.{statement}
use Rattle.program_text.proofs.put_number.Tie as tie

decimal-requires : tie.Need-decimal-k-requires
decimal-requires c κs = search rules

array-share-prefix-digits : tie.Need-slice_bounds-digits-end
array-share-prefix-digits c = search rules

slice-aggregate-put-bytes : tie.Need-slice_bounds-put_bytes-end
slice-aggregate-put-bytes c = search rules

put-bytes-requires : tie.Need-put_bytes-requires
put-bytes-requires c κs =
    let s = c.before.before.before.before.before in
    let d = c.decimal-k in
    omega (arith, s.requires, digits-most s.args.n d.result s.ranges.n.fits d.ensures.1.0, d.ensures.0.1)

same_length : tie.Need-shape_of-text
same_length c = search rules

returns : tie.Need-returns
returns c =
    let s = c.before.before.before.before.before.before.before.before in
    let d = c.decimal-k in
    let few = digits-most s.args.n d.result s.ranges.n.fits d.ensures.1.0 in
    rw (d.ensures.1.1.0, digits_decimal s.args.n d.result s.ranges.n.fits d.ensures.1.0) at
    (puts-less _ most_digits _ _ _ _ _ (omega (arith, few, d.ensures.0.1)) c.put_bytes.ensures)

pub put_number_spec : {M : Type 1} → statement M
put_number_spec =
    tie.close
    (tie.spec
    decimal-requires
    array-share-prefix-digits
    slice-aggregate-put-bytes
    put-bytes-requires
    same_length
    returns)
