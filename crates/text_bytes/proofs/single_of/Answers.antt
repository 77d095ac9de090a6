use Rattle.std.proofs.Common.{◌≡◌, ◌+◌, ◌∙◌, get_or, arith}
use Rattle.text_bytes.proofs.Bytes.{single-hex, single-line, single-plain}
use Rattle.text_bytes.proofs.single_of.Goals as goal

pub returns-then-c-ne92 : goal.returns-then-c-ne92
returns-then-c-ne92 c =
    let n92 : get_or c.args.text.now c.args.at 0 ≡ 92 → ⊥ = λ z. omega arith in
    let e : c.from.result ≡ get_or c.args.text.now c.args.at 0 = omega arith in
    (omega arith, omega arith, λ out s y h ok p. let (u, v) = single-plain c.args.text.now c.args.at y out s ok p n92 in (e ∙ u, v))

pub returns-then-byte_at-ne120 : goal.returns-then-byte_at-ne120
returns-then-byte_at-ne120 c =
    let e92 : get_or c.args.text.now c.args.at 0 ≡ 92 = omega arith in
    let n120 : get_or c.args.text.now (c.args.at + 1) 0 ≡ 120 → ⊥ = λ z. omega arith in
    (omega arith, omega arith, λ out s y h ok p. single-line c.args.text.now c.args.at y out s h ok p e92 n120)

pub returns : goal.returns
returns c =
    let e92 : get_or c.args.text.now c.args.at 0 ≡ 92 = omega arith in
    let e120 : get_or c.args.text.now (c.args.at + 1) 0 ≡ 120 = omega arith in (
      omega arith,
      omega arith,
      λ out s y h ok p.
          let (u, v) = single-hex c.args.text.now c.args.at y out s h ok p e92 e120 in
          (rw (c.hex_value-a.ensures.0, c.hex_value-b.ensures.0, c.byte_at-2.ensures, c.byte_at-3.ensures) u, v),
    )
