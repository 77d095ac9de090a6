use Rattle.std.proofs.Common.{◌≡◌, ◌≤◌, ◌+◌, ◌-◌, ◌*◌, true, false, sym, ap, ◌∙◌, get_or, arith}
use Rattle.text.specs.Grammar.{is_digit, number_from}
use Rattle.text.proofs.Peeling.{gone}
use Rattle.text_marks.proofs.Tokens.{number-grows, digits-on, digits-off, digit_low}
use Rattle.text_marks.proofs.digits.Goals as goal

pub returns-then-not-is_digit : goal.returns-then-not-is_digit
returns-then-not-is_digit c =
    let T = c.args.text.now in
    let x = c.loop-next in
    let g : is_digit (get_or T x.next 0) ≡ false = sym c.is_digit.ensures ∙ c.if-not-is_digit.true in (
      omega arith,
      omega arith,
      x.invariant.1,
      λ ds e y h k m p.
          let (dt, hd, f, q) = x.invariant.2 ds e y h k m p in
          let (u, z) = digits-off T x.next e x.value dt y g hd q in
          (u ∙ sym f, z),
    )

pub loop-next-preserved : goal.loop-next-preserved
loop-next-preserved c =
    let T = c.args.text.now in
    let x = c.loop-next in
    let g : is_digit (get_or T x.next 0) ≡ true = sym c.is_digit.ensures ∙ c.if-not-is_digit.false in (
      omega arith,
      c.more-value.ensures.0,
      λ ds e y h k m p.
          let (dt, hd, f, q) = x.invariant.2 ds e y h k m p in
          let (du, hu, fu, qu) = digits-on T x.next e x.value dt y g hd m q in
          let s : x.value ≤ number_from x.value dt = number-grows dt x.value in
          let o : c.more-value.result ≡ 10 * x.value + (get_or T x.next 0 - 48) = c.more-value.ensures.1 (omega arith) (digit_low (get_or T x.next 0) g) in
          (du, hu, f ∙ fu ∙ ap (λ z. number_from z du) (sym o), qu),
    )

pub returns : goal.returns
returns c =
    let x = c.loop-next in (
      omega arith,
      omega arith,
      x.invariant.1,
      λ ds e y h k m p.
          let (dt, hd, f, q) = x.invariant.2 ds e y h k m p in
          absurd (gone c.args.text.now x.next e dt y (omega arith) q),
    )
