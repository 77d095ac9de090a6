use Rattle.std.proofs.Common.{◌≡◌, ◌<◌, inl, inr, length, get_or, arith}
use Rattle.text_marks.proofs.Tokens.{mark-none, mark-star, mark-more, mark-maybe, mark-rep}
use Rattle.text_marks.proofs.mark_of.Goals as goal
use Rattle.text_marks.proofs.mark_of.Goals.{in-42, in-43, in-63}

pub returns-then-at-n : goal.returns-then-at-n
returns-then-at-n c = (omega arith, omega arith, tt, λ m y ok calm e. mark-none c.args.text.now c.args.at y calm m e (inr (omega arith)))

pub returns-in-123 : goal.returns-in-123
returns-in-123 c =
    let T = c.args.text.now in
    let n = c.args.at in
    let d = c.digits-least in
    let f = c.digits-most in
    let l : n < length T = omega arith in (
      omega (arith, d.ensures.0, c.past.ensures.0, f.ensures.0, c.past-in-123.ensures.0),
      c.past-in-123.ensures.1 f.ensures.1,
      (d.ensures.2, f.ensures.2),
      λ m y ok calm e.
          mark-rep T n y calm m d.result.value d.result.next c.past.result f.result.value f.result.next c.past-in-123.result ok e l c.in-123.is d.ensures.3 c.past.ensures.2 f.ensures.3
          c.past-in-123.ensures.2,
    )

pub returns-in_default : goal.returns-in_default
returns-in_default c =
    let T = c.args.text.now in
    let n = c.args.at in
    let n42 : get_or T n 0 ≡ 42 → ⊥ = λ z. omega arith in
    let n43 : get_or T n 0 ≡ 43 → ⊥ = λ z. omega arith in
    let n63 : get_or T n 0 ≡ 63 → ⊥ = λ z. omega arith in
    let n123 : get_or T n 0 ≡ 123 → ⊥ = λ z. omega arith in
    (omega arith, omega arith, tt, λ m y ok calm e. mark-none T n y calm m e (inl (n42, n43, n63, n123)))

pub returns : goal.returns
returns c =
    let T = c.args.text.now in
    let n = c.args.at in
    let l : n < length T = omega arith in
    elim c.match-text-at.branch [
      | in-42 w ↦ rw w.value-is (omega arith, omega arith, tt, λ m y ok calm e. mark-star T n y calm m e l w.in-42.is)
      | in-43 w ↦ rw w.value-is (omega arith, omega arith, tt, λ m y ok calm e. mark-more T n y calm m e l w.in-43.is)
      | in-63 w ↦ rw w.value-is (omega arith, omega arith, tt, λ m y ok calm e. mark-maybe T n y calm m e l w.in-63.is)
    ]
