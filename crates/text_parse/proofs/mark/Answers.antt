use Rattle.std.proofs.Common.{◌≡◌, ◌<◌, ◌∙◌, ◌+◌, length, get_or, arith}
use Rattle.text_parse.proofs.Steps.{one-of-three, none-of-three}
use Rattle.text_parse.proofs.Moves.{mark-past, mark-open, mark_on, mark-none}
use Rattle.text_parse.proofs.Ahead.{later}
use Rattle.text_parse.proofs.mark.Goals as goal

pub returns-then-at-text : goal.returns-then-at-text
returns-then-at-text c = ((λ d l. mark-past c.args.text.now d c.args.at l (omega arith)), (omega arith, omega arith))

pub returns-in-123 : goal.returns-in-123
returns-in-123 c =
    let p : c.args.at < length c.args.text.now = omega arith in
    ((λ d l. mark-open c.args.text.now d c.args.at l p c.in-123.is ∙ c.repeat.ensures.0 d l), later c.args.at (c.args.at + 1) (length c.args.text.now) c.repeat.result (omega arith) c.repeat.ensures.1)

pub returns-in_default : goal.returns-in_default
returns-in_default c =
    let p : c.args.at < length c.args.text.now = omega arith in
    let not-brace : get_or c.args.text.now c.args.at 0 ≡ 123 → ⊥ = λ z. omega arith in
    ((λ d l. mark-none c.args.text.now d c.args.at l p not-brace (none-of-three (get_or c.args.text.now c.args.at 0) 42 43 63 (λ z. omega arith) (λ z. omega arith) (λ z. omega arith))), (omega arith, omega arith))

pub returns-in_default-2 : goal.returns-in_default-2
returns-in_default-2 c =
    let p : c.args.at < length c.args.text.now = omega arith in
    let not-brace : get_or c.args.text.now c.args.at 0 ≡ 123 → ⊥ = λ z. omega arith in
    ((λ d l. mark-none c.args.text.now d c.args.at l p not-brace (none-of-three (get_or c.args.text.now c.args.at 0) 42 43 63 (λ z. omega arith) (λ z. omega arith) (λ z. omega arith))), (omega arith, omega arith))

pub returns-in-42 : goal.returns-in-42
returns-in-42 c =
    let p : c.args.at < length c.args.text.now = omega arith in
    ((λ d l. mark_on c.args.text.now d c.args.at l p (one-of-three (get_or c.args.text.now c.args.at 0) 42 43 63 (λ x y z. grind arith))), (omega arith, omega arith))
