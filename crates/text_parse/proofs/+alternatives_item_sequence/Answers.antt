use Rattle.std.proofs.Common.{◌≡◌, ◌<◌, ◌≤◌, ◌+◌, ◌∙◌, sym, length, get_or, arith}
use Rattle.std.proofs.lemmas.Result.{err_from_is_err_and}
use Rattle.text_parse.proofs.Moves.{item-bar, item-open, item-class, item-esc, item-dot, item-bad, item-plain, item-deep, group-close, group-cut}
use Rattle.text_parse.proofs.Ahead.{later}
use Rattle.text_parse.proofs.+alternatives_item_sequence.Goals as goal

pub alternatives-returns-in_err-next-2 : goal.alternatives-returns-in_err-next-2
alternatives-returns-in_err-next-2 t c =
    let x = c.loop-next in
    let l : x.next < length c.args.text.now = omega arith in
    let p = err_from_is_err_and c.from_residual-in_err-next-2.result c.from_residual-in_err-next-2.ensures.1 in
    rw (p.1, p.2) (x.invariant.3 ∙ item-bar c.args.text.now c.args.depth x.next c.requires.1 l c.if-text-next-eq124.true ∙ c.in_err-next-2.ensures.0, tt, tt)

pub alternatives-loop-next-preserved : goal.alternatives-loop-next-preserved
alternatives-loop-next-preserved t c =
    let x = c.loop-next in
    let l : x.next < length c.args.text.now = omega arith in (
      omega (arith, c.in_ok-next-2.ensures.1.0),
      c.in_ok-next-2.ensures.1.1,
      c.in_ok-next-2.ensures.2,
      x.invariant.3 ∙ item-bar c.args.text.now c.args.depth x.next c.requires.1 l c.if-text-next-eq124.true ∙ c.in_ok-next-2.ensures.0,
    )

pub item-returns-then-depth-eq-MOST_OPEN : goal.item-returns-then-depth-eq-MOST_OPEN
item-returns-then-depth-eq-MOST_OPEN t c = (item-deep c.args.text.now c.args.depth c.args.at c.requires.0 c.in-40.is c.if-depth-eq-MOST_OPEN.true, tt)

pub item-returns-in_err-end-in-40 : goal.item-returns-in_err-end-in-40
item-returns-in_err-end-in-40 t c =
    let p = err_from_is_err_and c.from_residual.result c.from_residual.ensures.1 in
    rw (p.1, p.2) (item-open c.args.text.now c.args.depth c.args.at c.requires.1 c.requires.0 c.in-40.is ∙ c.in_err-end-in-40.ensures.0, tt)

pub item-returns-then-end-text : goal.item-returns-then-end-text
item-returns-then-end-text t c =
    let m : c.args.depth + 1 ≤ 16 = omega arith in (
      item-open c.args.text.now c.args.depth c.args.at c.requires.1 c.requires.0 c.in-40.is ∙ c.in_ok-end-in-40.ensures.0
          ∙ group-cut c.args.text.now c.args.depth c.in_ok-end-in-40.end m (omega arith),
      tt,
    )

pub item-returns-else-end-text : goal.item-returns-else-end-text
item-returns-else-end-text t c =
    let m : c.args.depth + 1 ≤ 16 = omega arith in
    let l : c.in_ok-end-in-40.end < length c.args.text.now = omega (arith, c.in_ok-end-in-40.ensures.1.1) in (
      item-open c.args.text.now c.args.depth c.args.at c.requires.1 c.requires.0 c.in-40.is ∙ c.in_ok-end-in-40.ensures.0
          ∙ group-close c.args.text.now c.args.depth c.in_ok-end-in-40.end m l (c.in_ok-end-in-40.ensures.2 l) ∙ c.mark.ensures.0 c.args.depth c.requires.1,
      later (c.args.at + 1) (c.in_ok-end-in-40.end + 1) (length c.args.text.now) c.mark.result (omega (arith, c.in_ok-end-in-40.ensures.1.0)) c.mark.ensures.1,
    )

pub item-returns-in-91 : goal.item-returns-in-91
item-returns-in-91 t c = (item-class c.args.text.now c.args.depth c.args.at c.requires.1 c.requires.0 c.in-91.is ∙ c.inside.ensures.0 c.args.depth c.requires.1, c.inside.ensures.1)

pub item-returns-in-92 : goal.item-returns-in-92
item-returns-in-92 t c = (item-esc c.args.text.now c.args.depth c.args.at c.requires.1 c.requires.0 c.in-92.is ∙ c.inside-in-92.ensures.0 c.args.depth c.requires.1, c.inside-in-92.ensures.1)

pub item-returns-in-46 : goal.item-returns-in-46
item-returns-in-46 t c = (item-dot c.args.text.now c.args.depth c.args.at c.requires.1 c.requires.0 c.in-46.is ∙ c.mark-in-46.ensures.0 c.args.depth c.requires.1, c.mark-in-46.ensures.1)

pub item-returns-in_default : goal.item-returns-in_default
item-returns-in_default t c =
    let T = c.args.text.now in
    let n = c.args.at in
    let n40 : get_or T n 0 ≡ 40 → ⊥ = λ z. omega arith in
    let n46 : get_or T n 0 ≡ 46 → ⊥ = λ z. omega arith in
    let n91 : get_or T n 0 ≡ 91 → ⊥ = λ z. omega arith in
    let n92 : get_or T n 0 ≡ 92 → ⊥ = λ z. omega arith in
    (item-bad T c.args.depth n c.requires.1 c.requires.0 c.requires.2 n40 c.requires.3 n46 n91 n92 (sym c.is_special.ensures ∙ c.if-is_special.true), tt)

pub item-returns-in_default-2 : goal.item-returns-in_default-2
item-returns-in_default-2 t c =
    let T = c.args.text.now in
    let n = c.args.at in
    let n40 : get_or T n 0 ≡ 40 → ⊥ = λ z. omega arith in
    let n46 : get_or T n 0 ≡ 46 → ⊥ = λ z. omega arith in
    let n91 : get_or T n 0 ≡ 91 → ⊥ = λ z. omega arith in
    let n92 : get_or T n 0 ≡ 92 → ⊥ = λ z. omega arith in (
      item-plain T c.args.depth n c.requires.1 c.requires.0 c.requires.2 n40 c.requires.3 n46 n91 n92 (sym c.is_special.ensures ∙ c.if-is_special.false)
          ∙ c.mark-in_default-2.ensures.0 c.args.depth c.requires.1,
      c.mark-in_default-2.ensures.1,
    )
