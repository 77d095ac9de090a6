use Rattle.std.proofs.Common.{◌≡◌, ◌≤◌, ◌+◌, inl, inr, subst, length, drop, get_or, arith}
use Rattle.text_marks.proofs.Tokens.{leaf-class, leaf-escape, leaf-short}
use Rattle.text_marks.proofs.leaf_end.Goals as goal
use Rattle.text_marks.proofs.leaf_end.Goals.{else-at-n-via-then-at-n+else-text-at-eq120, else-at-n-via-else-at-n}

pub returns-in-91 : goal.returns-in-91
returns-in-91 c =
    (omega (arith, c.class_end.ensures.0), c.class_end.ensures.1, λ l y ok e. let (u, h, f) = leaf-class c.args.text.now c.args.at y l c.in-91.is ok e in c.class_end.ensures.2 u y h f)

pub returns-then-text-at-eq120 : goal.returns-then-text-at-eq120
returns-then-text-at-eq120 c =
    let T = c.args.text.now in
    let n = c.args.at in (
      omega arith,
      omega arith,
      λ l y ok e.
          elim (leaf-escape T n y l c.in-92.is ok e) [
            | inl z ↦ absurd (z.2 c.if-text-at-eq120.true)
            | inr z ↦ let k : n + 4 ≡ c.min.result = omega (arith, z.1) in subst (λ m. drop m T ≡ y) k z.0
          ],
    )

pub returns-else-at-n : goal.returns-else-at-n
returns-else-at-n c =
    let T = c.args.text.now in
    let n = c.args.at in
    let other : n + 4 ≤ length T → get_or T (n + 1) 0 ≡ 120 → ⊥ =
    elim c.else-at-n.branch [
      | else-at-n-via-then-at-n+else-text-at-eq120 w ↦ λ l h. w.if-text-at-eq120.false h
      | else-at-n-via-else-at-n w ↦ λ l h. omega arith
    ] in (
      omega arith,
      omega arith,
      λ l y ok e.
          elim (leaf-escape T n y l c.in-92.is ok e) [
            | inl z ↦ let k : n + 2 ≡ c.min-in-92.result = omega (arith, z.1) in subst (λ m. drop m T ≡ y) k z.0
            | inr z ↦ absurd (other z.1 z.2)
          ],
    )

pub returns-in_default : goal.returns-in_default
returns-in_default c =
    let n91 : get_or c.args.text.now c.args.at 0 ≡ 91 → ⊥ = λ z. omega arith in
    let n92 : get_or c.args.text.now c.args.at 0 ≡ 92 → ⊥ = λ z. omega arith in
    (omega arith, omega arith, λ l y ok e. leaf-short c.args.text.now c.args.at y l n91 n92 ok e)
