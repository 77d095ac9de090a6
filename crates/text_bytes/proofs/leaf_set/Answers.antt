use Rattle.std.proofs.Common.{sym, ap, ◌∙◌, inl, inr, ◌⊎◌, ◌≡◌, ◌<◌, ◌≤◌, ◌+◌, ℕ, false, length, get_or, arith}
use Rattle.sets.specs.Set.{byte_set_of, holds}
use Rattle.sets.proofs.Sets.{holds-empty}
use Rattle.text_bytes.proofs.Bytes.{adds_none, leaf-any, leaf-negated, leaf-members, leaf-space, leaf-single}
use Rattle.text_bytes.proofs.leaf_set.Goals as goal
use Rattle.text_bytes.proofs.leaf_set.Goals.{else-at-text-via-then-at-text+else-text-at-eq94, else-at-text-via-else-at-text}

none-holds : (none : ℕ) → none ≡ 0 → (x : ℕ) → holds none x ≡ false
none-holds none e x = ap (λ z. holds z x) e ∙ holds-empty x

pub returns-in-46 : goal.returns-in-46
returns-in-46 c = leaf-any c.args.text.now c.args.at (byte_set_of c.span.result) c.in-46.is (adds_none (byte_set_of c.empty-none.result) (byte_set_of c.span.result) 0 255 (none-holds _ c.empty-none.ensures) c.span.ensures)

pub returns-then-text-at-eq94 : goal.returns-then-text-at-eq94
returns-then-text-at-eq94 c =
    leaf-negated c.args.text.now c.args.at (byte_set_of c.others.result) (byte_set_of c.class_set.result) c.in-91.is c.if-at-text.true c.if-text-at-eq94.true c.class_set.ensures c.others.ensures

pub returns-else-at-text : goal.returns-else-at-text
returns-else-at-text c =
    let T = c.args.text.now in
    let n = c.args.at in
    let other : ((n + 1 < length T) × (get_or T (n + 1) 0 ≡ 94 → ⊥)) ⊎ (length T ≤ n + 1) =
    elim c.else-at-text.branch [
      | else-at-text-via-then-at-text+else-text-at-eq94 w ↦ inl (w.if-at-text.true, w.if-text-at-eq94.false)
      | else-at-text-via-else-at-text w ↦ inr (omega arith)
    ] in
    leaf-members T n (byte_set_of c.class_set-in-91.result) c.in-91.is other c.class_set-in-91.ensures

pub returns-in_default : goal.returns-in_default
returns-in_default c =
    leaf-space c.args.text.now c.args.at (byte_set_of c.span-blank.result) (byte_set_of c.span-in_default.result) (sym c.white.ensures ∙ c.if-white.true)
    (adds_none (byte_set_of c.empty-none.result) (byte_set_of c.span-blank.result) 32 32 (none-holds _ c.empty-none.ensures) c.span-blank.ensures) c.span-in_default.ensures

pub returns-in_default-2 : goal.returns-in_default-2
returns-in_default-2 c =
    let T = c.args.text.now in
    let n = c.args.at in
    let s = c.single_of-one in
    let n46 : get_or T n 0 ≡ 46 → ⊥ = λ z. omega arith in
    let n91 : get_or T n 0 ≡ 91 → ⊥ = λ z. omega arith in
    leaf-single T n (byte_set_of c.span-in_default-2.result) s.result.value s.result.next n46 n91 (sym c.white.ensures ∙ c.if-white.false) s.ensures.2
    (adds_none (byte_set_of c.empty-none.result) (byte_set_of c.span-in_default-2.result) s.result.value s.result.value (none-holds _ c.empty-none.ensures) c.span-in_default-2.ensures)
