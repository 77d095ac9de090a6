use Rattle.std.proofs.Common.{sym, ◌∙◌, inl, inr, ◌⊎◌, ◌≡◌, ◌<◌, ◌≤◌, length, get_or, arith}
use Rattle.sets.specs.Set.{byte_set_of}
use Rattle.text_bytes.proofs.Bytes.{member-white, member-lone, member-range}
use Rattle.text_bytes.proofs.member_of.Goals as goal
use Rattle.text_bytes.proofs.member_of.Goals.{else-p-text-via-then-p-text+else-text-p-eq45, else-p-text-via-else-p-text}

pub returns-then-white : goal.returns-then-white
returns-then-white c =
    let a = c.args in
    (omega arith, omega arith, member-white a.text.now a.at (byte_set_of a.set) (byte_set_of c.span-more.result) (byte_set_of c.span.result) (sym c.white.ensures ∙ c.if-white.true) c.span-more.ensures c.span.ensures)

pub returns-then-text-p-eq45 : goal.returns-then-text-p-eq45
returns-then-text-p-eq45 c =
    let a = c.args in
    let s = c.single_of-low in
    let t = c.single_of-high in (
      omega (arith, s.ensures.0, t.ensures.0),
      omega (arith, t.ensures.1),
      member-range a.text.now a.at (byte_set_of a.set) (byte_set_of c.span-then-text-p-eq45.result) s.result.value s.result.next t.result.value t.result.next
          (sym c.white.ensures ∙ c.if-white.false) s.ensures.2 c.if-p-text.true c.if-text-p-eq45.true t.ensures.2 c.span-then-text-p-eq45.ensures,
    )

pub returns : goal.returns
returns c =
    let a = c.args in
    let s = c.single_of-low in
    let other : ((s.result.next < length a.text.now) × (get_or a.text.now s.result.next 0 ≡ 45 → ⊥)) ⊎ (length a.text.now ≤ s.result.next) =
    elim c.else-p-text.branch [
      | else-p-text-via-then-p-text+else-text-p-eq45 w ↦ inl (w.if-p-text.true, w.if-text-p-eq45.false)
      | else-p-text-via-else-p-text w ↦ inr (omega arith)
    ] in
    (s.ensures.0, omega (arith, s.ensures.1), member-lone a.text.now a.at (byte_set_of a.set) (byte_set_of c.span-2.result) s.result.value s.result.next (sym c.white.ensures ∙ c.if-white.false) s.ensures.2 other c.span-2.ensures)
