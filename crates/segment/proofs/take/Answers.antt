-- Each return is a case of the definition. Assumes nothing.
use Rattle.std.proofs.Common.{◌≡◌, ℕ, List, length, refl, sym, ap, ◌∙◌, arith}
use Rattle.segment.specs.Resend as resend
use Rattle.segment.specs.Post.{Takes}
use Rattle.segment.specs.declared.Held.{Held}
use Rattle.segment.proofs.Parts.{take-refused, take-kept, take-other, kept-fits}
use Rattle.segment.proofs.take.Goals as goal

-- the answer and the buffer are those of the definition
is : (o d : resend.Held) (h : Held) (bs : List ℕ) → o ≡ d → h.refusal ≡ d.refusal → h.start ≡ d.start → h.length ≡ d.length → bs ≡ d.bytes → Takes o h bs
is o d h bs e r s l b =
    record {
      refusal = r ∙ ap (λ (x : resend.Held). x.refusal) (sym e);
      start = s ∙ ap (λ (x : resend.Held). x.start) (sym e);
      length = l ∙ ap (λ (x : resend.Held). x.length) (sym e);
      bytes = b ∙ ap (λ (x : resend.Held). x.bytes) (sym e);
    }

pub returns-then-refuses : goal.returns-then-refuses
returns-then-refuses c =
    let a = c.args in
    is _ _ _ _ (take-refused a.next a.held.now a.held_start a.held_length a.start a.segment.now (sym c.refuses.ensures ∙ c.if-refuses.true)) refl refl refl refl

pub copy-requires : goal.copy-requires
copy-requires c =
    let a = c.args in
    let k = kept-fits a.next a.held.now a.held_start a.held_length a.start a.segment.now (sym c.refuses.ensures ∙ c.if-refuses.false) (sym c.early.ensures ∙ c.if-early.true) in
    omega (arith, k.0, k.1)

pub overflow_cast-result : goal.overflow_cast-result
overflow_cast-result c =
    let a = c.args in
    omega (arith, (kept-fits a.next a.held.now a.held_start a.held_length a.start a.segment.now (sym c.refuses.ensures ∙ c.if-refuses.false) (sym c.early.ensures ∙ c.if-early.true)).0)

pub returns-then-early : goal.returns-then-early
returns-then-early c =
    let a = c.args in
    is _ _ _ _ (take-kept a.next a.held.now a.held_start a.held_length a.start a.segment.now (sym c.refuses.ensures ∙ c.if-refuses.false) (sym c.early.ensures ∙ c.if-early.true))
    refl refl refl c.copy.ensures

pub returns-then-all_before : goal.returns-then-all_before
returns-then-all_before c =
    let a = c.args in
    let e = rw (sym c.all_before.ensures ∙ c.if-all_before.true) at (take-other a.next a.held.now a.held_start a.held_length a.start a.segment.now (sym c.refuses.ensures ∙ c.if-refuses.false) (sym c.early.ensures ∙ c.if-early.false)) in
    is _ _ _ _ e refl refl refl refl

pub returns : goal.returns
returns c =
    let a = c.args in
    let e = rw (sym c.all_before.ensures ∙ c.if-all_before.false) at (take-other a.next a.held.now a.held_start a.held_length a.start a.segment.now (sym c.refuses.ensures ∙ c.if-refuses.false) (sym c.early.ensures ∙ c.if-early.false)) in
    is _ _ _ _ e refl refl refl refl
