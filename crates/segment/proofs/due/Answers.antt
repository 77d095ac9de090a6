-- The part that `part_due` finds, of the buffer that it names. Assumes nothing.
use Rattle.std.proofs.Common.{◌≡◌, ℕ, ◌+◌, ◌-◌, List, length, take, drop, Some, cond, eqb, sym, ap, ◌∙◌, arith}
use Rattle.segment.specs.Resend as resend
use Rattle.segment.specs.Resend.{due}
use Rattle.segment.specs.Post.{number_of, part_of}
use Rattle.segment.specs.declared.Part.{Part}
use Rattle.segment.proofs.Parts.{part-in-held, part-in-seg, part-short, due-of-held, due-of-seg}
use Rattle.segment.proofs.due.Goals as goal

fields : (p : Part) (o : resend.Part) → part_of (Some p) ≡ o → (p.at ≡ o.at) × (p.length ≡ o.length) × (number_of p.source ≡ o.source)
fields p o e = (ap (λ (d : resend.Part). d.at) e, ap (λ (d : resend.Part). d.length) e, ap (λ (d : resend.Part). d.source) e)

pub overflow_add-result : goal.overflow_add-result
overflow_add-result c =
    let a = c.args in
    let f = fields c.in-Some.p _ c.in-Some.ensures in
    omega (arith, f.0, f.1, part-short a.next (length a.held.now) a.held_start a.held_length a.start (length a.segment.now))

pub slice_bounds-result-end-in-Buffer : goal.slice_bounds-result-end-in-Buffer
slice_bounds-result-end-in-Buffer c =
    let a = c.args in
    let f = fields c.in-Some.p _ c.in-Some.ensures in
    omega (arith, f.0, f.1, part-in-held a.next (length a.held.now) a.held_start a.held_length a.start (length a.segment.now) (sym f.2 ∙ ap number_of c.in-Buffer.is))

pub returns-in-Buffer : goal.returns-in-Buffer
returns-in-Buffer c =
    let a = c.args in
    let p = c.in-Some.p in
    let f = fields p _ c.in-Some.ensures in
    let d : p.at + p.length - p.at ≡ p.length = omega arith in
    ap (λ (k : ℕ). take k (drop p.at a.held.now)) d
    ∙ rw (f.0, f.1) (sym (due-of-held a.next a.held.now a.held_start a.held_length a.start a.segment.now (sym f.2 ∙ ap number_of c.in-Buffer.is)))

pub overflow_add-result-in-Segment : goal.overflow_add-result-in-Segment
overflow_add-result-in-Segment c =
    let a = c.args in
    let f = fields c.in-Some.p _ c.in-Some.ensures in
    omega (arith, f.0, f.1, part-short a.next (length a.held.now) a.held_start a.held_length a.start (length a.segment.now))

pub slice_bounds-result-end-in-Segment : goal.slice_bounds-result-end-in-Segment
slice_bounds-result-end-in-Segment c =
    let a = c.args in
    let f = fields c.in-Some.p _ c.in-Some.ensures in
    let s = sym f.2 ∙ ap number_of c.in-Segment.is in
    omega (arith, f.0, f.1, part-in-seg a.next (length a.held.now) a.held_start a.held_length a.start (length a.segment.now) (λ z. absurd (omega (arith, s, z))))

pub returns-in-Segment : goal.returns-in-Segment
returns-in-Segment c =
    let a = c.args in
    let p = c.in-Some.p in
    let f = fields p _ c.in-Some.ensures in
    let s = sym f.2 ∙ ap number_of c.in-Segment.is in
    let d : p.at + p.length - p.at ≡ p.length = omega arith in
    ap (λ (k : ℕ). take k (drop p.at a.segment.now)) d
    ∙ rw (f.0, f.1) (sym (due-of-seg a.next a.held.now a.held_start a.held_length a.start a.segment.now (λ z. absurd (omega (arith, s, z)))))

pub returns-in-None : goal.returns-in-None
unfolding due
returns-in-None c =
    let a = c.args in
    ap {B = List ℕ} (λ (d : resend.Part). take d.length (drop d.at (cond (eqb d.source 1) a.held.now a.segment.now))) c.in-None.ensures
