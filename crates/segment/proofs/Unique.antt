-- Each promise of the public functions determines the outcome: two outcomes that meet it are equal. Assumes nothing.
use Rattle.std.proofs.Common.{◌≡◌, ℕ, List, Option, None, Some, refl, sym, ap, ◌∙◌, arith}
use Rattle.segment.specs.Resend as resend
use Rattle.segment.specs.Post.{Takes, number_of, part_of, Finds}
use Rattle.segment.specs.declared.Held.{Held}
use Rattle.segment.specs.declared.Part.{Part}
use Rattle.segment.specs.declared.Source.{Source}
use Rattle.segment.specs.declared.Source.TheVariants.{Buffer, Segment}

-- taking a segment gives one answer and leaves one held buffer
pub unique-take : (o : resend.Held) (h g : Held) (bs cs : List ℕ) → Takes o h bs → Takes o g cs → (h ≡ g) × (bs ≡ cs)
unique-take o h g bs cs a b = (
  ap {B = Held} (λ (x : ℕ). record { refusal = x; start = h.start; length = h.length }) (a.refusal ∙ sym b.refusal)
      ∙ ap {B = Held} (λ (x : ℕ). record { refusal = g.refusal; start = x; length = h.length }) (a.start ∙ sym b.start)
      ∙ ap {B = Held} (λ (x : ℕ). record { refusal = g.refusal; start = g.start; length = x }) (a.length ∙ sym b.length),
  a.bytes ∙ sym b.bytes,
)

-- so the part that is due is one
same-source : (d e : Source) → number_of d ≡ number_of e → d ≡ e
same-source Buffer Buffer h = refl
same-source Buffer Segment h = absurd (omega arith)
same-source Segment Buffer h = absurd (omega arith)
same-source Segment Segment h = refl

numbered : (d : Source) → number_of d ≡ 0 → ⊥
numbered Buffer h = omega arith
numbered Segment h = omega arith

pub unique-part-due : (o : resend.Part) (d e : Option Part) → Finds o d → Finds o e → d ≡ e
unique-part-due o d e a b = go d e (a ∙ sym b)
  where
    go : (d e : Option Part) → part_of d ≡ part_of e → d ≡ e
    go None None h = refl
    go None (Some e) h = absurd (numbered e.source (sym (ap (λ (x : resend.Part). x.source) h)))
    go (Some d) None h = absurd (numbered d.source (ap (λ (x : resend.Part). x.source) h))
    go (Some d) (Some e) h =
        ap {B = Option Part} (λ (x : Source). Some (record { source = x; at = d.at; length = d.length })) (same-source d.source e.source (ap (λ (x : resend.Part). x.source) h))
        ∙ ap {B = Option Part} (λ (x : ℕ). Some (record { source = e.source; at = x; length = d.length })) (ap (λ (x : resend.Part). x.at) h)
        ∙ ap {B = Option Part} (λ (x : ℕ). Some (record { source = e.source; at = e.at; length = x })) (ap (λ (x : resend.Part). x.length) h)

pub unique-due : (r s bs : List ℕ) → r ≡ bs → s ≡ bs → r ≡ s
unique-due r s bs e f = e ∙ sym f
