-- The promise of feeding a segment determines the outcome: two outcomes that meet it are equal. Assumes nothing.
use Rattle.std.proofs.Common.{◌≡◌, ℕ, Bool, List, sym, ap, ◌∙◌}
use Rattle.segment_feed.specs.Segment as segment
use Rattle.segment_feed.specs.Post.{Hears}
use Rattle.segment_feed.specs.declared.Heard.{Heard}

-- one answer, and the same words, record and held buffer
pub unique-hears : (o : segment.Heard) (r s : Heard) (ws vs R Q H J : List ℕ) → Hears o r ws R H → Hears o s vs Q J → (r ≡ s) × (ws ≡ vs) × (R ≡ Q) × (H ≡ J)
unique-hears o r s ws vs R Q H J a b = (
  ap {B = Heard} (λ (x : ℕ). record { refusal = x; bytes = r.bytes; pairs = r.pairs; all = r.all; start = r.start; length = r.length }) (a.refusal ∙ sym b.refusal)
      ∙ ap {B = Heard} (λ (x : ℕ). record { refusal = s.refusal; bytes = x; pairs = r.pairs; all = r.all; start = r.start; length = r.length }) (a.bytes ∙ sym b.bytes)
      ∙ ap {B = Heard} (λ (x : ℕ). record { refusal = s.refusal; bytes = s.bytes; pairs = x; all = r.all; start = r.start; length = r.length }) (a.pairs ∙ sym b.pairs)
      ∙ ap {B = Heard} (λ (x : Bool). record { refusal = s.refusal; bytes = s.bytes; pairs = s.pairs; all = x; start = r.start; length = r.length }) (a.all ∙ sym b.all)
      ∙ ap {B = Heard} (λ (x : ℕ). record { refusal = s.refusal; bytes = s.bytes; pairs = s.pairs; all = s.all; start = x; length = r.length }) (a.start ∙ sym b.start)
      ∙ ap {B = Heard} (λ (x : ℕ). record { refusal = s.refusal; bytes = s.bytes; pairs = s.pairs; all = s.all; start = s.start; length = x }) (a.length ∙ sym b.length),
  a.words ∙ sym b.words,
  a.flow ∙ sym b.flow,
  a.held ∙ sym b.held,
)
