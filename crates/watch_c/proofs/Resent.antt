-- Two answers of the C face to one segment are the same. Assumes nothing.
use Prim.Native.Nat.{ℕ}
use mathlib.Core.Path.{◌≡◌, sym, ap, ◌∙◌}
use mathlib.Core.List.{List}
use Rattle.segment.specs.Resend.{Held, Part}
use Rattle.watch_c.specs.declared.WatchHeld.{WatchHeld}
use Rattle.watch_c.specs.declared.WatchPart.{WatchPart}
use Rattle.watch_c.specs.Resent.{FaceTakes, FaceFinds}

pub unique-face-take : (o : Held) (v w : WatchHeld) (bs cs : List ℕ) → FaceTakes o v bs → FaceTakes o w cs → (v ≡ w) × (bs ≡ cs)
unique-face-take o v w bs cs a b = (
  ap {B = WatchHeld} (λ (x : ℕ). record { refusal = x; start = v.start; length = v.length }) (a.refusal ∙ sym b.refusal)
      ∙ ap {B = WatchHeld} (λ (x : ℕ). record { refusal = w.refusal; start = x; length = v.length }) (a.start ∙ sym b.start)
      ∙ ap {B = WatchHeld} (λ (x : ℕ). record { refusal = w.refusal; start = w.start; length = x }) (a.length ∙ sym b.length),
  a.bytes ∙ sym b.bytes,
)

pub unique-face-due : (o : Part) (v w : WatchPart) → FaceFinds o v → FaceFinds o w → v ≡ w
unique-face-due o v w a b =
    ap {B = WatchPart} (λ (x : ℕ). record { at = x; length = v.length; source = v.source }) (a.at ∙ sym b.at)
    ∙ ap {B = WatchPart} (λ (x : ℕ). record { at = w.at; length = x; source = v.source }) (a.length ∙ sym b.length)
    ∙ ap {B = WatchPart} (λ (x : ℕ). record { at = w.at; length = w.length; source = x }) (a.source ∙ sym b.source)
