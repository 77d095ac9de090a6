-- Two answers of the C face to a segment that is fed are the same, and the split by an index fits it. Assumes nothing.
use Prim.Native.Nat.{ℕ, ◌≤◌, ◌<◌}
use mathlib.Core.List.{List}
use mathlib.Core.Path.{◌≡◌, sym, ap, ◌∙◌}
use native.Mathlib.Omega.{arith}
use Rattle.segment_feed.specs.Segment as segment
use Rattle.segment_feed.specs.Post.{Hears}
use Rattle.segment_feed.specs.declared.Heard.{Heard}
use Rattle.segment_feed.proofs.Unique.{unique-hears}
use Rattle.segment_index.specs.Standing.{stood_by}
use Rattle.segment_index.proofs.Standing.{stood-by-few}
use Rattle.watch_c.specs.declared.WatchHeard.{WatchHeard}
use Rattle.watch_c.specs.declared.WatchHeardAt.{WatchHeardAt}
use Rattle.watch_c.specs.Segments.{face_heard, face_heard_at}

pub unique-face-hears : (o : segment.Heard) (v w : WatchHeard) (ws vs R Q H J : List ℕ) → Hears o (face_heard v) ws R H → Hears o (face_heard w) vs Q J
    → (v ≡ w) × (ws ≡ vs) × (R ≡ Q) × (H ≡ J)
unique-face-hears o v w ws vs R Q H J a b =
    let p = unique-hears o (face_heard v) (face_heard w) ws vs R Q H J a b in (
      ap {B = WatchHeard} (λ (h : Heard). record { bytes = h.bytes; pairs = h.pairs; refusal = h.refusal; start = h.start; length = h.length; all = h.all }) p.0,
      p.1,
      p.2,
      p.3,
    )

pub unique-face-hears-at : (o : segment.Heard) (n : ℕ) (v w : WatchHeardAt) (ws vs R Q H J : List ℕ) → Hears o (face_heard_at v) ws R H → v.split ≡ n → Hears o (face_heard_at w) vs Q J → w.split ≡ n
    → (v ≡ w) × (ws ≡ vs) × (R ≡ Q) × (H ≡ J)
unique-face-hears-at o n v w ws vs R Q H J a e b f =
    let p = unique-hears o (face_heard_at v) (face_heard_at w) ws vs R Q H J a b in (
      ap {B = WatchHeardAt} (λ (h : Heard). record { bytes = h.bytes; pairs = h.pairs; refusal = h.refusal; start = h.start; length = h.length; all = h.all; split = v.split }) p.0
          ∙ ap {B = WatchHeardAt} (λ (m : ℕ). record { bytes = w.bytes; pairs = w.pairs; refusal = w.refusal; start = w.start; length = w.length; all = w.all; split = m }) (e ∙ sym f),
      p.1,
      p.2,
      p.3,
    )

-- the split that is answered fits the face
pub stood-by-fits : (S X : List ℕ) (h : ℕ) (g : segment.Sent) (K : segment.Kept) (out : List ℕ) (n : ℕ) → n ≡ stood_by S X h g K out → h < 4294967296 → n ≤ 4294967295
stood-by-fits S X h g K out n e l = rw e (stood-by-few S X h g K out 4294967295 (omega (arith, l)) (omega arith))
