-- Two ways that read the offset alike and feed alike: a segment by the one hears and leaves what one by the other does. Assumes nothing.
use Rattle.std.proofs.Common.{◌≡◌, ℕ, zero, suc, ◌*◌, List, [], drop, refl, ap, ◌∙◌}
use Rattle.rules.specs.Rules.{verdict}
use Rattle.feed.specs.Calls.{Bytes, Way, fed_by}
use Rattle.segment_feed.specs.Segment.{Sent, Kept, Look, next_of, take_of, due_of, look, behind, more, looked, most_looks, at_door, feed_segment}
use Rattle.segment_feed.proofs.Looking.{by-look, by-more}
use Rattle.segment_feed.proofs.Streams.{due-bytes, taking-bytes}

module _ (W Q : Way) (offset : (R : List ℕ) → W.layout.offset R ≡ Q.layout.offset R)
    (door : (R : List ℕ) → verdict (W.rules R (Q.layout.offset R) []) ≡ verdict (Q.rules R (Q.layout.offset R) []))
    (feeds : (R piece out : List ℕ) → Bytes piece → fed_by W R (Q.layout.offset R) piece out ≡ fed_by Q R (Q.layout.offset R) piece out) (g : Sent) (sb : Bytes g.bytes) where
  held_bytes : (S : Kept) → Bytes S.held → Bytes (take_of Q g S).bytes
  held_bytes S h = taking-bytes (next_of Q g S) S.held S.start S.length g.start g.bytes h sb

  same-look : (S : Kept) (out : List ℕ) → Bytes S.held → look W g S out ≡ look Q g S out
  unfolding look
  same-look S out h =
      let d : Bytes (due_of Q g S) = due-bytes (next_of Q g S) (take_of Q g S).bytes (take_of Q g S).start (take_of Q g S).length g.start g.bytes (held_bytes S h) sb in
      rw (offset S.flow, feeds S.flow (due_of Q g S) out d)

  -- what is held stays bytes
  held_stays : (k : ℕ) (l : Look) → Bytes l.heard.kept.held → Bytes (looked k Q g l).heard.kept.held
  unfolding looked behind
  held_stays zero l h = h
  held_stays (suc k) l h =
      let m = looked k Q g l in
      by-more Q g (looked k Q g l) (λ m. Bytes m.heard.kept.held)
      (λ e.
      by-look Q g m.heard.kept (drop (2 * m.heard.pairs) m.heard.words) (λ n. Bytes n.heard.kept.held) (λ y. held_bytes m.heard.kept (held_stays k l h)) (λ y. held_bytes m.heard.kept (held_stays k l h)))
      (λ e. held_stays k l h)

  same_more : (l : Look) → Bytes l.heard.kept.held → more W g l ≡ more Q g l
  unfolding more
  same_more l h = rw (same-look l.heard.kept (drop (2 * l.heard.pairs) l.heard.words) h)

  same-looked : (k : ℕ) (l : Look) → Bytes l.heard.kept.held → looked k W g l ≡ looked k Q g l
  unfolding looked
  same-looked zero l h = refl
  same-looked (suc k) l h = ap (more W g) (same-looked k l h) ∙ same_more (looked k Q g l) (held_stays k l h)

  -- on what is kept, with any words
  pub same-segment : (S : Kept) (out : List ℕ) → Bytes S.held → feed_segment W g S out ≡ feed_segment Q g S out
  unfolding feed_segment verdict
  same-segment S out h =
      ap (λ (l : Look). l.heard) (ap (looked most_looks W g) (same-door S out) ∙ same-looked most_looks (at_door Q g S out) h)
    where
      same-door : (S : Kept) (out : List ℕ) → at_door W g S out ≡ at_door Q g S out
      same-door S out = rw (offset S.flow, door S.flow)
