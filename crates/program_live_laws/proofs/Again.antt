-- A segment that has to be sent again begins ahead of the next byte still. Assumes nothing.
use Prim.Native.Nat.{ℕ, zero, suc, ◌*◌, ◌≤◌}
use mathlib.Core.Path.{◌≡◌, refl, sym, ap, ◌∙◌}
use mathlib.Core.Bool.{Bool, true, false, true≢false}
use mathlib.Core.List.{List, []}
use native.Mathlib.Omega.{arith}
use lib.ListN.{length, drop}
use lib.Dec.{lit<}
use Rattle.rules.specs.Rules.{verdict}
use Rattle.rules.proofs.Rules.{skip, verdict-lt}
use Rattle.feed.specs.Calls.{Way}
use Rattle.feed.proofs.Feeds.{each-feed}
use Rattle.list_flow.specs.Flow.{offset_of, feed_rules}
use Rattle.segment.specs.Resend.{held_size, most_segment, ahead, early, Held, taking}
use Rattle.segment.proofs.Parts.{refuses, take-kept, take-other}
use Rattle.segment_feed.specs.Segment.{Sent, Kept, Look, next_of, due_of, look, behind, more, looked, most_looks, at_door, feed_segment}
use Rattle.segment_feed.specs.Ways.{plain_way}
use Rattle.segment_feed.proofs.Looking.{by-look, by-more}
use Rattle.program_live_laws.specs.Segments.{AgainAhead}
use Rattle.program_live_laws.proofs.Sender.{good-sizes, early-ahead, taking-long}

-- of a segment and a buffer of good sizes, 18 says that it begins ahead
taking-again : (next : ℕ) (held : List ℕ) (p n q : ℕ) (seg : List ℕ) → length held ≡ held_size → n ≤ held_size → length seg ≤ most_segment
    → (taking next held p n q seg).refusal ≡ 18 → ahead next q ≡ true
taking-again next held p n q seg z l m = go (refuses next held p n q seg) refl (early next q (length seg)) refl
  where
    go : (r : Bool) → refuses next held p n q seg ≡ r → (b : Bool) → early next q (length seg) ≡ b → (taking next held p n q seg).refusal ≡ 18 → ahead next q ≡ true
    go true e true f h = early-ahead next q (length seg) f
    go true e false f h = absurd (true≢false (sym e ∙ rw (good-sizes (length held) n (length seg) z l m, f)))
    go false e true f h = absurd (omega (arith, sym (ap (λ (x : Held). x.refusal) (take-kept next held p n q seg e f)) ∙ h))
    go false e false f h = absurd (omega (arith, sym (ap (λ (x : Held). x.refusal) (take-other next held p n q seg e f)) ∙ h))

module _ (L : List ℕ) (g : Sent) (short : length g.bytes ≤ most_segment) where
  abbrev W : Way
  W = plain_way L

  -- no rule of a feed has that number
  rules-low : (R : List ℕ) (at : ℕ) (piece : List ℕ) → verdict (feed_rules L R at piece) ≡ 18 → ⊥
  rules-low R at piece e = omega (arith, e, verdict-lt 14 (feed_rules L R at piece) (lit< tt) refl)

  -- what is kept is of good sizes, and 18 says so
  record Says (l : Look) : Type 0 where
    held : length l.heard.kept.held ≡ held_size
    few : l.heard.kept.length ≤ held_size
    begins : l.heard.refusal ≡ 18 → ahead (next_of W g l.heard.kept) g.start ≡ true

  says-look : (K : Kept) (out : List ℕ) → length K.held ≡ held_size → K.length ≤ held_size → Says (look W g K out)
  says-look K out z l =
      let t = taking-long (next_of W g K) K.held K.start K.length g.start g.bytes z l in
      by-look W g K out Says
      (λ e. record { held = t.0; few = t.1; begins = taking-again (next_of W g K) K.held K.start K.length g.start g.bytes z l short })
      (λ e.
      record {
        held = t.0;
        few = t.1;
        begins = λ h. absurd (rules-low K.flow (offset_of K.flow) (due_of W g K) (((each-feed W K.flow (offset_of K.flow) (due_of W g K) out).ruled 18 (λ y. omega (arith, y)) (λ y. omega (arith, y))).0 h));
      })

  says-more : (l : Look) → Says l → Says (more W g l)
  unfolding behind
  says-more l s =
      by-more W g l Says
      (λ e. let k = says-look l.heard.kept (drop (2 * l.heard.pairs) l.heard.words) s.held s.few in record { held = k.held; few = k.few; begins = k.begins })
      (λ e. s)

  says_all : (n : ℕ) (l : Look) → Says l → Says (looked n W g l)
  unfolding looked
  says_all zero l s = s
  says_all (suc n) l s = says-more (looked n W g l) (says_all n l s)

  says-door : (K : Kept) (out : List ℕ) → length K.held ≡ held_size → K.length ≤ held_size → Says (at_door W g K out)
  says-door K out z l =
      record {
        held = z;
        few = l;
        begins = λ h.
            absurd (rules-low K.flow (offset_of K.flow) []
            (sym (skip 18 (feed_rules L K.flow (offset_of K.flow) []) (good-sizes (length K.held) K.length (length g.bytes) z l short)) ∙ h));
      }

pub again-ahead : AgainAhead
unfolding feed_segment
again-ahead L g K out z l m h = (says_all L g m most_looks (at_door (plain_way L) g K out) (says-door L g m K out z l)).begins h
