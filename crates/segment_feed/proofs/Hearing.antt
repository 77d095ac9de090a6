-- The code of one look more leads on as the definition does, and what it has heard at the door and in the end. Assumes nothing.
use Rattle.std.proofs.Common.{◌≡◌, ℕ, ◌+◌, ◌-◌, ◌*◌, ◌%◌, ◌≤◌, Bool, true, false, cond, eqb, List, [], ◌++◌, length, take, drop, sym, refl, ap, ◌∙◌, append-nil, add-one, arith, length-append, length-drop, take-append-drop, take_all}
use lib.Seq.{drop-length}
use borrow.Rule.Slice.PartMut.{mid_of, put_mid, Post-is}
use Rattle.rules.specs.Rules.{verdict}
use Rattle.feed.specs.Calls.{Way, fed_by}
use Rattle.feed.specs.Fed.{Answers}
use Rattle.feed.specs.declared.Fed.{Fed}
use Rattle.feed.proofs.Feeds.{each-feed}
use Rattle.segment.specs.Resend.{circle, most_segment, bad_sizes, taking, due}
use Rattle.segment.specs.Post.{Takes}
use Rattle.segment.specs.declared.Held.{Held}
use Rattle.segment.proofs.Parts.{due-short}
use Rattle.segment_feed.specs.Segment.{Sent, Kept, Look, next_of, take_of, due_of, fed_of, look, behind, more, looked, most_looks, door_rules, at_door, feed_segment}
use Rattle.std.specs.declared.ops.ControlFlow.TheVariants.{Continue}
use Rattle.segment_feed.specs.Post.{Hears, Looked, Looks, More, Roomy, heard_as, follows, going, begun_as, idle_as, busy_as}
use Rattle.segment_feed.specs.declared.Heard as code
use Rattle.segment_feed.proofs.Looking.{look-idle, look-busy, feed-most, fed-down, more-on, more-off, looked-fitting}

-- the end of the words is their rest, and what is put there stands behind the front
pub mid-end : (w : ℕ) (xs : List ℕ) → mid_of w (length xs - w) xs ≡ drop w xs
mid-end w xs = take_all (length xs - w) (drop w xs) (rw (length-drop w xs) (omega arith))

put-end : (w : ℕ) (xs ys : List ℕ) → w ≤ length xs → put_mid w (length xs - w) xs ys ≡ take w xs ++ ys
put-end w xs ys h =
    ap (λ (zs : List ℕ). take w xs ++ (ys ++ zs)) (Post-is w (length xs) xs h ∙ drop-length xs) ∙ ap (λ (zs : List ℕ). take w xs ++ zs) (append-nil ys)

-- ---- one look more

looks-going : (b : Bool) (r : code.Heard) (o : Look) (ws R H : List ℕ) → b ≡ o.on → Hears o.heard r ws R H → Looks o (going b r) ws R H
looks-going true r o ws R H e h = record { on = e; heard = h }
looks-going false r o ws R H e h = record { on = e; heard = h }

-- no look follows
pub looks-off : (W : Way) (g : Sent) (so : Looked) (ws R H : List ℕ) → follows so ≡ false → (l : Look) → Looks l so ws R H → Looks (more W g l) so ws R H
looks-off W g so ws R H t l k = rw (more-off W g l (sym k.on ∙ t)) k

-- one does: by what the offset, the next number, the taking and the part that is due are promised to be
module _ (W : Way) (g : Sent) (so : code.Heard) (ws R H : List ℕ) (at next : ℕ) (h : Held) (J d : List ℕ)
    (offset : at ≡ W.layout.offset R) (number : next ≡ (g.first + at) % circle) (takes : Takes (taking next H so.start so.length g.start g.bytes) h J)
    (dues : d ≡ due next J h.start h.length g.start g.bytes) (l : Look) (k : Looks l (Continue so) ws R H) where
  next_here : next ≡ next_of W g l.heard.kept
  next_here = number ∙ ap (λ (n : ℕ). (g.first + n) % circle) (offset ∙ ap W.layout.offset k.heard.flow)

  takes-here : Takes (take_of W g l.heard.kept) h J
  takes-here = rw (next_here, k.heard.held, k.heard.start, k.heard.length) at takes

  pub due-here : d ≡ due_of W g l.heard.kept
  due-here = let t = takes-here in dues ∙ rw (next_here, t.bytes, t.start, t.length)

  here : more W g l ≡ record { on = (look W g l.heard.kept (drop (2 * l.heard.pairs) l.heard.words)).on; heard = behind l.heard (look W g l.heard.kept (drop (2 * l.heard.pairs) l.heard.words)).heard }
  here = more-on W g l (sym k.on)

  -- nothing is due
  pub looks-idle : length d ≡ 0 → Looks (more W g l) (idle_as so h) ws R J
  unfolding behind
  looks-idle z =
      let t = takes-here in
      rw (here, look-idle W g l.heard.kept (drop (2 * l.heard.pairs) l.heard.words) (ap length (sym due-here) ∙ z))
      (record {
        on = refl;
        heard =
            record {
              refusal = t.refusal;
              bytes = k.heard.bytes ∙ ap length (sym (append-nil l.heard.down));
              pairs = omega (arith, k.heard.pairs);
              all = ap (λ (n : ℕ). eqb n 0) t.refusal;
              start = t.start;
              length = t.length;
              words = k.heard.words ∙ sym (take-append-drop (2 * l.heard.pairs) l.heard.words);
              flow = k.heard.flow;
              held = t.bytes;
            };
      })

  module _ (roomy : 2 * so.pairs ≤ length ws) (f : Fed) (ys Q : List ℕ)
      (given : Answers (fed_by W R at d (mid_of (2 * so.pairs) (length ws - 2 * so.pairs) ws)) f ys Q) where
    rest-here : mid_of (2 * so.pairs) (length ws - 2 * so.pairs) ws ≡ drop (2 * l.heard.pairs) l.heard.words
    rest-here = mid-end (2 * so.pairs) ws ∙ rw (k.heard.pairs, k.heard.words)

    fed-here : Answers (fed_of W g l.heard.kept (drop (2 * l.heard.pairs) l.heard.words)) f ys Q
    fed-here = rw (rest-here, due-here, offset, k.heard.flow) at given

    -- something is, and is fed
    pub looks-busy : (length d ≡ 0 → ⊥) → Looks (more W g l) (busy_as so h f) (put_mid (2 * so.pairs) (length ws - 2 * so.pairs) ws ys) Q J
    unfolding behind
    looks-busy z =
        let t = takes-here in
        let a = fed-here in
        rw (here, look-busy W g l.heard.kept (drop (2 * l.heard.pairs) l.heard.words) (λ y. z (ap length due-here ∙ y)))
        (looks-going f.all _ _ _ _ _ a.all
        (record {
          refusal = a.refusal;
          bytes = rw (length-append, k.heard.bytes, a.bytes, fed-down W g l.heard.kept (drop (2 * l.heard.pairs) l.heard.words));
          pairs = rw (k.heard.pairs, a.pairs);
          all = refl;
          start = t.start;
          length = t.length;
          words = put-end (2 * so.pairs) ws ys roomy ∙ rw (k.heard.pairs, k.heard.words, a.words);
          flow = a.saved;
          held = t.bytes;
        }))

-- what was fed is few, and so is what is then heard
pub fed-few : (W : Way) (so : code.Heard) (ws R : List ℕ) (at next : ℕ) (J : List ℕ) (p n q : ℕ) (seg d : List ℕ) → Roomy so (length ws) → d ≡ due next J p n q seg → (f : Fed) (ys Q : List ℕ)
    → Answers (fed_by W R at d (mid_of (2 * so.pairs) (length ws - 2 * so.pairs) ws)) f ys Q
    → (so.bytes + f.bytes ≤ most_segment * (most_looks + 1)) × (2 * (so.pairs + f.pairs) ≤ length ws)
fed-few W so ws R at next J p n q seg d r e f ys Q a =
    let out = mid_of (2 * so.pairs) (length ws - 2 * so.pairs) ws in
    let l : length out ≡ length ws - 2 * so.pairs = ap length (mid-end (2 * so.pairs) ws) ∙ length-drop (2 * so.pairs) ws in (
      omega (arith, r.1, a.bytes, feed-most W R at d out, ap length e, due-short next J p n q seg),
      omega (arith, r.0, l, a.pairs, (each-feed W R at d out).pairs-fit),
    )

-- ---- at the door, and in the end

module _ (W : Way) (g : Sent) (S : Kept) (out : List ℕ) where
  -- 18 for the sizes, then the refusal of a feed of no bytes
  pub door-is : (met : ℕ) → met ≡ verdict (W.rules S.flow (W.layout.offset S.flow) [])
      → cond (bad_sizes (length S.held) S.length (length g.bytes)) 18 met ≡ verdict (door_rules W g S)
  unfolding verdict
  door-is met e = rw e

  -- after i looks
  abbrev pub Stands : ℕ → Looked → List ℕ → List ℕ → List ℕ → Type 0
  Stands i so ws R H = Looks (looked i W g (at_door W g S out)) so ws R H

  pub stands-begun : (n : ℕ) → n ≡ verdict (door_rules W g S) → Stands 0 (begun_as n S.start S.length) out S.flow S.held
  unfolding looked
  stands-begun n e =
      looks-going (eqb n 0) _ _ _ _ _ (ap (λ (m : ℕ). eqb m 0) e)
      (record { refusal = e; bytes = refl; pairs = refl; all = refl; start = refl; length = refl; words = refl; flow = refl; held = refl })

  pub roomy : (i : ℕ) (so : Looked) (ws R H : List ℕ) → i ≤ most_looks → Stands i so ws R H → Roomy (heard_as so) (length ws)
  roomy i so ws R H l k =
      let f = looked-fitting W g (length out) i (at_door W g S out) (record { pairs = omega arith; words = refl; bytes = omega arith }) in
      (omega (arith, f.pairs, f.words, k.heard.pairs, ap length k.heard.words), omega (arith, f.bytes, k.heard.bytes))

  pub stands-more : (i : ℕ) (so : Looked) (ws R H : List ℕ) (r : Looked) (vs Q J : List ℕ) → More W g so ws R H r vs Q J → Stands i so ws R H → Stands (i + 1) r vs Q J
  unfolding looked
  stands-more i so ws R H r vs Q J m k = rw add-one (m (looked i W g (at_door W g S out)) k)

  pub hears-so : (so : Looked) (ws R H : List ℕ) → Stands most_looks so ws R H → Hears (feed_segment W g S out) (heard_as so) ws R H
  unfolding feed_segment
  hears-so so ws R H k = k.heard
