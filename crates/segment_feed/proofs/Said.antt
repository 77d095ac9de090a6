-- What a refused segment answers and leaves. Assumes nothing.
use Rattle.std.proofs.Common.{◌≡◌, ℕ, zero, suc, ◌*◌, true, false, List, [], length, drop, refl, ap, ◌∙◌, arith, eq-eqb, ne_eqb}
use Rattle.rules.specs.Rules.{verdict}
use Rattle.rules.proofs.Rules.{stop}
use Rattle.feed.specs.Calls.{Way}
use Rattle.segment.specs.Resend.{bad_sizes}
use Rattle.segment_feed.specs.Segment.{Sent, Kept, Heard, Look, take_of, due_of, look, behind, more, looked, unheard, most_looks, door_rules, at_door, feed_segment}
use Rattle.segment_feed.proofs.Looking.{by-look, look-idle, by-more, more-on, looked-off}

module _ (W : Way) (g : Sent) where
  abbrev Quiet : Heard → Type 0
  Quiet h = (h.refusal ≡ 0 → ⊥) → h.all ≡ false

  quiet-look : (S : Kept) (out : List ℕ) → Quiet (look W g S out).heard
  quiet-look S out = by-look W g S out (λ l. Quiet l.heard) (λ e z. ne_eqb _ 0 z) (λ e z. refl)

  quiet-looked : (k : ℕ) (l : Look) → Quiet l.heard → Quiet (looked k W g l).heard
  unfolding looked behind
  quiet-looked zero l q = q
  quiet-looked (suc k) l q =
      let m = looked k W g l in
      by-more W g (looked k W g l) (λ m. Quiet m.heard) (λ e. quiet-look m.heard.kept (drop (2 * m.heard.pairs) m.heard.words)) (λ e. quiet-looked k l q)

  -- a refusal never says that nothing is due any more
  pub refused-not-all : (S : Kept) (out : List ℕ) → ((feed_segment W g S out).refusal ≡ 0 → ⊥) → (feed_segment W g S out).all ≡ false
  unfolding feed_segment
  refused-not-all S out = quiet-looked most_looks (at_door W g S out) (λ z. refl)

  -- a refusal at the door is the first rule's that applies, and nothing is changed
  pub door-refused : (S : Kept) (out : List ℕ) → (verdict (door_rules W g S) ≡ 0 → ⊥) → feed_segment W g S out ≡ unheard (verdict (door_rules W g S)) S out
  unfolding feed_segment
  door-refused S out z = ap (λ (l : Look). l.heard) (looked-off most_looks W g (at_door W g S out) (ne_eqb (verdict (door_rules W g S)) 0 z))

  -- 18 first, for the sizes, whatever else is refused
  pub sizes-first : (S : Kept) (out : List ℕ) → bad_sizes (length S.held) S.length (length g.bytes) ≡ true → feed_segment W g S out ≡ unheard 18 S out
  sizes-first S out e =
      let v : verdict (door_rules W g S) ≡ 18 = stop 18 (W.rules S.flow (W.layout.offset S.flow) []) e in
      door-refused S out (λ z. omega (arith, v, z)) ∙ ap (λ (n : ℕ). unheard n S out) v

  -- the first look and then the others
  looked-first : (k : ℕ) (l : Look) → looked (suc k) W g l ≡ looked k W g (more W g l)
  unfolding looked
  looked-first zero l = refl
  looked-first (suc k) l = ap (more W g) (looked-first k l)

  -- behind the door, where nothing is due, what taking the segment answered is answered: 18 where it was refused
  pub taking-answers : (S : Kept) (out : List ℕ) → verdict (door_rules W g S) ≡ 0 → length (due_of W g S) ≡ 0 → (feed_segment W g S out).refusal ≡ (take_of W g S).refusal
  unfolding feed_segment behind
  taking-answers S out z e =
      let d = at_door W g S out in
      let i = look-idle W g S out e in
      let m : more W g d ≡ record { on = (look W g S out).on; heard = behind d.heard (look W g S out).heard } = more-on W g (at_door W g S out) (eq-eqb (verdict (door_rules W g S)) 0 z) in
      let o : (more W g d).on ≡ false = ap (λ (l : Look). l.on) m ∙ ap (λ (l : Look). l.on) i in
      ap (λ (l : Look). l.heard.refusal) (looked-first 3 d ∙ looked-off 3 W g (more W g d) o ∙ m) ∙ ap (λ (l : Look). l.heard.refusal) i
