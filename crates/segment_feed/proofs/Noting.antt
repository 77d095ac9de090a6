-- The note that the looks leave: after one look more, and after all of them. Assumes nothing.
use Rattle.std.proofs.Common.{◌≡◌, ℕ, ◌+◌, ◌-◌, ◌*◌, ◌%◌, true, false, List, length, drop, refl, sym, ap, ◌∙◌, add-one, eq-eqb, ne_eqb}
use borrow.Rule.Slice.PartMut.{mid_of}
use Rattle.feed.specs.Calls.{Way}
use Rattle.segment.specs.Resend.{circle, taking, due}
use Rattle.segment.specs.Post.{Takes}
use Rattle.segment.specs.declared.Held.{Held}
use Rattle.segment_feed.specs.Segment.{Sent, Kept, Look, due_of, looked, at_door}
use Rattle.segment_feed.specs.Noted.{noted_more, noted_after, Notes}
use Rattle.segment_feed.specs.Post.{Looked, Looks, follows}
use Rattle.std.specs.declared.ops.ControlFlow.TheVariants.{Continue}
use Rattle.segment_feed.specs.declared.Heard as code
use Rattle.segment_feed.proofs.Hearing.{mid-end, due-here}

module _ {N : Type 0} (W : Way) (says : List ℕ → ℕ → List ℕ → List ℕ → N) (g : Sent) where
  -- no look follows
  pub noted-off : (l : Look) (n : N) → l.on ≡ false → noted_more W says g l n ≡ n
  unfolding noted_more
  noted-off l n e = rw e

  pub notes-off : (so : Looked) (ws R H : List ℕ) (n : N) → follows so ≡ false → Notes W says g so ws R H n n
  notes-off so ws R H n t l k = sym (noted-off l n (sym k.on ∙ t))

  -- one does: by what the offset, the next number, the taking and the part that is due are promised to be
  module _ (so : code.Heard) (ws R H : List ℕ) (at next : ℕ) (w : Held) (J d : List ℕ)
      (offset : at ≡ W.layout.offset R) (number : next ≡ (g.first + at) % circle) (takes : Takes (taking next H so.start so.length g.start g.bytes) w J)
      (dues : d ≡ due next J w.start w.length g.start g.bytes) (l : Look) (k : Looks l (Continue so) ws R H) (n : N) where
    on-here : l.on ≡ true
    on-here = sym k.on

    due-so : d ≡ due_of W g l.heard.kept
    due-so = due-here W g so ws R H at next w J d offset number takes dues l k

    -- nothing is due
    pub noted-idle : length d ≡ 0 → n ≡ noted_more W says g l n
    unfolding noted_more
    noted-idle z = sym (rw (on-here, eq-eqb _ 0 (ap length (sym due-so) ∙ z)))

    -- something is, and is fed
    pub noted-busy : (length d ≡ 0 → ⊥) → (m : N) → m ≡ says R at d (mid_of (2 * so.pairs) (length ws - 2 * so.pairs) ws) → m ≡ noted_more W says g l n
    unfolding noted_more
    noted-busy z m e =
        let rest : mid_of (2 * so.pairs) (length ws - 2 * so.pairs) ws ≡ drop (2 * l.heard.pairs) l.heard.words = mid-end (2 * so.pairs) ws ∙ rw (k.heard.pairs, k.heard.words) in
        (rw (rest, offset, due-so, k.heard.flow) at e) ∙ sym (rw (on-here, ne_eqb (length (due_of W g l.heard.kept)) 0 (λ y. z (ap length due-so ∙ y))))

  -- after i looks from n on it is the definition's
  module _ (K : Kept) (out : List ℕ) (n : N) where
    abbrev pub Noted : ℕ → N → Type 0
    Noted i m = m ≡ noted_after W says g i (at_door W g K out) n

    pub noted-begun : Noted 0 n
    unfolding noted_after
    noted-begun = refl

    pub noted-looks : (i : ℕ) (so : Looked) (ws R H : List ℕ) (a b : N) → Notes W says g so ws R H a b → Looks (looked i W g (at_door W g K out)) so ws R H → Noted i a → Noted (i + 1) b
    unfolding noted_after
    noted-looks i so ws R H a b m l s =
        rw (add-one) (m (looked i W g (at_door W g K out)) l ∙ ap (noted_more W says g (looked i W g (at_door W g K out))) s)
