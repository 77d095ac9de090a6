-- One look by cases, that it fits, and looks one after the other. Assumes nothing.
use Rattle.std.proofs.Common.{◌≡◌, ℕ, zero, suc, ◌+◌, ◌-◌, ◌*◌, ◌≤◌, Bool, true, false, eqb, List, ◌++◌, length, take, drop, refl, arith, length-append, length-drop, length-take-le, eq-eqb, ne_eqb, eqb-true}
use lib.Seq.{take-append-add}
use borrow.Author.Tests.{eqb-false}
use Rattle.feed.specs.Engine.{ended}
use Rattle.feed.specs.Calls.{Way, fed_by}
use Rattle.feed.proofs.Moves.{feed-fits, feed-length}
use Rattle.feed.proofs.Runs.{length-take-most}
use Rattle.feed.proofs.Whole.{by-feed}
use Rattle.segment.specs.Resend.{most_segment}
use Rattle.segment.proofs.Parts.{due-short}
use Rattle.segment_feed.specs.Segment.{Sent, Kept, Heard, Look, next_of, take_of, due_of, fed_of, idle, busy, look, behind, look_on, more, looked, most_looks, at_door, feed_segment}

-- a feed consumes at most its piece
pub feed-most : (W : Way) (R : List ℕ) (at : ℕ) (piece out : List ℕ) → (fed_by W R at piece out).bytes ≤ length piece
unfolding ended
feed-most W R at piece out =
    by-feed (W.rules R at piece) W.engine W.layout R piece out (λ o. o.bytes ≤ length piece) (λ v n. length-take-most n piece) (λ v. omega arith)

module _ (W : Way) (g : Sent) (S : Kept) (out : List ℕ) where
  pub look-idle : length (due_of W g S) ≡ 0 → look W g S out ≡ idle W g S out
  unfolding look
  look-idle e = rw (eq-eqb (length (due_of W g S)) 0 e)

  pub look-busy : (length (due_of W g S) ≡ 0 → ⊥) → look W g S out ≡ busy W g S (fed_of W g S out)
  unfolding look
  look-busy e = rw (ne_eqb (length (due_of W g S)) 0 e)

  pub by-look : (P : Look → Type 0) → (length (due_of W g S) ≡ 0 → P (idle W g S out)) → ((length (due_of W g S) ≡ 0 → ⊥) → P (busy W g S (fed_of W g S out))) → P (look W g S out)
  by-look P i b = go (eqb (length (due_of W g S)) 0) refl
    where
      go : (t : Bool) → eqb (length (due_of W g S)) 0 ≡ t → P (look W g S out)
      go true e = let z = eqb-true (length (due_of W g S)) 0 e in rw (look-idle z) (i z)
      go false e = let z = eqb-false (length (due_of W g S)) 0 e in rw (look-busy z) (b z)

  -- as many bytes are consumed as are passed down
  fed-most : (fed_of W g S out).bytes ≤ length (due_of W g S)
  fed-most = feed-most W S.flow (W.layout.offset S.flow) (due_of W g S) out

  pub fed-down : length (take (fed_of W g S out).bytes (due_of W g S)) ≡ (fed_of W g S out).bytes
  fed-down = length-take-le (fed_of W g S out).bytes (due_of W g S) fed-most

  -- the pairs fit, the words are as many, and the bytes are few
  pub look-fits : 2 * (look W g S out).heard.pairs ≤ length out
  look-fits =
      by-look (λ l. 2 * l.heard.pairs ≤ length out) (λ z. omega arith)
      (λ z. omega (arith, feed-fits W.engine W.layout S.flow (W.rules S.flow (W.layout.offset S.flow) (due_of W g S)) (due_of W g S) out))

  pub look-long : length (look W g S out).heard.words ≡ length out
  look-long =
      by-look (λ l. length l.heard.words ≡ length out) (λ z. refl)
      (λ z. feed-length W.engine W.layout S.flow (W.rules S.flow (W.layout.offset S.flow) (due_of W g S)) (due_of W g S) out)

  pub look-short : length (look W g S out).heard.down ≤ most_segment
  look-short =
      by-look (λ l. length l.heard.down ≤ most_segment) (λ z. omega arith)
      (λ z. rw fed-down (omega (arith, fed-most, due-short (next_of W g S) (take_of W g S).bytes (take_of W g S).start (take_of W g S).length g.start g.bytes)))

-- ---- one after the other

-- the words of the pairs told before and then
pub behind-words : (a h : Heard) → 2 * a.pairs ≤ length a.words
    → take (2 * (a.pairs + h.pairs)) (take (2 * a.pairs) a.words ++ h.words) ≡ take (2 * a.pairs) a.words ++ take (2 * h.pairs) h.words
behind-words a h fits =
    let twice : 2 * (a.pairs + h.pairs) ≡ length (take (2 * a.pairs) a.words) + 2 * h.pairs = omega (arith, length-take-le (2 * a.pairs) a.words fits) in
    rw twice (take-append-add (take (2 * a.pairs) a.words) h.words (2 * h.pairs))

module _ (W : Way) (g : Sent) (l : Look) where
  pub more-on : l.on ≡ true → more W g l ≡ record { on = (look_on W g l).on; heard = behind l.heard (look_on W g l).heard }
  unfolding more
  more-on e = rw e

  pub more-off : l.on ≡ false → more W g l ≡ l
  unfolding more
  more-off e = rw e

  pub by-more : (P : Look → Type 0) → (l.on ≡ true → P (record { on = (look_on W g l).on; heard = behind l.heard (look_on W g l).heard })) → (l.on ≡ false → P l) → P (more W g l)
  by-more P f h = go l.on refl
    where
      go : (b : Bool) → l.on ≡ b → P (more W g l)
      go true e = rw (more-on e) (f e)
      go false e = rw (more-off e) (h e)

-- what is heard fits: the pairs fit the words, which are n, and at most m looks' bytes are passed down
pub record Fitting (n m : ℕ) (h : Heard) : Type 0 where
  pub pairs : 2 * h.pairs ≤ n
  pub words : length h.words ≡ n
  pub bytes : length h.down ≤ most_segment * m

module _ (W : Way) (g : Sent) (n : ℕ) where
  pub more-fitting : (m : ℕ) (l : Look) → Fitting n m l.heard → Fitting n (suc m) (more W g l).heard
  unfolding behind
  more-fitting m l f =
      by-more W g l (λ k. Fitting n (suc m) k.heard)
      (λ e.
      let S = l.heard.kept in
      let rest = drop (2 * l.heard.pairs) l.heard.words in
      let front : length (take (2 * l.heard.pairs) l.heard.words) ≡ 2 * l.heard.pairs = length-take-le (2 * l.heard.pairs) l.heard.words (omega (arith, f.pairs, f.words)) in
      let left : length rest ≡ length l.heard.words - 2 * l.heard.pairs = length-drop (2 * l.heard.pairs) l.heard.words in
      record {
        pairs = omega (arith, look-fits W g S rest, left, f.pairs, f.words);
        words = rw (length-append, look-long W g S rest, front, left) (omega (arith, f.pairs, f.words));
        bytes = rw length-append (omega (arith, look-short W g S rest, f.bytes));
      })
      (λ e. record { pairs = f.pairs; words = f.words; bytes = omega (arith, f.bytes) })

  -- so of any number of looks
  pub looked-fitting : (k : ℕ) (l : Look) → Fitting n 0 l.heard → Fitting n k (looked k W g l).heard
  unfolding looked
  looked-fitting zero l f = f
  looked-fitting (suc k) l f = more-fitting k (looked k W g l) (looked-fitting k l f)

-- the pairs that a segment tells fit its words, and these stay as many
pub segment-fits : (W : Way) (g : Sent) (S : Kept) (out : List ℕ) → (2 * (feed_segment W g S out).pairs ≤ length out) × (length (feed_segment W g S out).words ≡ length out)
unfolding feed_segment
segment-fits W g S out =
    let f = looked-fitting W g (length out) most_looks (at_door W g S out) (record { pairs = omega arith; words = refl; bytes = omega arith }) in (f.pairs, f.words)

-- a segment that no look follows stays so
pub looked-off : (k : ℕ) (W : Way) (g : Sent) (l : Look) → l.on ≡ false → looked k W g l ≡ l
unfolding looked
looked-off zero W g l e = refl
looked-off (suc k) W g l e = rw (looked-off k W g l e) (more-off W g l e)
