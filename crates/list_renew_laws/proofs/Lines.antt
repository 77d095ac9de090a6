-- A line of segments that is renewed at any points: what was heard is what some feeds with renewals between them told, and what some looks passed down. Assumes nothing.
use Prim.Native.Nat.{ℕ, zero, suc, ◌+◌, ◌*◌, ◌%◌, ◌<◌, ◌≤◌}
use mathlib.Core.Path.{◌≡◌, refl, sym, ap, ◌∙◌}
use mathlib.Core.Bool.{Bool, true, false, cond}
use mathlib.Core.List.{List, [], ◌∷◌, ◌++◌, append-nil, append_assoc}
use native.Mathlib.Omega.{arith}
use lib.ListN.{length, take, drop, get_or}
use lib.Seq.{length-take-le}
use lib.Dec.{lit<, eqb}
use borrow.Author.Tests.{eqb-true}
use Rattle.feed.specs.Calls.{Bytes, Way, record_after, all_told, all_bytes, Along, Pieces}
use Rattle.feed.specs.Opening.{Opening}
use Rattle.feed.proofs.Calls.{along-more, along-last, pieces_more, after_more, eaten-more, told_more}
use Rattle.list_flow.specs.Flow.{offset_of}
use Rattle.list_flow.specs.Opening.{open_flow}
use Rattle.segment.specs.Resend.{circle, Held, taking}
use Rattle.segment.specs.Stream as stream
use Rattle.segment.specs.Stream.{Line, number_of, taken, passed, looking, looks, Numbered}
use Rattle.segment.proofs.Streams.{stream}
use Rattle.segment.proofs.Carried.{carried}
use Rattle.segment_feed.specs.Segment.{Sent, Kept, Look, next_of, take_of, due_of, fed_of, kept_of, look, behind, look_on, more, looked, most_looks, at_door, feed_segment}
use Rattle.segment_feed.specs.Calls.{sent_of, hears, door_of, look_as, looks_from, looks_at}
use Rattle.segment_feed.specs.Streamed.{all_seen}
use Rattle.segment_feed.proofs.Looking.{by-look, fed-down, behind-words, more-on, more-off, looked-fitting, looked-off}
use Rattle.segment_feed.proofs.Streams.{due-bytes, taking-bytes, looks-append, numbered-append, Lies}
use Rattle.list_renew.specs.Renewal.{renewal}
use Rattle.laws.specs.Calls.{Call, way_of, OnList}
use Rattle.list_renew_laws.specs.Renewed as renewed
use Rattle.list_renew_laws.specs.Renewed.{raised, Act, feeding, acts, begun, Meant, Passes, Renewed}
use Rattle.list_renew_laws.specs.Lines.{Lasting, flow_of, Deed, handing, renewing, deeds, seen_by, Handed, Renews, opening, ListLasts}
use Rattle.list_renew_laws.proofs.Renewed.{At, list-renews, list_at}

-- whole pairs, and words behind them
raised-append : (n p : ℕ) (ws vs : List ℕ) → length ws ≡ 2 * p → raised n (ws ++ vs) ≡ raised n ws ++ raised n vs
unfolding raised
raised-append n p [] vs e = refl
raised-append n zero (g ∷ ws) vs e = absurd (omega (arith, e))
raised-append n (suc p) (g ∷ []) vs e = absurd (omega (arith, e))
raised-append n (suc p) (g ∷ (k ∷ ws)) vs e = ap {B = List ℕ} (λ (xs : List ℕ). g ∷ ((n + k) ∷ xs)) (raised-append n p ws vs (omega (arith, e)))

-- round the circle in two goes
round : (a b c n : ℕ) → b + c ≡ n → (a + n) % circle ≡ ((a + b) % circle + c) % circle
round a b c n e = omega (arith, e)

module _ (L R out : List ℕ) (z : (open_flow L R out).refusal ≡ 0) (s : ℕ) (H : List ℕ) where
  abbrev o : Opening
  o = open_flow L R out

  -- some feeds and renewals from the opening on consumed bs, told ws and left the flow of Z; and the looks ls lie so
  pub record Came (Z : Lasting) (bs ws : List ℕ) (ls : List stream.Look) : Type 0 where
    pub feeds : List Act
    pub in_bytes : Pieces acts feeds
    pub meant : Along acts (Meant L) (begun o) feeds
    pub eaten : all_bytes acts (begun o) feeds ≡ bs
    pub told : all_told acts (begun o) feeds ≡ ws
    pub left : record_after acts (begun o) feeds ≡ flow_of Z
    pub held : Bytes Z.kept.held
    pub numbered : Numbered ls
    pub lies : Lies (looks s (stream.begun H) ls) Z.kept bs

  pub came-as : {Z : Lasting} {bs bs' ws ws' : List ℕ} {ls ls' : List stream.Look} → bs ≡ bs' → ws ≡ ws' → ls ≡ ls' → Came Z bs ws ls → Came Z bs' ws' ls'
  came-as p q r k = rw (← p, ← q, ← r) k

  pub went : {Z : Lasting} {bs ws : List ℕ} {ls : List stream.Look} → (k : Came Z bs ws ls) → Renewed L o k.feeds
  went k = list-renews L R out z k.feeds k.in_bytes k.meant

  pub came-at : {Z : Lasting} {bs ws : List ℕ} {ls : List stream.Look} → Came Z bs ws ls → At L (flow_of Z)
  came-at k = rw k.left at (list_at L R out z k.feeds k.in_bytes k.meant)

  pub came-offset : (Z : Lasting) (bs ws : List ℕ) (ls : List stream.Look) → Came Z bs ws ls → Z.before + offset_of Z.kept.flow ≡ length bs
  came-offset Z bs ws ls k = rw (k.left, k.eaten) at (went k).offset

  -- ---- a segment, b bytes after the opening's

  module _ (b : ℕ) (c : Call) (number : c.at < circle) (sb : Bytes c.piece) where
    abbrev W : Way
    W = way_of c.by

    abbrev g : Sent
    g = sent_of ((s + b) % circle) c

    abbrev with : Kept → Lasting
    with S = record { before = b; kept = S }

    -- taking and passing on a line that lies as S says is taking and passing on S
    module _ (S : Kept) (bs : List ℕ) (offset : b + offset_of S.flow ≡ length bs) (U : Line) (lies : Lies U S bs) where
      next-same : number_of s U ≡ next_of W g S
      next-same = round s b (offset_of S.flow) (length U.down) (offset ∙ ap length (sym lies.down))

      taken-same : taking (number_of s U) U.held U.start U.length c.at c.piece ≡ take_of W g S
      taken-same = rw (next-same, lies.held, lies.start, lies.length)

      lies_more : (m : ℕ) (F more : List ℕ) → take m (due_of W g S) ≡ more
          → Lies (passed s (taken s U c.at c.piece) c.at c.piece m) (kept_of W g S F) (bs ++ more)
      unfolding taken passed
      lies_more m F more e =
          record {
            down = rw (taken-same, next-same, lies.down) (ap (λ (xs : List ℕ). bs ++ xs) e);
            start = ap (λ (h : Held). h.start) taken-same;
            length = ap (λ (h : Held). h.length) taken-same;
            held = ap (λ (h : Held). h.bytes) taken-same;
          }

    module _ (S : Kept) (bs ws : List ℕ) (ls : List stream.Look) (k : Came (with S) bs ws ls) where
      held_bytes : Bytes (take_of W g S).bytes
      held_bytes = taking-bytes (next_of W g S) S.held S.start S.length c.at c.piece k.held sb

      lies-on : (m : ℕ) (F more : List ℕ) → take m (due_of W g S) ≡ more → Lies (looks s (stream.begun H) (ls ++ (look_as c m ∷ []))) (kept_of W g S F) (bs ++ more)
      unfolding looks looking
      lies-on m F more e =
          rw (looks-append s (stream.begun H) ls (look_as c m ∷ []))
          (lies_more S bs (came-offset (with S) bs ws ls k) (looks s (stream.begun H) ls) k.lies m F more e)

      -- nothing is due
      came-placed : Came (with (kept_of W g S S.flow)) bs ws (ls ++ (look_as c 0 ∷ []))
      came-placed =
          record {
            feeds = k.feeds;
            in_bytes = k.in_bytes;
            meant = k.meant;
            eaten = k.eaten;
            told = k.told;
            left = k.left;
            held = held_bytes;
            numbered = numbered-append ls (look_as c 0 ∷ []) k.numbered (number, tt);
            lies = rw (← append-nil bs) (lies-on 0 S.flow [] refl);
          }

      module _ (fit : OnList L c.by) (words : List ℕ) where
        abbrev call : Act
        call = feeding (record { by = c.by; at = offset_of S.flow; piece = due_of W g S; out = words })

        -- what is due is fed
        came-fed : let f = fed_of W g S words in
            Came (with (kept_of W g S f.saved)) (bs ++ take f.bytes (due_of W g S)) (ws ++ raised b (take (2 * f.pairs) f.words)) (ls ++ (look_as c (length (take f.bytes (due_of W g S))) ∷ []))
        came-fed =
            let f = fed_of W g S words in
            record {
              feeds = k.feeds ++ (call ∷ []);
              in_bytes =
                  pieces_more acts call k.feeds k.in_bytes
                  (due-bytes (next_of W g S) (take_of W g S).bytes (take_of W g S).start (take_of W g S).length c.at c.piece held_bytes sb);
              meant = along-more acts call (Meant L) (begun o) k.feeds k.meant (λ v. fit);
              eaten = eaten-more acts call (begun o) k.feeds ∙ rw (k.left, k.eaten);
              told = told_more acts call (begun o) k.feeds ∙ rw (k.left, k.told);
              left = after_more acts call (begun o) k.feeds ∙ ap (acts call).left k.left;
              held = held_bytes;
              numbered = numbered-append ls (look_as c (length (take f.bytes (due_of W g S))) ∷ []) k.numbered (number, tt);
              lies =
                  lies-on (length (take f.bytes (due_of W g S))) f.saved (take f.bytes (due_of W g S))
                  (ap (λ (n : ℕ). take n (due_of W g S)) (fed-down W g S words));
            }

        came-look : let l = (look W g S words).heard in
            Came (with l.kept) (bs ++ l.down) (ws ++ raised b (take (2 * l.pairs) l.words)) (ls ++ (look_as c (length l.down) ∷ []))
        unfolding raised
        came-look =
            by-look W g S words
            (λ l. Came (with l.heard.kept) (bs ++ l.heard.down) (ws ++ raised b (take (2 * l.heard.pairs) l.heard.words)) (ls ++ (look_as c (length l.heard.down) ∷ [])))
            (λ e. came-as (sym (append-nil bs)) (sym (append-nil ws)) refl came-placed) (λ e. came-fed)

    module _ (S : Kept) (bs ws : List ℕ) (ls : List stream.Look) (k : Came (with S) bs ws ls) where
      -- with what l has heard, and the looks ms
      abbrev Heard-so : Look → List stream.Look → Type 0
      Heard-so l ms = Came (with l.heard.kept) (bs ++ l.heard.down) (ws ++ raised b (take (2 * l.heard.pairs) l.heard.words)) (ls ++ ms)

      came-door : (words : List ℕ) → Heard-so (at_door W g S words) []
      unfolding raised
      came-door words = came-as (sym (append-nil bs)) (sym (append-nil ws)) (sym (append-nil ls)) k

      came-more : OnList L c.by → (m : Look) (ms : List stream.Look) → 2 * m.heard.pairs ≤ length m.heard.words → Heard-so m ms
          → Heard-so (more W g m) (ms ++ cond m.on (look_as c (length (look_on W g m).heard.down) ∷ []) [])
      unfolding behind
      came-more fit m ms room k = go m.on refl
        where
          here : stream.Look
          here = look_as c (length (look_on W g m).heard.down)

          front : List ℕ
          front = take (2 * m.heard.pairs) m.heard.words

          rest : List ℕ
          rest = take (2 * (look_on W g m).heard.pairs) (look_on W g m).heard.words

          go : (t : Bool) → m.on ≡ t → Heard-so (more W g m) (ms ++ cond t (look_as c (length (look_on W g m).heard.down) ∷ []) [])
          go true e =
              rw (more-on W g m e)
              (came-as (append_assoc bs m.heard.down (look_on W g m).heard.down)
              (append_assoc ws (raised b front) (raised b rest)
              ∙ ap (λ (vs : List ℕ). ws ++ vs)
              (sym (ap (raised b) (behind-words m.heard (look_on W g m).heard room) ∙ raised-append b m.heard.pairs front rest (length-take-le (2 * m.heard.pairs) m.heard.words room))))
              (append_assoc ls ms (here ∷ []))
              (came-look m.heard.kept (bs ++ m.heard.down) (ws ++ raised b front) (ls ++ ms) k fit (drop (2 * m.heard.pairs) m.heard.words)))
          go false e = rw (more-off W g m e) (came-as refl refl (ap (λ (xs : List stream.Look). ls ++ xs) (sym (append-nil ms))) k)

      pub came-looked : OnList L c.by → (n : ℕ) → Heard-so (looked n W g (at_door W g S c.out)) (looks_from way_of ((s + b) % circle) c n (at_door W g S c.out))
      unfolding looked
      came-looked fit zero = came-door c.out
      came-looked fit (suc n) =
          let f = looked-fitting W g (length c.out) n (at_door W g S c.out) (record { pairs = omega arith; words = refl; bytes = omega arith }) in
          came-more fit (looked n W g (at_door W g S c.out)) (looks_from way_of ((s + b) % circle) c n (at_door W g S c.out)) (omega (arith, f.pairs, f.words)) (came-looked fit n)

      -- of a segment that is refused at the door there is no look
      looks-none : (l : Look) → l.on ≡ false → (n : ℕ) → looks_from way_of ((s + b) % circle) c n l ≡ []
      looks-none l e zero = refl
      looks-none l e (suc n) = rw (looks-none l e n, looked-off n W g l e, e)

      came-segment : (door_of way_of ((s + b) % circle) S c ≡ 0 → OnList L c.by)
          → let h = hears way_of ((s + b) % circle) S c in Came (with h.kept) (bs ++ h.down) (ws ++ raised b (take (2 * h.pairs) h.words)) (ls ++ looks_at way_of ((s + b) % circle) S c)
      unfolding feed_segment
      came-segment fit = go (eqb (door_of way_of ((s + b) % circle) S c) 0) refl
        where
          go : (t : Bool) → eqb (door_of way_of ((s + b) % circle) S c) 0 ≡ t
              → Heard-so (looked most_looks W g (at_door W g S c.out)) (looks_from way_of ((s + b) % circle) c most_looks (at_door W g S c.out))
          go true e = came-looked (fit (eqb-true (door_of way_of ((s + b) % circle) S c) 0 e)) most_looks
          go false e = rw (looked-off most_looks W g (at_door W g S c.out) e, looks-none (at_door W g S c.out) e most_looks) (came-door c.out)

  -- ---- a renewal: it is not refused, and the held part stays

  module _ (Z : Lasting) (bs ws : List ℕ) (ls : List stream.Look) (k : Came Z bs ws ls) where
    pieces-renewed : Pieces acts (k.feeds ++ (renewed.renewing ∷ []))
    pieces-renewed = pieces_more acts renewed.renewing k.feeds k.in_bytes (λ i. lit< tt)

    meant-renewed : Along acts (Meant L) (begun o) (k.feeds ++ (renewed.renewing ∷ []))
    meant-renewed = along-more acts renewed.renewing (Meant L) (begun o) k.feeds k.meant tt

    pub renews : (renewal Z.kept.flow).refusal ≡ 0
    renews =
        rw k.left at (along-last acts renewed.renewing (Passes L) (begun o) k.feeds (list-renews L R out z (k.feeds ++ (renewed.renewing ∷ [])) pieces-renewed meant-renewed).passes)

    came-renewed : Came ((deeds s renewing).left Z) (bs ++ []) (ws ++ []) (ls ++ [])
    came-renewed =
        record {
          feeds = k.feeds ++ (renewed.renewing ∷ []);
          in_bytes = pieces-renewed;
          meant = meant-renewed;
          eaten = eaten-more acts renewed.renewing (begun o) k.feeds ∙ ap (λ (xs : List ℕ). xs ++ []) k.eaten;
          told = told_more acts renewed.renewing (begun o) k.feeds ∙ ap (λ (xs : List ℕ). xs ++ []) k.told;
          left = after_more acts renewed.renewing (begun o) k.feeds ∙ ap (acts renewed.renewing).left k.left;
          held = k.held;
          numbered = rw (append-nil ls) k.numbered;
          lies = rw (append-nil ls, append-nil bs) (record { down = k.lies.down; start = k.lies.start; length = k.lies.length; held = k.lies.held });
        }

  pub came-none : Bytes H → Came (opening o H) [] [] []
  unfolding record_after all_told all_bytes looks
  came-none hb =
      record {
        feeds = [];
        in_bytes = tt;
        meant = tt;
        eaten = refl;
        told = refl;
        left = refl;
        held = hb;
        numbered = tt;
        lies = record { down = refl; start = refl; length = refl; held = refl };
      }

  -- ---- any of them

  pub came-deed : (Z : Lasting) (d : Deed) (bs ws : List ℕ) (ls : List stream.Look) → Handed L s Z d → Came Z bs ws ls
      → Came ((deeds s d).left Z) (bs ++ (deeds s d).eaten Z) (ws ++ (deeds s d).spoken Z) (ls ++ seen_by s Z d)
  came-deed Z (handing c) bs ws ls f k = came-segment Z.before c f.number f.bytes Z.kept bs ws ls k f.fit
  came-deed Z renewing bs ws ls f k = came-renewed Z bs ws ls k

  renews-deed : (Z : Lasting) (d : Deed) (bs ws : List ℕ) (ls : List stream.Look) → Came Z bs ws ls → Renews Z d
  renews-deed Z (handing c) bs ws ls k = tt
  renews-deed Z renewing bs ws ls k = renews Z bs ws ls k

  came-all : (ds : List Deed) (Z : Lasting) (bs ws : List ℕ) (ls : List stream.Look) → Along (deeds s) (Handed L s) Z ds → Came Z bs ws ls
      → Came (record_after (deeds s) Z ds) (bs ++ all_bytes (deeds s) Z ds) (ws ++ all_told (deeds s) Z ds) (ls ++ all_seen (deeds s) (seen_by s) Z ds) × Along (deeds s) Renews Z ds
  unfolding record_after all_bytes all_told
  came-all [] Z bs ws ls f k = (came-as (sym (append-nil bs)) (sym (append-nil ws)) (sym (append-nil ls)) k, tt)
  came-all (d ∷ ds) Z bs ws ls f k =
      let Y = (deeds s d).left Z in
      let r = came-all ds Y (bs ++ (deeds s d).eaten Z) (ws ++ (deeds s d).spoken Z) (ls ++ seen_by s Z d) f.1 (came-deed Z d bs ws ls f.0 k) in (
        came-as (append_assoc bs ((deeds s d).eaten Z) (all_bytes (deeds s) Y ds)) (append_assoc ws ((deeds s d).spoken Z) (all_told (deeds s) Y ds))
            (append_assoc ls (seen_by s Z d) (all_seen (deeds s) (seen_by s) Y ds)) r.0,
        (renews-deed Z d bs ws ls k, r.1),
      )

pub list-lasts : ListLasts
list-lasts L R out z s H hb ds f =
    let Z = opening (open_flow L R out) H in
    let r = came-all L R out z s H ds Z [] [] [] f (came-none L R out z s H hb) in
    let k = r.0 in
    let w = list-renews L R out z k.feeds k.in_bytes k.meant in
    record {
      came-first = λ i l. stream s H (all_seen (deeds s) (seen_by s) Z ds) k.numbered i (rw k.lies.down l) ∙ ap (λ (bs : List ℕ). suc (get_or bs i 0)) k.lies.down;
      carried = λ i l. rw k.lies.down at (carried s H (all_seen (deeds s) (seen_by s) Z ds) k.numbered i (rw k.lies.down l));
      due = rw (k.eaten, k.told) at w.due;
      frontier = rw (k.left, k.eaten) at w.frontier;
      offset = rw (k.left, k.eaten) at w.offset;
      renews = r.1;
    }
