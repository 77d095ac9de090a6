-- Any segments on a flow, by any way that goes as its automaton goes: what was heard is what some feeds told, and what some looks passed down. Assumes nothing.
use Rattle.std.proofs.Common.{◌≡◌, ℕ, zero, suc, ◌*◌, ◌<◌, ◌≤◌, Bool, true, false, cond, eqb, List, [], ◌∷◌, ◌++◌, length, get_or, take, drop, sym, refl, ap, ◌∙◌, append_assoc, append-nil, arith, eqb-true}
use Rattle.rules.specs.Rules.{verdict}
use Rattle.feed.specs.Engine.{Engine, Layout}
use Rattle.feed.specs.Calls.{Bytes, Way, Asked, Call, ruled, asked, record_after, all_told, all_bytes, Along, Pieces}
use Rattle.feed.specs.Opening.{Opening}
use Rattle.feed.specs.Demands.{Flowed}
use Rattle.feed.proofs.Runs.{bytes_take, bytes_drop, bytes-append}
use Rattle.feed.proofs.Calls.{along-more, pieces_more, after_more, eaten-more, told_more}
use Rattle.segment.specs.Resend.{circle, early, Held, taking, due, part_due}
use Rattle.segment.specs.Stream as stream
use Rattle.segment.specs.Stream.{Line, number_of, taken, passed, torn_by, looking, looks, begun, Numbered}
use Rattle.segment.proofs.Parts.{refuses, take-refused, take-kept, take-other}
use Rattle.segment.proofs.Streams.{stream}
use Rattle.segment.proofs.Carried.{carried}
use Rattle.segment_feed.specs.Segment.{Sent, Kept, Look, next_of, take_of, due_of, fed_of, kept_of, look, behind, look_on, more, looked, most_looks, at_door, feed_segment}
use Rattle.segment_feed.specs.Calls.{sent_of, hears, handed, door_of, look_as, looks_from, looks_at, Fits}
use Rattle.segment_feed.specs.Streamed.{fresh, all_seen, Streamed, Streams, Far, whole, placed, torn, Glance, glanced, look_by, glancing, glance_at, Restarts}
use Rattle.segment_feed.proofs.Looking.{by-look, fed-down, behind-words, more-on, more-off, looked-fitting, looked-off}

-- ---- bytes stay bytes

pub due-bytes : (next : ℕ) (held : List ℕ) (p n q : ℕ) (seg : List ℕ) → Bytes held → Bytes seg → Bytes (due next held p n q seg)
unfolding due
due-bytes next held p n q seg h k = go (eqb (part_due next (length held) p n q (length seg)).source 1)
  where
    go : (b : Bool) → Bytes (take (part_due next (length held) p n q (length seg)).length (drop (part_due next (length held) p n q (length seg)).at (cond b held seg)))
    go true = bytes_take (part_due next (length held) p n q (length seg)).length (drop (part_due next (length held) p n q (length seg)).at held) (bytes_drop (part_due next (length held) p n q (length seg)).at held h)
    go false = bytes_take (part_due next (length held) p n q (length seg)).length (drop (part_due next (length held) p n q (length seg)).at seg) (bytes_drop (part_due next (length held) p n q (length seg)).at seg k)

pub taking-bytes : (next : ℕ) (held : List ℕ) (p n q : ℕ) (seg : List ℕ) → Bytes held → Bytes seg → Bytes (taking next held p n q seg).bytes
taking-bytes next held p n q seg h k = go (refuses next held p n q seg) refl (early next q (length seg)) refl
  where
    go : (r : Bool) → refuses next held p n q seg ≡ r → (b : Bool) → early next q (length seg) ≡ b → Bytes (taking next held p n q seg).bytes
    go true e b f = rw (take-refused next held p n q seg e) h
    go false e true f = rw (take-kept next held p n q seg e f) (bytes-append seg (drop (length seg) held) k (bytes_drop (length seg) held h))
    go false e false f = rw (take-other next held p n q seg e f) h

-- ---- looks at the end of a list of looks

pub looks-append : (s : ℕ) (W : Line) (ls ms : List stream.Look) → looks s W (ls ++ ms) ≡ looks s (looks s W ls) ms
unfolding looks
looks-append s W [] ms = refl
looks-append s W (l ∷ ls) ms = looks-append s (looking s W l) ls ms

pub numbered-append : (ls ms : List stream.Look) → Numbered ls → Numbered ms → Numbered (ls ++ ms)
numbered-append [] ms h k = k
numbered-append (l ∷ ls) ms h k = (h.0, numbered-append ls ms h.1 k)

-- ---- a line as what is kept says

-- bs were passed down, and what is held is what is kept
pub record Lies (W : Line) (S : Kept) (bs : List ℕ) : Type 0 where
  pub down : W.down ≡ bs
  pub start : W.start ≡ S.start
  pub length : W.length ≡ S.length
  pub held : W.held ≡ S.held

-- ---- feeds that go as an engine goes

-- a feed that no rule refuses is fit
abbrev pub Given : {B : Type 0} → (B → Way) → (B → Type 0) → List ℕ → Call B → Type 0
Given way Fit R c = verdict (ruled way R c) ≡ 0 → Fit c.by

-- from the opening o on such feeds go as G goes from x, and `Demand` holds of them; each reads its offset as K does
pub record Goes {B D : Type 0} (way : B → Way) (K : Layout D) (G : Engine D) (x : D) (first : ℕ) (Demand : List (Call B) → Type 0) (Fit : B → Type 0) (o : Opening) : Type 0 where
  pub reads : (b : B) (R : List ℕ) → (way b).layout.offset R ≡ K.offset R
  pub flows : (cs : List (Call B)) → Pieces (asked way) cs → Along (asked way) (Given way Fit) o.saved cs → Flowed (asked way) K G x first o cs
  pub demand : (cs : List (Call B)) → Pieces (asked way) cs → Along (asked way) (Given way Fit) o.saved cs → Demand cs

module _ {B D : Type 0} (way : B → Way) (K : Layout D) (G : Engine D) (x : D) (first : ℕ) (Demand : List (Call B) → Type 0) (Fit : B → Type 0) (o : Opening)
    (goes : Goes way K G x first Demand Fit o) (s : ℕ) (H : List ℕ) where
  -- some feeds from the opening on consumed bs, told ws and left the record of S; and the looks ls lie so
  record Came (S : Kept) (bs ws : List ℕ) (ls : List stream.Look) : Type 0 where
    feeds : List (Call B)
    in_bytes : Pieces (asked way) feeds
    given : Along (asked way) (Given way Fit) o.saved feeds
    eaten : all_bytes (asked way) o.saved feeds ≡ bs
    told : all_told (asked way) o.saved feeds ≡ ws
    left : record_after (asked way) o.saved feeds ≡ S.flow
    held : Bytes S.held
    numbered : Numbered ls
    lies : Lies (looks s (begun H) ls) S bs

  came-as : {S : Kept} {bs bs' ws ws' : List ℕ} {ls ls' : List stream.Look} → bs ≡ bs' → ws ≡ ws' → ls ≡ ls' → Came S bs ws ls → Came S bs' ws' ls'
  came-as p q r k = rw (← p, ← q, ← r) k

  -- the record's offset is the number of bytes passed down
  came-offset : (c : Call B) (S : Kept) (bs ws : List ℕ) (ls : List stream.Look) → Came S bs ws ls → (way c.by).layout.offset S.flow ≡ length bs
  came-offset c S bs ws ls k = goes.reads c.by S.flow ∙ rw (← k.left, ← k.eaten) (goes.flows k.feeds k.in_bytes k.given).offset

  -- ---- one look more

  module _ (c : Call B) (number : c.at < circle) (sb : Bytes c.piece) where
    abbrev W : Way
    W = way c.by

    abbrev g : Sent
    g = sent_of s c

    -- taking and passing on a line that lies as S says is taking and passing on S
    module _ (S : Kept) (bs : List ℕ) (offset : W.layout.offset S.flow ≡ length bs) (U : Line) (lies : Lies U S bs) where
      next-same : number_of s U ≡ next_of W g S
      next-same = rw (lies.down, offset)

      taken-same : taking (number_of s U) U.held U.start U.length c.at c.piece ≡ take_of W g S
      taken-same = rw (next-same, lies.held, lies.start, lies.length)

      -- a torn look leaves the place, and the buffer of the segment taken
      lies-torn : Lies (torn_by s U c.at c.piece) (record { flow = S.flow; held = (take_of W g S).bytes; start = S.start; length = S.length }) bs
      unfolding torn_by
      lies-torn = record { down = lies.down; start = lies.start; length = lies.length; held = ap (λ (h : Held). h.bytes) taken-same }

      lies_more : (m : ℕ) (F : List ℕ) (more : List ℕ) → take m (due_of W g S) ≡ more
          → Lies (passed s (taken s U c.at c.piece) c.at c.piece m) (kept_of W g S F) (bs ++ more)
      unfolding taken passed
      lies_more m F more e =
          record {
            down = rw (taken-same, next-same, lies.down) (ap (λ (xs : List ℕ). bs ++ xs) e);
            start = ap (λ (h : Held). h.start) taken-same;
            length = ap (λ (h : Held). h.length) taken-same;
            held = ap (λ (h : Held). h.bytes) taken-same;
          }

    module _ (S : Kept) (bs ws : List ℕ) (ls : List stream.Look) (k : Came S bs ws ls) where
      held_bytes : Bytes (take_of W g S).bytes
      held_bytes = taking-bytes (next_of W g S) S.held S.start S.length c.at c.piece k.held sb

      lies-on : (m : ℕ) (F more : List ℕ) → take m (due_of W g S) ≡ more → Lies (looks s (begun H) (ls ++ (look_as c m ∷ []))) (kept_of W g S F) (bs ++ more)
      unfolding looks looking
      lies-on m F more e =
          rw (looks-append s (begun H) ls (look_as c m ∷ []))
          (lies_more S bs (came-offset c S bs ws ls k) (looks s (begun H) ls) k.lies m F more e)

      -- the segment is taken, and nothing is fed; or only the buffer of it is saved
      came-placed : Came (kept_of W g S S.flow) bs ws (ls ++ (look_as c 0 ∷ []))
      came-placed =
          record {
            feeds = k.feeds;
            in_bytes = k.in_bytes;
            given = k.given;
            eaten = k.eaten;
            told = k.told;
            left = k.left;
            held = held_bytes;
            numbered = numbered-append ls (look_as c 0 ∷ []) k.numbered (number, tt);
            lies = rw (← append-nil bs) (lies-on 0 S.flow [] refl);
          }

      came-torn : Came (record { flow = S.flow; held = (take_of W g S).bytes; start = S.start; length = S.length }) bs ws
          (ls ++ (record { start = c.at; seg = c.piece; eaten = 0; torn = true } ∷ []))
      unfolding looks looking
      came-torn =
          record {
            feeds = k.feeds;
            in_bytes = k.in_bytes;
            given = k.given;
            eaten = k.eaten;
            told = k.told;
            left = k.left;
            held = held_bytes;
            numbered = numbered-append ls (record { start = c.at; seg = c.piece; eaten = 0; torn = true } ∷ []) k.numbered (number, tt);
            lies =
                rw (looks-append s (begun H) ls (record { start = c.at; seg = c.piece; eaten = 0; torn = true } ∷ []))
                (lies-torn S bs (came-offset c S bs ws ls k) (looks s (begun H) ls) k.lies);
          }

      module _ (fit : Fit c.by) (out : List ℕ) where
        abbrev call : Call B
        call = record { by = c.by; at = W.layout.offset S.flow; piece = due_of W g S; out = out }

        -- what is due is fed
        came-fed : let f = fed_of W g S out in
            Came (kept_of W g S f.saved) (bs ++ take f.bytes (due_of W g S)) (ws ++ take (2 * f.pairs) f.words) (ls ++ (look_as c (length (take f.bytes (due_of W g S))) ∷ []))
        came-fed =
            let f = fed_of W g S out in
            record {
              feeds = k.feeds ++ (call ∷ []);
              in_bytes =
                  pieces_more (asked way) call k.feeds k.in_bytes
                  (due-bytes (next_of W g S) (take_of W g S).bytes (take_of W g S).start (take_of W g S).length c.at c.piece held_bytes sb);
              given = along-more (asked way) call (Given way Fit) o.saved k.feeds k.given (λ v. fit);
              eaten =
                  eaten-more (asked way) call o.saved k.feeds ∙ rw (k.left, k.eaten);
              told =
                  told_more (asked way) call o.saved k.feeds ∙ rw (k.left, k.told);
              left =
                  after_more (asked way) call o.saved k.feeds ∙ rw k.left;
              held = held_bytes;
              numbered = numbered-append ls (look_as c (length (take f.bytes (due_of W g S))) ∷ []) k.numbered (number, tt);
              lies =
                  lies-on (length (take f.bytes (due_of W g S))) f.saved (take f.bytes (due_of W g S))
                  (ap (λ (n : ℕ). take n (due_of W g S)) (fed-down W g S out));
            }

        came-look : let l = (look W g S out).heard in
            Came l.kept (bs ++ l.down) (ws ++ take (2 * l.pairs) l.words) (ls ++ (look_as c (length l.down) ∷ []))
        came-look =
            by-look W g S out
            (λ l. Came l.heard.kept (bs ++ l.heard.down) (ws ++ take (2 * l.heard.pairs) l.heard.words) (ls ++ (look_as c (length l.heard.down) ∷ [])))
            (λ e. came-as (sym (append-nil bs)) (sym (append-nil ws)) refl came-placed) (λ e. came-fed)

    -- ---- a segment

    module _ (S : Kept) (bs ws : List ℕ) (ls : List stream.Look) (k : Came S bs ws ls) where
      -- with what l has heard, and the looks ms
      abbrev Heard-so : Look → List stream.Look → Type 0
      Heard-so l ms = Came l.heard.kept (bs ++ l.heard.down) (ws ++ take (2 * l.heard.pairs) l.heard.words) (ls ++ ms)

      came-door : (out : List ℕ) → Heard-so (at_door W g S out) []
      came-door out = came-as (sym (append-nil bs)) (sym (append-nil ws)) (sym (append-nil ls)) k

      came-more : Fit c.by → (m : Look) (ms : List stream.Look) → 2 * m.heard.pairs ≤ length m.heard.words → Heard-so m ms
          → Heard-so (more W g m) (ms ++ cond m.on (look_as c (length (look_on W g m).heard.down) ∷ []) [])
      unfolding behind
      came-more fit m ms room k = go m.on refl
        where
          here : stream.Look
          here = look_as c (length (look_on W g m).heard.down)

          go : (b : Bool) → m.on ≡ b → Heard-so (more W g m) (ms ++ cond b (look_as c (length (look_on W g m).heard.down) ∷ []) [])
          go true e =
              rw (more-on W g m e)
              (came-as (append_assoc bs m.heard.down (look_on W g m).heard.down)
              (append_assoc ws (take (2 * m.heard.pairs) m.heard.words) (take (2 * (look_on W g m).heard.pairs) (look_on W g m).heard.words)
              ∙ ap (λ (vs : List ℕ). ws ++ vs) (sym (behind-words m.heard (look_on W g m).heard room)))
              (append_assoc ls ms (here ∷ []))
              (came-look m.heard.kept (bs ++ m.heard.down) (ws ++ take (2 * m.heard.pairs) m.heard.words) (ls ++ ms) k fit (drop (2 * m.heard.pairs) m.heard.words)))
          go false e = rw (more-off W g m e) (came-as refl refl (ap (λ (xs : List stream.Look). ls ++ xs) (sym (append-nil ms))) k)

      came-looked : Fit c.by → (n : ℕ) → Heard-so (looked n W g (at_door W g S c.out)) (looks_from way s c n (at_door W g S c.out))
      unfolding looked
      came-looked fit zero = came-door c.out
      came-looked fit (suc n) =
          let f = looked-fitting W g (length c.out) n (at_door W g S c.out) (record { pairs = omega arith; words = refl; bytes = omega arith }) in
          came-more fit (looked n W g (at_door W g S c.out)) (looks_from way s c n (at_door W g S c.out)) (omega (arith, f.pairs, f.words)) (came-looked fit n)

      -- of a segment that is refused at the door there is no look
      looks-none : (l : Look) → l.on ≡ false → (n : ℕ) → looks_from way s c n l ≡ []
      looks-none l e zero = refl
      looks-none l e (suc n) = rw (looks-none l e n, looked-off n W g l e, e)

      came-segment : Fits (door_of way s S c ≡ 0 → Fit c.by) c → Came (hears way s S c).kept (bs ++ (hears way s S c).down) (ws ++ take (2 * (hears way s S c).pairs) (hears way s S c).words) (ls ++ looks_at way s S c)
      unfolding feed_segment
      came-segment f = go (eqb (door_of way s S c) 0) refl
        where
          go : (b : Bool) → eqb (door_of way s S c) 0 ≡ b → Heard-so (looked most_looks W g (at_door W g S c.out)) (looks_from way s c most_looks (at_door W g S c.out))
          go true e = came-looked (f.fit (eqb-true (door_of way s S c) 0 e)) most_looks
          go false e = rw (looked-off most_looks W g (at_door W g S c.out) e, looks-none (at_door W g S c.out) e most_looks) (came-door c.out)

  came-none : Bytes H → Came (fresh o H) [] [] []
  unfolding record_after all_told all_bytes looks
  came-none hb =
      record {
        feeds = [];
        in_bytes = tt;
        given = tt;
        eaten = refl;
        told = refl;
        left = refl;
        held = hb;
        numbered = tt;
        lies = record { down = refl; start = refl; length = refl; held = refl };
      }

  -- ---- any calls on what is kept, of which each leads on

  module _ {A : Type 0} (ask : A → Asked Kept) (seen : Kept → A → List stream.Look) (P : Kept → A → Type 0)
      (step : (S : Kept) (c : A) (bs ws : List ℕ) (ls : List stream.Look) → P S c → Came S bs ws ls → Came ((ask c).left S) (bs ++ (ask c).eaten S) (ws ++ (ask c).spoken S) (ls ++ seen S c)) where
    came-all : (cs : List A) (S : Kept) (bs ws : List ℕ) (ls : List stream.Look) → Along ask P S cs → Came S bs ws ls
        → Came (record_after ask S cs) (bs ++ all_bytes ask S cs) (ws ++ all_told ask S cs) (ls ++ all_seen ask seen S cs)
    unfolding record_after all_bytes all_told
    came-all [] S bs ws ls f k = came-as (sym (append-nil bs)) (sym (append-nil ws)) (sym (append-nil ls)) k
    came-all (c ∷ cs) S bs ws ls f k =
        came-as (append_assoc bs ((ask c).eaten S) (all_bytes ask ((ask c).left S) cs)) (append_assoc ws ((ask c).spoken S) (all_told ask ((ask c).left S) cs))
        (append_assoc ls (seen S c) (all_seen ask seen ((ask c).left S) cs))
        (came-all cs ((ask c).left S) (bs ++ (ask c).eaten S) (ws ++ (ask c).spoken S) (ls ++ seen S c) f.1 (step S c bs ws ls f.0 k))

    all-streamed : Bytes H → (cs : List A) → Along ask P (fresh o H) cs → Streamed ask seen way K G x first Demand o s H cs
    all-streamed hb cs f =
        let k = came-all cs (fresh o H) [] [] [] f (came-none hb) in
        let w = goes.flows k.feeds k.in_bytes k.given in
        record {
          came-first = λ i l. stream s H (all_seen ask seen (fresh o H) cs) k.numbered i (rw k.lies.down l) ∙ ap (λ (bs : List ℕ). suc (get_or bs i 0)) k.lies.down;
          carried = λ i l. rw k.lies.down at (carried s H (all_seen ask seen (fresh o H) cs) k.numbered i (rw k.lies.down l));
          due = rw (k.eaten, k.told) at w.due;
          config = rw (k.left, k.eaten) at w.config;
          offset = rw (k.left, k.eaten) at w.offset;
          feeds = k.feeds;
          consumed = k.eaten;
          told = k.told;
          left = k.left;
          demand = goes.demand k.feeds k.in_bytes k.given;
        }

  -- one look of a caller who is killed, however far he came
  came-glance : (S : Kept) (v : Glance B) (bs ws : List ℕ) (ls : List stream.Look) → Fits (Fit v.call.by) v.call → Came S bs ws ls
      → Came ((glancing way s v).left S) (bs ++ (glancing way s v).eaten S) (ws ++ (glancing way s v).spoken S) (ls ++ glance_at way s S v)
  came-glance S v bs ws ls f k = go v.far
    where
      go : (t : Far)
          → Came (glanced way s S v.call t).kept (bs ++ (glanced way s S v.call t).down) (ws ++ take (2 * (glanced way s S v.call t).pairs) (glanced way s S v.call t).words) (ls ++ (look_by way s S v.call t ∷ []))
      go whole = came-look v.call f.number f.bytes S bs ws ls k f.fit v.call.out
      go placed = came-as (sym (append-nil bs)) (sym (append-nil ws)) refl (came-placed v.call f.number f.bytes S bs ws ls k)
      go torn = came-as (sym (append-nil bs)) (sym (append-nil ws)) refl (came-torn v.call f.number f.bytes S bs ws ls k)

-- ---- the theorems, over any way that goes as its automaton goes

module _ {B D : Type 0} (way : B → Way) (K : Layout D) (G : Engine D) (x : D) (first : ℕ) (Demand : List (Call B) → Type 0) (Fit : B → Type 0) (o : Opening)
    (goes : Goes way K G x first Demand Fit o) where
  -- whatever segments come, in whatever order, cut and resent: each byte passed down is the one that first came for its place, and each pair is told once
  pub streamed : Streams way K G x first Demand Fit o
  streamed s H hb cs f =
      all-streamed way K G x first Demand Fit o goes s H (handed way s) (looks_at way s) (λ S c. Fits (door_of way s S c ≡ 0 → Fit c.by) c)
      (λ S c bs ws ls p k. came-segment way K G x first Demand Fit o goes s H c p.number p.bytes S bs ws ls k p) hb cs f

  -- killed between any two writes and started again: nothing is told twice, and nothing is lost, up to the offset that is saved
  pub restarted : Restarts way K G x first Demand Fit o
  restarted s H hb gs f =
      all-streamed way K G x first Demand Fit o goes s H (glancing way s) (glance_at way s) (λ S v. Fits (Fit v.call.by) v.call) (came-glance way K G x first Demand Fit o goes s H) hb gs f
