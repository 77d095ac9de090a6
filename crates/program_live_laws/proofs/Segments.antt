-- A live line of segments that is killed at any time: what is kept after each event is the lines of the front of the sender's flow. Assumes nothing.
use Prim.Native.Nat.{ℕ, zero, suc, ◌+◌, ◌*◌, ◌-◌, ◌/◌, ◌%◌, ◌≤◌, ◌<◌}
use mathlib.Core.Path.{◌≡◌, refl, sym, ap, ◌∙◌, subst}
use mathlib.Core.Bool.{Bool, true, false, cond, true≢false}
use mathlib.Core.Logic.{◌⊎◌, inl, inr, ⊎_elim}
use mathlib.Core.List.{List, [], ◌∷◌, ◌++◌, append-nil, append_assoc}
use native.Mathlib.Omega.{arith}
use lib.ListN.{length, take, drop, replicate, length-take, length-append, length-replicate}
use lib.Seq.{take-append_seam, take-length}
use lib.Dec.{lit<, eqb, leb}
use borrow.Author.Tests.{eqb-true, eqb-false, eq-eqb, ne_eqb, leb-true}
use Rattle.numbers.specs.Number.{digits, placed}
use Rattle.rules.specs.Rules.{verdict}
use Rattle.rules.proofs.Rules.{skip, passes-front}
use Rattle.list.specs.List.{list_rules}
use Rattle.feed.specs.Engine.{most_offset}
use Rattle.feed.specs.Calls.{Bytes, Way}
use Rattle.feed.proofs.Feeds.{each-feed}
use Rattle.feed.proofs.Opening.{opening-refusal}
use Rattle.feed.proofs.Runs.{bytes_take, bytes_drop}
use Rattle.list_flow.specs.Flow.{flow_size, offset_of}
use Rattle.list_flow.proofs.Records.{good-flow}
use Rattle.list_flow.specs.Opening.{open_pairs, first_rules, open_rules, opened, open_flow}
use Rattle.list_feed.specs.Plain.{pairs_of}
use Rattle.list_renew.specs.Renewal.{renewal}
use Rattle.segment.specs.Resend.{circle, held_size, most_segment, early, taking, due}
use Rattle.segment.specs.Stream as stream
use Rattle.segment.specs.Stream.{Line, number_of, looking, looks}
use Rattle.segment.proofs.Parts.{refuses, take-refused, take-kept, take-other}
use Rattle.segment_feed.specs.Segment as segment
use Rattle.segment_feed.specs.Segment.{Kept, Heard, next_of, due_of, look_on, looked, behind, most_looks, door_rules, at_door, feed_segment}
use Rattle.segment_feed.specs.Ways.{plain_way}
use Rattle.segment_feed.specs.Calls.{sent_of, hears, door_of, look_as, looks_from, looks_at, Fits}
use Rattle.segment_feed.proofs.Looking.{look-idle, look-busy, by-look, fed-down, more-on, more-off, by-more, segment-fits}
use Rattle.segment_feed.proofs.Streams.{looks-append}
use Rattle.laws.specs.Calls.{Call, by_list, way_of, OnList}
use Rattle.laws.specs.Demands.{Fit}
use Rattle.laws.proofs.Due.{begins}
use Rattle.list_renew_laws.specs.Renewed.{raised}
use Rattle.list_renew_laws.specs.Lines.{Lasting, handing, renewing, first_of}
use Rattle.list_renew_laws.proofs.Lines.{Came, came-as, went, came-at, came-offset, came-looked, renews, came-none, came-deed}
use Rattle.program_text.specs.Text.{last_line}
use Rattle.program_turn.specs.State.{state_size, whole_numbers, long_at, word_at, short_at, flow_of, held_of, flow_offset, kind_at, first_at, before_at, place_at, lines_at, near, segments_kind, numbered_kind, plus_number, kept_state, numbered, renew_on, renewed_state}
use Rattle.program_turn.specs.Turn.{Turn, Given, no_words, no_record, lines_from, again_text, turn_text, is_told, is_end, passed_of, over_of, head_size, given_of, last_turn, lines_turn, feed_turn, turn_of}
use Rattle.program_live_laws.specs.Killed.{Disk, Event, turned, cut, kept, after, after_all, begun, lines_to}
use Rattle.program_live_laws.specs.Segments as specs
use Rattle.program_live_laws.specs.Segments.{Segment, turn_on, Sends, AllSent, reach, SegmentsKilled}
use Rattle.program_live_laws.proofs.Lines.{lines-append, pairs-even, lines-told, told_next, lines_more}
use Rattle.program_live_laws.proofs.Feeding.{rules-pass, feed-taken}
use Rattle.program_live_laws.proofs.Opening.{first_words, first_pairs, begun_state, opened-long, opening-is, opening-text}
use Rattle.program_live_laws.proofs.Marks.{Marks, Sized, kept_in, marks-kept, marks-of, marks-numbered, marks-renewed, marks-turned, marks-opened, marks-fresh, kept-before}
use Rattle.program_live_laws.proofs.Sender.{Front, good-sizes, front-begun, front-down, one-look, front-looks, leads, look-leads, due-some}

-- the number of the next byte
next-number : (s b o k f : ℕ) → f ≡ (s + b) % circle → b + o ≡ k → (f + o) % circle ≡ (s + k) % circle
next-number s b o k f e h = omega (arith, e, h)

-- so far a segment and a held part lead
few-left : (k a n p m c : ℕ) → c ≡ k → n ≤ held_size → m ≤ most_segment → c + (n - (c - a)) + (m - (c - p)) ≤ k + 69631
few-left k a n p m c e l q = omega arith

room-enough : (b o first at n k : ℕ) → b + o ≡ at → b + first ≡ k → first ≤ near → at + n ≤ k + 69631 → o + n ≤ most_offset
room-enough b o first at n k e f l q = omega arith

-- a refusal that is none of the flow
abbrev Fine : ℕ → Type 0
Fine n = (n ≡ 0) ⊎ (n ≡ 18)

taking-fine : (next : ℕ) (held : List ℕ) (p n q : ℕ) (seg : List ℕ) → Fine (taking next held p n q seg).refusal
taking-fine next held p n q seg = go (refuses next held p n q seg) refl (early next q (length seg)) refl
  where
    go : (r : Bool) → refuses next held p n q seg ≡ r → (b : Bool) → early next q (length seg) ≡ b → Fine (taking next held p n q seg).refusal
    go true e b f = rw (take-refused next held p n q seg e) (inr refl)
    go false e true f = rw (take-kept next held p n q seg e f) (inl refl)
    go false e false f = rw (take-other next held p n q seg e f) (inl refl)

zeros-bytes : (n : ℕ) → Bytes (replicate n 0)
zeros-bytes zero i = lit< tt
zeros-bytes (suc n) zero = lit< tt
zeros-bytes (suc n) (suc i) = zeros-bytes n i

module _ (L B : List ℕ) (z : (open_flow L no_record no_words).refusal ≡ 0) (bytes : Bytes B) (short : length B < whole_numbers) (few : length (lines_to L B (length B)) < whole_numbers) (s : ℕ)
    (low : s < circle) where
  abbrev H : List ℕ
  H = replicate held_size 0

  -- what a state keeps of the line
  abbrev lasting : List ℕ → Lasting
  lasting S = record { before = long_at S before_at; kept = kept_in S }

  -- k bytes of the flow were passed down, and Z is kept
  record Held (Z : Lasting) (k : ℕ) : Type 0 where
    words : List ℕ
    seen : List stream.Look
    came : Came L no_record no_words z s H Z (take k B) words seen
    front : Front B s (looks s (stream.begun H) seen)
    inside : k ≤ length B

  -- a state that keeps it
  record Ready (S : List ℕ) (k : ℕ) : Type 0 where
    size : length S ≡ state_size
    holds : Held (lasting S) k
    lines_are : long_at S lines_at ≡ length (lines_to L B k)
    not-bytes : word_at S kind_at ≡ 0 → ⊥
    untouched : word_at S kind_at ≡ 1 → k ≡ 0
    numbers : (word_at S kind_at ≡ 1 → ⊥) → short_at S first_at ≡ (s + long_at S before_at) % circle

  -- by its parts
  ready_by : {T : List ℕ} {kind first b n : ℕ} {K : Kept} (k : ℕ) → Marks T kind first b n K → Held (record { before = b; kept = K }) k → n ≡ length (lines_to L B k)
      → (kind ≡ 0 → ⊥) → (kind ≡ 1 → k ≡ 0) → ((kind ≡ 1 → ⊥) → first ≡ (s + b) % circle) → Ready T k
  ready_by {T = T} {b = b} {K = K} k m h e a u f =
      record {
        size = m.size;
        holds =
            subst (λ (Z : Lasting). Held Z k)
            (sym (ap (λ (x : ℕ). record { before = x; kept = kept_in T }) m.before ∙ ap (λ (J : Kept). record { before = b; kept = J }) (marks-kept m))) h;
        lines_are = m.lines ∙ e;
        not-bytes = λ y. a (sym m.kinds ∙ y);
        untouched = λ y. u (sym m.kinds ∙ y);
        numbers = λ y. m.firsts ∙ f (λ w. y (m.kinds ∙ w)) ∙ ap (λ (x : ℕ). (s + x) % circle) (sym m.before);
      }

  -- the offset is k
  held-offset : (Z : Lasting) (k : ℕ) → Held Z k → Z.before + offset_of Z.kept.flow ≡ k
  held-offset Z k h =
      came-offset L no_record no_words z s H Z (take k B) h.words h.seen h.came ∙ length-take k B ∙ omega (arith, h.inside)

  -- ---- the first number

  ready-numbered : (S : List ℕ) (k v : ℕ) → Ready S k → v < circle → (word_at S kind_at ≡ 1 → v ≡ s % circle) → Ready (numbered v S) k × (word_at (numbered v S) kind_at ≡ 1 → ⊥)
  unfolding numbered
  ready-numbered S k v r l f = go (eqb (word_at S kind_at) 1) refl
    where
      go : (t : Bool) → eqb (word_at S kind_at) 1 ≡ t
          → let T = cond t (placed (placed S first_at (digits 8 4 v)) kind_at (digits 8 4 numbered_kind)) S in Ready T k × (word_at T kind_at ≡ 1 → ⊥)
      go true e =
          let one = eqb-true (word_at S kind_at) 1 e in
          let m = marks-numbered v l (marks-of S r.size) in
          let b : long_at S before_at ≡ 0 = omega (arith, held-offset (lasting S) k r.holds, r.untouched one) in (
            ready_by k m r.holds r.lines_are (λ y. omega (arith, y)) (λ y. omega (arith, y)) (λ y. f one ∙ rw b (omega arith)),
            λ y. omega (arith, y, m.kinds),
          )
      go false e = (r, eqb-false (word_at S kind_at) 1 e)

  -- ---- a renewal

  module _ (S : List ℕ) (k : ℕ) (r : Ready S k) (came-one : word_at S kind_at ≡ 1 → ⊥) where
    abbrev since : ℕ
    since = offset_of (flow_of S)

    abbrev anew : List ℕ
    anew = (renewal (flow_of S)).saved

    -- it is not refused
    passes : (renewal (flow_of S)).refusal ≡ 0
    passes = renews L no_record no_words z s H (lasting S) (take k B) r.holds.words r.holds.seen r.holds.came

    abbrev later : Lasting
    later = record { before = long_at S before_at + since; kept = record { flow = anew; held = held_of S; start = (kept_in S).start; length = (kept_in S).length } }

    renewed-held : Held later k
    renewed-held =
        let c = came-deed L no_record no_words z s H (lasting S) renewing (take k B) r.holds.words r.holds.seen tt r.holds.came in
        record {
          words = r.holds.words;
          seen = r.holds.seen;
          came =
              came-as L no_record no_words z s H (append-nil (take k B)) (append-nil r.holds.words) (append-nil r.holds.seen)
              (rw (eq-eqb (renewal (flow_of S)).refusal 0 passes) at c);
          front = r.holds.front;
          inside = r.holds.inside;
        }

    anew-long : length anew ≡ flow_size
    anew-long = (good-flow anew (came-at L no_record no_words z s H renewed-held.came).fit.0).0

    whole : long_at S before_at + since ≡ k
    whole = held-offset (lasting S) k r.holds

    renewed-ready : Ready (renewed_state S) k × (word_at (renewed_state S) kind_at ≡ 1 → ⊥)
    renewed-ready =
        let v = (short_at S first_at + since) % circle in
        let m = marks-renewed anew since v anew-long (omega (arith, whole, r.holds.inside, short)) (omega arith) (marks-of S r.size) in (
          ready_by k m renewed-held r.lines_are r.not-bytes r.untouched (λ y. omega (arith, r.numbers came-one)),
          λ y. came-one (sym m.kinds ∙ y),
        )

    -- where it is made; and then there is room for a segment and a held part before the largest offset
    renew-ready : Ready (renew_on S) k × (word_at (renew_on S) kind_at ≡ 1 → ⊥) × (offset_of (flow_of (renew_on S)) ≤ near)
    unfolding renew_on
    renew-ready = go (leb since near) (eqb (renewal (flow_of S)).refusal 0) refl refl
      where
        Goal : List ℕ → Type 0
        Goal T = Ready T k × (word_at T kind_at ≡ 1 → ⊥) × (offset_of (flow_of T) ≤ near)

        go : (a b : Bool) → leb since near ≡ a → eqb (renewal (flow_of S)).refusal 0 ≡ b → Goal (cond a S (cond b (renewed_state S) S))
        go true b e f = (r, came-one, leb-true since near e)
        go false false e f = absurd (eqb-false (renewal (flow_of S)).refusal 0 f passes)
        go false true e f =
            let h = held-offset (lasting (renewed_state S)) k renewed-ready.0.holds in
            (renewed-ready.0, renewed-ready.1, omega (arith, h, whole, renewed-none))
          where
            renewed-none : long_at (renewed_state S) before_at ≡ long_at S before_at + since
            renewed-none = (marks-renewed anew since ((short_at S first_at + since) % circle) anew-long (omega (arith, whole, r.holds.inside, short)) (omega arith) (marks-of S r.size)).before

  -- ---- a segment, to a state that is renewed where it has to be

  -- the words told so far are the pairs of the bytes passed down
  told-so : (Z : Lasting) (k : ℕ) (ws : List ℕ) (ms : List stream.Look) → Came L no_record no_words z s H Z (take k B) ws ms → open_pairs L ++ ws ≡ pairs_of L (take k B)
  unfolding open_pairs
  told-so Z k ws ms c =
      let d = (went L no_record no_words z s H c).due.tells in
      let e = (begins L no_record no_words z).0 in
      ap (λ (xs : List ℕ). xs ++ ws) (sym e) ∙ (rw (c.eaten, c.told) at d)

  -- no more lines than those of the whole flow
  lines-few : (k : ℕ) → k ≤ length B → length (lines_to L B k) < whole_numbers
  lines-few k l =
      let e : k + (length B - k) ≡ length B = omega (arith, l) in
      let W = told_next L B k (length B - k) l in
      omega (arith, few, ap length (rw e at (lines_more L B k (length B - k) l)), length-append (lines_to L B k) (lines_from 0 W (length W / 2)))

  module _ (S : List ℕ) (k : ℕ) (r : Ready S k) (came-one : word_at S kind_at ≡ 1 → ⊥) (g : Segment) (p : ℕ) (number : g.start ≡ (s + p) % circle)
      (part : g.bytes ≡ take (length g.bytes) (drop p B)) (fits : length g.bytes ≤ most_segment) (behind : k ≤ p + reach) (ahead : p ≤ k + reach) where
    abbrev call : Call
    call = record { by = record { list = L; via = by_list }; at = g.start; piece = g.bytes; out = no_words }

    abbrev h : Heard
    h = hears way_of (first_of s (lasting S)) (kept_in S) call

    abbrev J : Kept
    J = h.kept

    abbrev to : ℕ
    to = k + length h.down

    abbrev rise : List ℕ
    rise = raised (long_at S before_at) (take (2 * h.pairs) h.words)

    handed : Fits (door_of way_of (first_of s (lasting S)) (kept_in S) call ≡ 0 → OnList L call.by) call
    handed =
        record {
          number = omega (arith, number);
          bytes = rw part (bytes_take (length g.bytes) (drop p B) (bytes_drop p B bytes));
          fit = λ y. (refl, tt);
        }

    abbrev looks-then : List stream.Look
    looks-then = looks_at way_of (first_of s (lasting S)) (kept_in S) call

    came-then : Came L no_record no_words z s H (record { before = long_at S before_at; kept = J }) (take k B ++ h.down) (r.holds.words ++ rise) (r.holds.seen ++ looks-then)
    came-then = came-deed L no_record no_words z s H (lasting S) (handing call) (take k B) r.holds.words r.holds.seen handed r.holds.came

    abbrev line : Line
    line = looks s (stream.begun H) r.holds.seen

    line-long : length line.down ≡ k
    line-long = ap length r.holds.came.lies.down ∙ length-take k B ∙ omega (arith, r.holds.inside)

    front-then : Front B s (looks s (stream.begun H) (r.holds.seen ++ looks-then))
    front-then =
        rw (looks-append s (stream.begun H) r.holds.seen looks-then)
        (front-looks B s way_of call p number part fits (first_of s (lasting S)) most_looks (at_door (plain_way L) (sent_of (first_of s (lasting S)) call) (kept_in S) no_words) line r.holds.front
        (omega arith) (omega (arith, line-long, behind)) (omega (arith, line-long, ahead))).0

    long-then : length (take k B ++ h.down) ≡ to
    long-then = length-append (take k B) h.down ∙ ap (λ (n : ℕ). n + length h.down) (length-take k B ∙ omega (arith, r.holds.inside))

    inside-then : to ≤ length B
    inside-then = omega (arith, (front-down B s _ front-then).0, ap length came-then.lies.down, long-then)

    front-is : take k B ++ h.down ≡ take to B
    front-is =
        let d = came-then.lies.down in
        sym d ∙ (front-down B s _ front-then).1 ∙ ap (λ (n : ℕ). take n B) (ap length d ∙ long-then)

    held_then : Held (record { before = long_at S before_at; kept = J }) to
    held_then =
        record {
          words = r.holds.words ++ rise;
          seen = r.holds.seen ++ looks-then;
          came = came-as L no_record no_words z s H front-is refl refl came-then;
          front = front-then;
          inside = inside-then;
        }

    sized : Sized J
    sized =
        let l = came-then.lies in
        record {
          flow = (good-flow J.flow (came-at L no_record no_words z s H came-then).fit.0).0;
          held = ap length (sym l.held) ∙ front-then.held;
          start = rw (← l.start) front-then.start;
          long = omega (arith, l.length, front-then.stands.few);
        }

    abbrev text : List ℕ
    text = turn_text (long_at (kept_state S J.flow J.held J.start J.length) before_at) h.words h.pairs false g.start

    told-then : lines_to L B to ≡ lines_to L B k ++ text
    unfolding again_text held_then
    told-then =
        let P = pairs_of L (take k B) in
        let pairs : pairs_of L (take to B) ≡ P ++ rise =
        sym (told-so _ to _ _ held_then.came) ∙ sym (append_assoc (open_pairs L) r.holds.words rise) ∙ ap (λ (xs : List ℕ). xs ++ rise) (told-so _ k _ _ r.holds.came) in
        let fit = segment-fits (plain_way L) (sent_of (first_of s (lasting S)) call) (kept_in S) no_words in
        let e : text ≡ lines_from 0 rise (length rise / 2) =
        append-nil (lines_from (long_at (kept_state S J.flow J.held J.start J.length) before_at) h.words h.pairs)
        ∙ ap (λ (j : ℕ). lines_from j h.words h.pairs) (kept-before J sized (marks-of S r.size))
        ∙ lines-told (long_at S before_at) h.words h.pairs rise (omega (arith, fit.0, fit.1)) refl in
        let even = pairs-even L B k (length h.down) r.holds.inside in
        let n : length (P ++ rise) / 2 ≡ length P / 2 + length rise / 2 = omega (arith, length-append P rise, even) in
        ap (λ (ws : List ℕ). lines_from 0 ws (length ws / 2)) pairs ∙ rw n (lines-append 0 P rise (length P / 2) (length rise / 2) even) ∙ ap (λ (xs : List ℕ). lines_to L B k ++ xs) (sym e)

    -- the state after the turn, whose place in the line moves by c
    ready-then : (c : ℕ) → Ready (plus_number (plus_number (kept_state S J.flow J.held J.start J.length) place_at c) lines_at (length text)) to
    ready-then c =
        let count : length (lines_to L B to) ≡ length (lines_to L B k) + length text = ap length told-then ∙ length-append (lines_to L B k) text in
        let m = marks-turned J c (length text) sized (omega (arith, r.lines_are, count, lines-few to inside-then)) (marks-of S r.size) in
        ready_by to m held_then (omega (arith, r.lines_are, count)) r.not-bytes (λ y. absurd (came-one y)) r.numbers

    -- what the segment gives is what it hears
    abbrev given : Given
    given =
        record {
          refusal = passed_of h.refusal;
          pairs = h.pairs;
          done = over_of h.all h.refusal (length g.bytes);
          moved = over_of h.all h.refusal (length g.bytes + head_size);
          again = eqb h.refusal 18;
          words = h.words;
          saved = kept_state S J.flow J.held J.start J.length;
        }

    given_is : given_of L S g.start g.bytes no_words ≡ given
    unfolding given_of
    given_is = rw (ne_eqb (word_at S kind_at) 0 r.not-bytes, r.numbers came-one)

    -- ---- it is not refused: what is left of the segment and of the held part ends before the largest offset

    module _ (lists : verdict (list_rules L) ≡ 0) (room : offset_of (flow_of S) ≤ near) where
      abbrev W : Way
      W = plain_way L

      abbrev sent-so : segment.Sent
      sent-so = sent_of (first_of s (lasting S)) call

      -- after n looks
      abbrev heard-by : ℕ → segment.Look
      heard-by n = looked n W sent-so (at_door W sent-so (kept_in S) no_words)

      abbrev seen_by : ℕ → List stream.Look
      seen_by n = looks_from way_of (first_of s (lasting S)) call n (at_door W sent-so (kept_in S) no_words)

      abbrev line-by : ℕ → Line
      line-by n = looks s (stream.begun H) (r.holds.seen ++ seen_by n)

      came-by : (n : ℕ)
          → Came L no_record no_words z s H (record { before = long_at S before_at; kept = (heard-by n).heard.kept }) (take k B ++ (heard-by n).heard.down)
          (r.holds.words ++ raised (long_at S before_at) (take (2 * (heard-by n).heard.pairs) (heard-by n).heard.words)) (r.holds.seen ++ seen_by n)
      came-by n =
          came-looked L no_record no_words z s H (long_at S before_at) call handed.number handed.bytes (kept_in S) (take k B) r.holds.words r.holds.seen r.holds.came (refl, tt) n

      front_by : (n : ℕ) → n ≤ 4 → Front B s (line-by n) × (length line.down ≤ length (line-by n).down) × (length (line-by n).down ≤ length line.down + n * most_segment)
      front_by n l =
          rw (looks-append s (stream.begun H) r.holds.seen (seen_by n))
          (front-looks B s way_of call p number part fits (first_of s (lasting S)) n (at_door W sent-so (kept_in S) no_words) line r.holds.front l (omega (arith, line-long, behind))
          (omega (arith, line-long, ahead)))

      offset-by : (n : ℕ) → long_at S before_at + offset_of (heard-by n).heard.kept.flow ≡ length (line-by n).down
      offset-by n =
          came-offset L no_record no_words z s H (record { before = long_at S before_at; kept = (heard-by n).heard.kept }) _ _ _ (came-by n) ∙ ap length (sym (came-by n).lies.down)

      -- what is due then, by the line
      abbrev dues-by : ℕ → List ℕ
      dues-by n =
          let Y = line-by n in
          let h = taking (number_of s Y) Y.held Y.start Y.length g.start g.bytes in due (number_of s Y) h.bytes h.start h.length g.start g.bytes

      due-by : (n : ℕ) → due_of W sent-so (heard-by n).heard.kept ≡ dues-by n
      due-by n =
          let l = (came-by n).lies in
          let e : next_of W sent-so (heard-by n).heard.kept ≡ number_of s (line-by n) =
          next-number s (long_at S before_at) (offset_of (heard-by n).heard.kept.flow) (length (line-by n).down) (first_of s (lasting S)) refl (offset-by n) in
          rw (e, ← l.held, ← l.start, ← l.length)

      -- the line leads no further
      Room : Line → Type 0
      Room Y = (f : Front B s Y) × (leads B s way_of call p number part fits Y f.place ≤ k + 69631)

      room-none : Room (line-by 0)
      unfolding Room
      room-none =
          let f = (front_by 0 (omega arith)).0 in
          let l : length (line-by 0).down ≡ k = omega (arith, (front_by 0 (omega arith)).1, (front_by 0 (omega arith)).2, line-long) in
          (f, few-left k f.place (line-by 0).length p (length g.bytes) (length (line-by 0).down) l f.stands.few fits)

      line-more : (n : ℕ) → (heard-by n).on ≡ true → line-by (suc n) ≡ looking s (line-by n) (look_as call (length (look_on W sent-so (heard-by n)).heard.down))
      unfolding looks
      line-more n e = rw e (ap (looks s (stream.begun H)) (sym (append_assoc r.holds.seen (seen_by n) _)) ∙ looks-append s (stream.begun H) (r.holds.seen ++ seen_by n) _)

      window : (n : ℕ) → n ≤ 4 → (length (line-by n).down ≤ p + reach + 262140) × (p ≤ length (line-by n).down + reach)
      window n l = let f = front_by n l in (omega (arith, f.2, line-long, behind, l), omega (arith, f.1, line-long, ahead))

      -- where a look follows
      busy-on : (n : ℕ) → (look_on W sent-so (heard-by n)).on ≡ true → length (dues-by n) ≡ 0 → ⊥
      busy-on n e y =
          true≢false (sym e ∙ ap (λ (l : segment.Look). l.on) (look-idle W sent-so (heard-by n).heard.kept (drop (2 * (heard-by n).heard.pairs) (heard-by n).heard.words) (ap length (due-by n) ∙ y)))

      room-more : (n : ℕ) → suc n ≤ 4 → ((heard-by n).on ≡ true → Room (line-by n)) → (heard-by (suc n)).on ≡ true → Room (line-by (suc n))
      unfolding looked Room
      room-more n l ih e = go (heard-by n).on refl
        where
          go : (t : Bool) → (heard-by n).on ≡ t → Room (line-by (suc n))
          go true q =
              let on : (look_on W sent-so (heard-by n)).on ≡ true = sym (ap (λ (x : segment.Look). x.on) (more-on W sent-so (heard-by n) q)) ∙ e in
              let m = length (look_on W sent-so (heard-by n)).heard.down in
              let w = window n (omega (arith, l)) in
              let o = (one-look B s way_of call p number part fits (line-by n) (ih q).0 w.0 w.1 m).0 in
              let b = look-leads B s way_of call p number part fits (line-by n) (ih q).0 w.0 w.1 m o (busy-on n on) in
              subst Room (sym (line-more n q)) (o, omega (arith, b.1, (ih q).1))
          go false q = absurd (true≢false (sym e ∙ ap (λ (x : segment.Look). x.on) (more-off W sent-so (heard-by n) q) ∙ q))

      room_by : (n : ℕ) → n ≤ 4 → (heard-by n).on ≡ true → Room (line-by n)
      room_by zero l e = room-none
      room_by (suc n) l e = room-more n l (room_by n (omega (arith, l))) e

      -- at the door
      fit-by : (n : ℕ) → Fit L (heard-by n).heard.kept.flow
      fit-by n = (came-at L no_record no_words z s H (came-by n)).fit

      held-long : length (held_of S) ≡ held_size
      held-long = ap length (sym r.holds.came.lies.held) ∙ r.holds.front.held

      door : verdict (door_rules W sent-so (kept_in S)) ≡ 0
      door =
          skip 18 _ (good-sizes (length (held_of S)) (kept_in S).length (length g.bytes) held-long (omega (arith, r.holds.came.lies.length, r.holds.front.stands.few)) fits)
          ∙ rules-pass L lists (flow_of S) (came-at L no_record no_words z s H r.holds.came).fit [] (omega (arith, room))

      -- each look
      feed-fits : (n : ℕ) → n ≤ 4 → (heard-by n).on ≡ true → (length (dues-by n) ≡ 0 → ⊥) → offset_of (heard-by n).heard.kept.flow + length (due_of W sent-so (heard-by n).heard.kept) ≤ most_offset
      unfolding Room
      feed-fits n l e y =
          let w = window n l in
          let q = room_by n l e in
          let o = (one-look B s way_of call p number part fits (line-by n) q.0 w.0 w.1 0).0 in
          let b = (look-leads B s way_of call p number part fits (line-by n) q.0 w.0 w.1 0 o y).0 in
          room-enough (long_at S before_at) (offset_of (heard-by n).heard.kept.flow) (offset_of (flow_of S)) (length (line-by n).down) (length (due_of W sent-so (heard-by n).heard.kept)) k
          (offset-by n) (held-offset (lasting S) k r.holds) room (omega (arith, b, q.1, ap length (due-by n)))

      look-fine : (n : ℕ) → n ≤ 4 → (heard-by n).on ≡ true → Fine (look_on W sent-so (heard-by n)).heard.refusal
      look-fine n l e =
          let K = (heard-by n).heard.kept in
          let out = drop (2 * (heard-by n).heard.pairs) (heard-by n).heard.words in
          by-look W sent-so K out (λ x. Fine x.heard.refusal) (λ y. taking-fine (next_of W sent-so K) K.held K.start K.length g.start g.bytes)
          (λ y. inl (feed-taken L lists K.flow (fit-by n) (due_of W sent-so K) (feed-fits n l e (λ q. y (ap length (due-by n) ∙ q))) out))

      fine-by : (n : ℕ) → n ≤ 4 → Fine (heard-by n).heard.refusal
      unfolding looked behind
      fine-by zero l = inl door
      fine-by (suc n) l = by-more W sent-so (heard-by n) (λ x. Fine x.heard.refusal) (λ e. look-fine n (omega (arith, l)) e) (λ e. fine-by n (omega (arith, l)))

      not-refused : given.refusal ≡ 0
      unfolding feed_segment passed_of
      not-refused = ⊎_elim (λ y. rw y) (λ y. rw y) (fine-by 4 (omega arith))

      -- ---- and it moves

      down-more : (n : ℕ) → length (heard-by n).heard.down ≤ length (heard-by (suc n)).heard.down
      unfolding looked behind
      down-more n =
          by-more W sent-so (heard-by n) (λ x. length (heard-by n).heard.down ≤ length x.heard.down)
          (λ e. omega (arith, length-append (heard-by n).heard.down (look_on W sent-so (heard-by n)).heard.down)) (λ e. omega arith)

      down-first : p ≤ k → k < p + length g.bytes → 0 < length (heard-by 1).heard.down
      unfolding looked behind
      down-first a b =
          let K = kept_in S in
          let c : length (line-by 0).down ≡ k = omega (arith, (front_by 0 (omega arith)).1, (front_by 0 (omega arith)).2, line-long) in
          let f = (front_by 0 (omega arith)).0 in
          let w = window 0 (omega arith) in
          let some = due-some B s way_of call p number part fits (line-by 0) f w.0 w.1 0 (omega (arith, a, c)) (omega (arith, b, c)) f.held in
          let due-one : length (due_of W sent-so K) ≡ 0 → ⊥ = λ y. some (ap length (sym (due-by 0)) ∙ y) in
          let on : eqb (verdict (door_rules W sent-so K)) 0 ≡ true = eq-eqb (verdict (door_rules W sent-so K)) 0 door in
          let q = feed-taken L lists K.flow (fit-by 0) (due_of W sent-so K) (feed-fits 0 (omega arith) on some) no_words in
          let m = (each-feed W K.flow (offset_of K.flow) (due_of W sent-so K) no_words).moves q (omega (arith, due-one)) (omega arith) in
          rw (more-on W sent-so (heard-by 0) on, look-busy W sent-so K no_words due-one) (omega (arith, fed-down W sent-so K no_words, m))

      moves-on : p ≤ k → k < p + length g.bytes → k < to
      unfolding feed_segment
      moves-on a b = omega (arith, down-first a b, down-more 1, down-more 2, down-more 3)

  -- ---- a disk

  record Good (D : Disk) : Type 0 where
    at : ℕ
    ready : Ready D.state at
    lines_are : kept D ≡ lines_to L B at

  -- lines and a state that counts them
  good-by : (S ts : List ℕ) (k : ℕ) → ts ≡ lines_to L B k → Ready S k → Good (record { lines = ts; state = S })
  good-by S ts k e r = record { at = k; ready = r; lines_are = rw (r.lines_are, e) (take-length (lines_to L B k)) }

  ready-offset : (S : List ℕ) (k : ℕ) → Ready S k → flow_offset S ≡ k
  ready-offset S k r = ap (λ (n : ℕ). n % whole_numbers) (held-offset (lasting S) k r.holds) ∙ omega (arith, r.holds.inside, short)

  offset-is : (D : Disk) (q : Good D) → specs.passed D ≡ q.at
  offset-is D q = ready-offset D.state q.at q.ready

  -- ---- a turn

  module _ (D : Disk) (q : Good D) (g : Segment) (w : Sends B s D g) where
    abbrev S₁ : List ℕ
    S₁ = numbered g.start D.state

    abbrev S₂ : List ℕ
    S₂ = renew_on S₁

    first-ready : Ready S₁ q.at × (word_at S₁ kind_at ≡ 1 → ⊥)
    first-ready =
        ready-numbered D.state q.at g.start q.ready (omega (arith, w.number))
        (λ y. w.number ∙ ap (λ (n : ℕ). (s + n) % circle) (w.begins y) ∙ omega arith)

    then_ready : Ready S₂ q.at × (word_at S₂ kind_at ≡ 1 → ⊥) × (offset_of (flow_of S₂) ≤ near)
    then_ready = renew-ready S₁ q.at first-ready.0 first-ready.1

    near_by : (q.at ≤ w.from + reach) × (w.from ≤ q.at + reach)
    near_by = (omega (arith, w.behind, offset-is D q), omega (arith, w.before, offset-is D q))

    abbrev G : Given
    G = given S₂ q.at then_ready.0 then_ready.1 g w.from w.number w.bytes w.short near_by.0 near_by.1

    abbrev turn_by : Bool → Turn
    turn_by t = cond t (lines_turn true G.pairs G.done G.moved G.again G.words G.saved g.start) (last_turn G.refusal G.saved)

    not_end : is_end D.state true (length g.bytes) ≡ false
    unfolding is_end
    not_end = rw (ne_eqb (word_at D.state kind_at) 0 q.ready.not-bytes) (go (eqb (length g.bytes) 0))
      where
        go : (b : Bool) → cond b false false ≡ false
        go true = refl
        go false = refl

    turn-by : turn_on L D g ≡ turn_by (eqb G.refusal 0)
    unfolding turn_of feed_turn
    turn-by =
        rw (not_end, given_is S₂ q.at then_ready.0 then_ready.1 g w.from w.number w.bytes w.short near_by.0 near_by.1)

    abbrev after_by : Turn → Disk
    after_by t = cond t.last D (record { lines = kept D ++ t.text; state = t.saved })

    good_turn : (t : Bool) → Good (after_by (turn_by t))
    unfolding is_told
    good_turn false = q
    good_turn true =
        let i = told-then S₂ q.at then_ready.0 then_ready.1 g w.from w.number w.bytes w.short near_by.0 near_by.1 in
        good-by _ _ (to S₂ q.at then_ready.0 then_ready.1 g w.from w.number w.bytes w.short near_by.0 near_by.1)
        (ap (λ (xs : List ℕ). xs ++ text S₂ q.at then_ready.0 then_ready.1 g w.from w.number w.bytes w.short near_by.0 near_by.1) q.lines_are ∙ sym i)
        (ready-then S₂ q.at then_ready.0 then_ready.1 g w.from w.number w.bytes w.short near_by.0 near_by.1 G.moved)

    good-after : Good (after (turn_on L) D (turned g))
    unfolding after
    good-after = rw turn-by (good_turn (eqb G.refusal 0))

    -- it is not the last, and one that brings the next byte moves
    module _ (lists : verdict (list_rules L) ≡ 0) where
      is-lines : turn_on L D g ≡ turn_by true
      is-lines =
          turn-by
          ∙ ap turn_by
          (eq-eqb G.refusal 0
          (not-refused S₂ q.at then_ready.0 then_ready.1 g w.from w.number w.bytes w.short near_by.0 near_by.1 lists then_ready.2))

      stays : (turn_on L D g).last ≡ false
      stays = ap (λ (t : Turn). t.last) is-lines

      moves : w.from ≤ specs.passed D → specs.passed D < w.from + length g.bytes → specs.passed D < specs.passed (after (turn_on L) D (turned g))
      unfolding after is_told
      moves a b =
          let o = offset-is D q in
          let m =
          moves-on S₂ q.at then_ready.0 then_ready.1 g w.from w.number w.bytes w.short near_by.0 near_by.1 lists then_ready.2 (omega (arith, a, o)) (omega (arith, b, o)) in
          let t : flow_offset (turn_by true).saved ≡ to S₂ q.at then_ready.0 then_ready.1 g w.from w.number w.bytes w.short near_by.0 near_by.1 =
          ready-offset _ _ (ready-then S₂ q.at then_ready.0 then_ready.1 g w.from w.number w.bytes w.short near_by.0 near_by.1 G.moved) in
          let l : specs.passed D < to S₂ q.at then_ready.0 then_ready.1 g w.from w.number w.bytes w.short near_by.0 near_by.1 = omega (arith, o, m) in
          rw is-lines (subst (λ (n : ℕ). specs.passed D < n) (sym t) l)

  good-cut : (D : Disk) → Good D → (x : List ℕ) → Good (after (turn_on L) D (cut x))
  unfolding after
  good-cut D q x =
      let w : take (long_at D.state lines_at) (kept D ++ x) ≡ lines_to L B q.at = rw (q.lines_are, q.ready.lines_are) (take-append_seam (lines_to L B q.at) x) in
      record { at = q.at; ready = q.ready; lines_are = w }

  good-all : (D : Disk) → Good D → (es : List (Event Segment)) → AllSent L B s D es → Good (after_all (turn_on L) D es)
  unfolding after_all
  good-all D q [] h = q
  good-all D q (turned g ∷ es) h = good-all (after (turn_on L) D (turned g)) (good-after D q g h.0) es h.1
  good-all D q (cut x ∷ es) h = good-all (after (turn_on L) D (cut x)) (good-cut D q x) es h

  -- ---- the opening

  good-begun : Good (begun L segments_kind)
  unfolding looks
  good-begun =
      let text = (lines_turn true (first_pairs L B segments_kind z) 0 0 false (first_words L B segments_kind z) (begun_state L B segments_kind z) 0).text in
      let t : text ≡ lines_to L B 0 = opening-text L B segments_kind z in
      let m =
      marks-opened (opened L) 0 (length text) (opened-long L B segments_kind z) (omega (arith, ap length t, lines-few 0 (omega arith))) (marks-fresh L segments_kind (omega arith)) in
      let c = came-none L no_record no_words z s H (zeros-bytes held_size) in
      rw (opening-is L B segments_kind z)
      (good-by _ text 0 t
      (ready_by 0 m
      (record {
        words = [];
        seen = [];
        came = rw (begins L no_record no_words z).1 at c;
        front = front-begun B s H (length-replicate {A = ℕ} held_size 0);
        inside = omega arith;
      })
      (omega (arith, ap length t)) (λ y. omega (arith, y)) (λ y. refl) (λ y. absurd (y refl))))

  -- ---- what a reader is told

  heard : verdict (list_rules L) ≡ 0 → (D : Disk) → Good D → specs.Heard L B s D
  unfolding turn_of is_end
  heard lists D q =
      let o = offset-is D q in
      let k : long_at D.state before_at + offset_of (flow_of D.state) ≡ q.at = held-offset (lasting D.state) q.at q.ready.holds in
      record {
        within = rw o q.ready.holds.inside;
        lines = rw o q.lines_are;
        next = λ y. next-number s (long_at D.state before_at) (offset_of (flow_of D.state)) (specs.passed D) (short_at D.state first_at) (q.ready.numbers y) (k ∙ sym o);
        none = λ y. o ∙ q.ready.untouched y;
        stays = λ g w. stays D q g w lists;
        moves = λ g w a b. moves D q g w lists a b;
        ended = λ start rest. rw o (ap (λ (xs : List ℕ). xs ++ last_line 0 q.at) q.lines_are);
      }

pub segments-killed : SegmentsKilled
segments-killed L B z h n f s l es w =
    let rules = open_rules L no_record no_words in
    let v : verdict rules ≡ 0 = sym (opening-refusal rules (open_pairs L) (opened L) no_record no_words) ∙ z in
    let u : verdict (list_rules L) ≡ 0 = passes-front (list_rules L) _ (passes-front (first_rules L no_record) _ v) in
    heard L B z h n f s l u (after_all (turn_on L) (begun L segments_kind) es) (good-all L B z h n f s l (begun L segments_kind) (good-begun L B z h n f s l) es w)
