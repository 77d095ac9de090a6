-- A live line of bytes that is killed at any time: what is kept after each event is the lines of the bytes before the place. Assumes nothing.
use Prim.Native.Nat.{ℕ, ◌+◌, ◌*◌, ◌-◌, ◌/◌, ◌%◌, ◌≤◌, ◌<◌}
use mathlib.Core.Path.{◌≡◌, refl, sym, ap, ◌∙◌}
use mathlib.Core.Bool.{Bool, true, false, cond}
use mathlib.Core.List.{List, [], ◌∷◌, ◌++◌, append-nil}
use mathlib.Core.Logic.{inl}
use native.Mathlib.Omega.{arith}
use lib.ListN.{length, take, drop, replicate, length-take, length-drop, length-append, drop_of_length-le}
use lib.Seq.{take-append_seam, take-take, take-length}
use lib.Dec.{eqb, leb}
use borrow.Author.Tests.{eqb-true, eqb-false, eq-eqb, ne_eqb, leb-true}
use Rattle.numbers.specs.Number.{num, placed}
use Rattle.rules.specs.Rules.{verdict}
use Rattle.rules.proofs.Rules.{passes-front}
use Rattle.segment.specs.Resend.{circle}
use Rattle.list.specs.List.{list_rules}
use Rattle.list.specs.Automaton.{start}
use Rattle.feed.specs.Engine.{Outcome, run, told}
use Rattle.feed.specs.Calls.{Bytes}
use Rattle.feed.proofs.Runs.{bytes_take, bytes_drop}
use Rattle.feed.proofs.Feeds.{each-feed}
use Rattle.feed.proofs.Opening.{opening-refusal}
use Rattle.list_flow.specs.Flow.{flow_size, frontier_of, offset_of}
use Rattle.list_flow.proofs.Records.{good-flow}
use Rattle.list_flow.specs.Opening.{open_pairs, first_rules, open_rules, opened, open_flow}
use Rattle.list_feed.specs.Plain.{plain, plain_feed}
use Rattle.list_renew.specs.Renewal.{renewal}
use Rattle.list_renew.proofs.Renewing.{renews, whole-renews, renewed-offset}
use Rattle.segment_feed.specs.Ways.{plain_way}
use Rattle.laws.specs.Calls.{Call, by_list}
use Rattle.laws.proofs.Due.{opened-frontier, opened-offset}
use Rattle.list_renew_laws.specs.Renewed.{raised, Flow, feeding, renewing}
use Rattle.list_renew_laws.proofs.Renewed.{At, act-done, at-start}
use Rattle.program_text.specs.Text.{last_line}
use Rattle.program_turn.specs.State.{state_size, whole_numbers, long_at, word_at, short_at, flow_of, flow_offset, kind_at, first_at, before_at, place_at, lines_at, flow_at, near, bytes_kind, plus_number, numbered, renew_on, renewed_state, fresh_state}
use Rattle.program_turn.specs.Turn.{Turn, most_unit, Given, no_words, no_record, lines_from, again_text, turn_text, is_told, is_end, plain_given, given_of, last_turn, lines_turn, feed_turn, turn_of}
use Rattle.program_live_laws.specs.Killed.{Disk, Event, turned, cut, place, kept, turn_at, after, after_all, begun, lines_to, Whole, Killed}
use Rattle.program_live_laws.proofs.Parts.{part-other, Parts, turned-parts, renewed-parts, fresh-size, fresh-kind, fresh-number}
use Rattle.program_live_laws.proofs.Feeding.{feed-taken}
use Rattle.program_live_laws.proofs.Opening.{first_words, first_pairs, begun_state, opened-long, opening-is, opening-text}
use Rattle.program_live_laws.proofs.Lines.{lines-told, told_next, frontier-more, lines_more}

module _ (L B : List ℕ) (bytes : Bytes B) (short : length B < whole_numbers) (few : length (lines_to L B (length B)) < whole_numbers) where
  -- the flow of a state
  abbrev flow : List ℕ → Flow
  flow S = record { before = long_at S before_at; saved = flow_of S }

  -- a state that stands k bytes into the line, with n bytes of lines
  record Ready (S : List ℕ) (k n : ℕ) : Type 0 where
    size : length S ≡ state_size
    kind : word_at S kind_at ≡ 0
    at : At L (flow S)
    frontier : frontier_of (flow_of S) ≡ run (plain L) (start L) (take k B)
    offset : long_at S before_at + offset_of (flow_of S) ≡ k
    place_is : long_at S place_at ≡ k
    lines_are : long_at S lines_at ≡ n

  -- by the parts that it is made with
  ready_by : (S T R : List ℕ) (b p l k n : ℕ) → Parts S T R b p l → word_at S kind_at ≡ 0 → At L (record { before = b; saved = R })
      → frontier_of R ≡ run (plain L) (start L) (take k B) → b + offset_of R ≡ k → p ≡ k → l ≡ n → Ready T k n
  ready_by S T R b p l k n q z a f o e g =
      record {
        size = q.size;
        kind = q.kind ∙ z;
        at = rw (q.before, q.flow) a;
        frontier = rw q.flow f;
        offset = rw (q.before, q.flow) o;
        place_is = q.place ∙ e;
        lines_are = q.lines ∙ g;
      }

  -- ---- a renewal

  module _ (S : List ℕ) (k n : ℕ) (l : k < whole_numbers) (r : Ready S k n) where
    abbrev anew : List ℕ
    anew = (renewal (flow_of S)).saved

    -- rule 4 takes the record, so it is renewed
    passes : (renewal (flow_of S)).refusal ≡ 0
    passes = whole-renews (flow_of S) r.at.fit.0

    abbrev since : ℕ
    since = offset_of (flow_of S)

    renewed-at : At L (record { before = long_at S before_at + since; saved = anew })
    renewed-at = rw (eq-eqb (renewal (flow_of S)).refusal 0 passes) at (act-done L (flow S) renewing (bytes_take 0 B bytes) tt r.at).at

    renewed-made : Parts S (renewed_state S) anew (long_at S before_at + since) (long_at S place_at) (long_at S lines_at)
    renewed-made =
        renewed-parts S anew r.size (good-flow anew renewed-at.fit.0).0 since ((short_at S first_at + since) % circle) (omega (arith, r.offset, l))

    renewed-ready : Ready (renewed_state S) k n
    unfolding run
    renewed-ready =
        let d = act-done L (flow S) renewing (bytes_take 0 B bytes) tt r.at in
        let m : long_at S before_at + since + offset_of anew ≡ long_at S before_at + since + 0 = rw (eq-eqb (renewal (flow_of S)).refusal 0 passes) at d.moved in
        ready_by S (renewed_state S) anew (long_at S before_at + since) (long_at S place_at) (long_at S lines_at) k n
        renewed-made r.kind renewed-at (d.frontier ∙ r.frontier) (omega (arith, m, r.offset)) r.place_is r.lines_are

    renew-ready : Ready (renew_on S) k n
    unfolding renew_on
    renew-ready = go (leb since near) (eqb (renewal (flow_of S)).refusal 0)
      where
        go : (a b : Bool) → Ready (cond a S (cond b (renewed_state S) S)) k n
        go true b = r
        go false false = r
        go false true = renewed-ready

    -- and then there is room for a unit before the largest offset
    renew-room : offset_of (flow_of (renew_on S)) ≤ near
    unfolding renew_on
    renew-room = go (leb since near) (eqb (renewal (flow_of S)).refusal 0) refl refl
      where
        go : (a b : Bool) → leb since near ≡ a → eqb (renewal (flow_of S)).refusal 0 ≡ b → offset_of (flow_of (cond a S (cond b (renewed_state S) S))) ≤ near
        go true b e f = leb-true since near e
        go false false e f = absurd (eqb-false (renewal (flow_of S)).refusal 0 f passes)
        go false true e f = rw (renewed-made.flow, renews (flow_of S) passes, renewed-offset (flow_of S)) (omega arith)

  -- ---- a feed, from a state that is renewed where it has to be

  -- no more lines than those of the whole line
  lines-few : (k : ℕ) → k ≤ length B → length (lines_to L B k) < whole_numbers
  lines-few k l =
      let e : k + (length B - k) ≡ length B = omega (arith, l) in
      let W = told_next L B k (length B - k) l in
      omega (arith, few, ap length (rw e at (lines_more L B k (length B - k) l)), length-append (lines_to L B k) (lines_from 0 W (length W / 2)))

  module _ (S : List ℕ) (k : ℕ) (within : k ≤ length B) (r : Ready S k (length (lines_to L B k))) (n : ℕ) where
    abbrev rest : List ℕ
    rest = take n (drop k B)

    abbrev o : Outcome
    o = plain_feed L (flow_of S) (offset_of (flow_of S)) rest no_words

    abbrev call : Call
    call = record { by = record { list = L; via = by_list }; at = offset_of (flow_of S); piece = rest; out = no_words }

    abbrev text : List ℕ
    text = turn_text (long_at (placed S flow_at o.saved) before_at) o.words o.pairs (is_told true false) 0

    abbrev to : ℕ
    to = k + o.bytes

    record Fed : Type 0 where
      inside : to ≤ length B
      told-so : lines_to L B to ≡ lines_to L B k ++ text
      ready : Ready (plus_number (plus_number (placed S flow_at o.saved) place_at o.bytes) lines_at (length text)) to (length (lines_to L B to))

    fed : o.refusal ≡ 0 → Fed
    unfolding is_told again_text
    fed z =
        let e = each-feed (plain_way L) (flow_of S) (offset_of (flow_of S)) rest no_words in
        let front : o.bytes ≤ length rest = (e.longest (e.passes.0 z).0).front in
        let many : length rest ≤ length B - k = omega (arith, length-take n (drop k B), length-drop k B) in
        let some : length rest ≤ n = omega (arith, length-take n (drop k B)) in
        let eaten : take o.bytes rest ≡ take o.bytes (drop k B) = take-take o.bytes n (drop k B) (omega (arith, front, some)) in
        let long : length (take o.bytes rest) ≡ o.bytes = length-take o.bytes rest ∙ omega (arith, front) in
        let d = act-done L (flow S) (feeding call) (bytes_take n (drop k B) (bytes_drop k B bytes)) (λ v. (refl, tt)) r.at in
        let W = told_next L B k o.bytes within in
        let F = run (plain L) (start L) (take k B) in
        let w : raised (long_at S before_at) (take (2 * o.pairs) o.words) ≡ W =
        d.tells
        ∙ ap (λ (x : ℕ). told (plain L) x (long_at S before_at + offset_of (flow_of S)) (take o.bytes rest)) r.frontier
        ∙ ap (λ (j : ℕ). told (plain L) F j (take o.bytes rest)) r.offset
        ∙ ap (told (plain L) F k) eaten in
        let to-frontier : frontier_of o.saved ≡ run (plain L) (start L) (take to B) =
        d.frontier
        ∙ ap (λ (x : ℕ). run (plain L) x (take o.bytes rest)) r.frontier
        ∙ ap (run (plain L) F) eaten
        ∙ sym (frontier-more L B k o.bytes within) in
        let size : length o.saved ≡ flow_size = (good-flow o.saved d.at.fit.0).0 in
        let b : long_at (placed S flow_at o.saved) before_at ≡ long_at S before_at =
        ap (num 8) (part-other S flow_at o.saved (omega (arith, size, r.size)) before_at 8 (inl (omega arith))) in
        let t : text ≡ lines_from 0 W (length W / 2) =
        append-nil (lines_from (long_at (placed S flow_at o.saved) before_at) o.words o.pairs)
        ∙ ap (λ (j : ℕ). lines_from j o.words o.pairs) b
        ∙ lines-told (long_at S before_at) o.words o.pairs W (omega (arith, e.pairs-fit, e.words-many)) w in
        let inside : to ≤ length B = omega (arith, front, many, within) in
        let all : lines_to L B to ≡ lines_to L B k ++ text = lines_more L B k o.bytes within ∙ rw t in
        let count : length (lines_to L B to) ≡ length (lines_to L B k) + length text = ap length all ∙ length-append (lines_to L B k) text in
        record {
          inside = inside;
          told-so = all;
          ready =
              ready_by S _ o.saved (long_at S before_at) (long_at S place_at + o.bytes) (long_at S lines_at + length text) to (length (lines_to L B to))
              (turned-parts S o.saved r.size size o.bytes (length text) (omega (arith, r.place_is, inside, short)) (omega (arith, r.lines_are, count, lines-few to inside)))
              r.kind d.at to-frontier
              (omega (arith, d.moved, r.offset, long)) (ap (λ (x : ℕ). x + o.bytes) r.place_is) (omega (arith, r.lines_are, count));
        }

  -- ---- a disk

  record Good (D : Disk) : Type 0 where
    inside : place D ≤ length B
    lines_are : kept D ≡ lines_to L B (place D)
    ready : Ready D.state (place D) (length (lines_to L B (place D)))

  -- lines and a state that counts them
  good-by : (S told-lines : List ℕ) (k : ℕ) → k ≤ length B → told-lines ≡ lines_to L B k → Ready S k (length (lines_to L B k)) → Good (record { lines = told-lines; state = S })
  good-by S ts k l e r =
      let p = r.place_is in
      let w : take (long_at S lines_at) ts ≡ lines_to L B k = rw (r.lines_are, e) (take-length (lines_to L B k)) in
      record { inside = rw p l; lines_are = rw p w; ready = rw p r }

  -- a turn
  module _ (D : Disk) (g : Good D) (n : ℕ) where
    abbrev k : ℕ
    k = place D

    abbrev S₂ : List ℕ
    S₂ = renew_on (numbered 0 D.state)

    stays : numbered 0 D.state ≡ D.state
    unfolding numbered
    stays = rw (ne_eqb (word_at D.state kind_at) 1 (λ y. omega (arith, y, g.ready.kind)))

    ready₂ : Ready S₂ k (length (lines_to L B k))
    ready₂ = rw stays (renew-ready D.state k (length (lines_to L B k)) (omega (arith, g.inside, short)) g.ready)

    abbrev G : Given
    G = plain_given L S₂ (take n (drop k B)) no_words

    -- a turn that ends, or whose feed is refused or not
    abbrev turn_by : Bool → Bool → Turn
    turn_by e z =
        cond e (last_turn 0 D.state) (cond z (lines_turn true G.pairs G.done G.moved G.again G.words G.saved 0) (last_turn G.refusal G.saved))

    turn-by : turn_at L B D n ≡ turn_by (is_end D.state true (length (take n (drop k B)))) (eqb G.refusal 0)
    unfolding turn_of feed_turn given_of
    turn-by = rw (eq-eqb (word_at S₂ kind_at) 0 ready₂.kind)

    abbrev after_by : Turn → Disk
    after_by t = cond t.last D (record { lines = kept D ++ t.text; state = t.saved })

    good_turn : (e z : Bool) → eqb G.refusal 0 ≡ z → Good (after_by (turn_by e z))
    good_turn true z q = g
    good_turn false false q = g
    good_turn false true q =
        let f = fed S₂ k g.inside ready₂ n (eqb-true G.refusal 0 q) in
        good-by _ _ (k + G.done) f.inside (ap (λ (xs : List ℕ). xs ++ text S₂ k g.inside ready₂ n) g.lines_are ∙ sym f.told-so) f.ready

    -- where bytes are left, it is not the last, and moves
    turn-goes : verdict (list_rules L) ≡ 0 → place D < length B → 0 < n → n ≤ most_unit → ((turn_at L B D n).last ≡ false) × (place D < place (after_by (turn_at L B D n)))
    unfolding is_end
    turn-goes z l p h =
        let rest = take n (drop k B) in
        let some : length rest ≡ 0 → ⊥ = λ y. omega (arith, y, length-take n (drop k B), length-drop k B, l, p) in
        let near_by : offset_of (flow_of S₂) ≤ near = rw stays (renew-room D.state k (length (lines_to L B k)) (omega (arith, g.inside, short)) g.ready) in
        let q : G.refusal ≡ 0 =
        feed-taken L z (flow_of S₂) ready₂.at.fit rest (omega (arith, near_by, h, length-take n (drop k B))) no_words in
        let t : turn_at L B D n ≡ turn_by false true = turn-by ∙ rw (ne_eqb (length rest) 0 some, eq-eqb G.refusal 0 q) in
        let f = fed S₂ k g.inside ready₂ n q in
        let e = each-feed (plain_way L) (flow_of S₂) (offset_of (flow_of S₂)) rest no_words in
        let m : 0 < G.done = e.moves q (omega (arith, some)) (omega arith) in
        rw t (refl, omega (arith, f.ready.place_is, m))

  good-event : (D : Disk) → Good D → (e : Event ℕ) → Good (after (turn_at L B) D e)
  unfolding after
  good-event D g (turned n) = rw (turn-by D g n) (good_turn D g n (is_end D.state true (length (take n (drop (place D) B)))) (eqb (G D g n).refusal 0) refl)
  good-event D g (cut x) =
      let w : take (long_at D.state lines_at) (kept D ++ x) ≡ lines_to L B (place D) =
      rw (g.lines_are, g.ready.lines_are) (take-append_seam (lines_to L B (place D)) x) in
      record { inside = g.inside; lines_are = w; ready = g.ready }

  good-all : (D : Disk) → Good D → (es : List (Event ℕ)) → Good (after_all (turn_at L B) D es)
  unfolding after_all
  good-all D g [] = g
  good-all D g (e ∷ es) = good-all (after (turn_at L B) D e) (good-event D g e) es

  -- ---- the opening

  good-begun : (open_flow L no_record no_words).refusal ≡ 0 → Good (begun L bytes_kind)
  unfolding run
  good-begun z =
      let F = fresh_state L bytes_kind (replicate state_size 0) in
      let text = (lines_turn true (first_pairs L B bytes_kind z) 0 0 false (first_words L B bytes_kind z) (begun_state L B bytes_kind z) 0).text in
      let t : text ≡ lines_to L B 0 = opening-text L B bytes_kind z in
      let zero-at : long_at F before_at ≡ 0 = fresh-number L bytes_kind before_at 8 refl in
      let zero-place : long_at F place_at ≡ 0 = fresh-number L bytes_kind place_at 8 refl in
      let zero-lines : long_at F lines_at ≡ 0 = fresh-number L bytes_kind lines_at 8 refl in
      let few₀ : length text < whole_numbers = omega (arith, ap length t, lines-few 0 (omega arith)) in
      let parts = turned-parts F (opened L) (fresh-size L bytes_kind) (opened-long L B bytes_kind z) 0 (length text) (omega (arith, zero-place)) (omega (arith, zero-lines, few₀)) in
      let a : At L (record { before = long_at F before_at; saved = opened L }) = rw zero-at (at-start L) in
      rw (opening-is L B bytes_kind z)
      (good-by _ text 0 (omega arith) t
      (ready_by F _ (opened L) (long_at F before_at) (long_at F place_at + 0) (long_at F lines_at + length text) 0 (length (lines_to L B 0))
      parts (fresh-kind L bytes_kind (omega arith)) a (opened-frontier L) (omega (arith, zero-at, opened-offset L)) (omega (arith, zero-place)) (omega (arith, zero-lines, ap length t))))

  -- at the end of the line
  last-text : (D : Disk) → Good D → flow_offset D.state ≡ place D → place D ≡ length B → (n : ℕ) → (turn_at L B D n).text ≡ last_line 0 (length B)
  unfolding turn_of is_end
  last-text D g o e n =
      let d : drop (place D) B ≡ [] = drop_of_length-le B {i = place D} (omega (arith, e)) in
      let z : length (take n (drop (place D) B)) ≡ 0 = omega (arith, length-take n (drop (place D) B), ap length d) in
      rw (eq-eqb (length (take n (drop (place D) B))) 0 z, eq-eqb (word_at D.state kind_at) 0 g.ready.kind) (ap (last_line 0) (o ∙ e))

  whole : verdict (list_rules L) ≡ 0 → (D : Disk) → Good D → Whole L B D
  unfolding after
  whole v D g =
      let k : long_at D.state before_at + offset_of (flow_of D.state) ≡ place D = g.ready.offset in
      let m : place D % whole_numbers ≡ place D = omega (arith, g.inside, short) in
      let o : flow_offset D.state ≡ place D = rw k m in
      record {
        within = g.inside;
        offset = o;
        lines = g.lines_are;
        goes = λ l n p h. turn-goes D g n v l p h;
        ended = λ e n. rw (g.lines_are, last-text D g o e n) (ap (λ (j : ℕ). lines_to L B j ++ last_line 0 (length B)) e);
      }

pub killed : Killed
killed L B z h s f es =
    let rules = open_rules L no_record no_words in
    let v : verdict rules ≡ 0 = sym (opening-refusal rules (open_pairs L) (opened L) no_record no_words) ∙ z in
    let u : verdict (list_rules L) ≡ 0 = passes-front (list_rules L) _ (passes-front (first_rules L no_record) _ v) in
    whole L B h s f u (after_all (turn_at L B) (begun L bytes_kind) es) (good-all L B h s f (begun L bytes_kind) (good-begun L B h s f z) es)
