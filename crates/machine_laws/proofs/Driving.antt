-- The driver: what its calls answered and left is what the demands say; the feeds made so far are the witness. Assumes nothing.
use Prim.Native.Nat.{ℕ, zero, suc, ◌+◌, ◌-◌, ◌*◌, ◌≤◌, ◌<◌}
use mathlib.Core.Path.{◌≡◌, refl, sym, ap, subst, ◌∙◌}
use mathlib.Core.List.{List, [], ◌∷◌, ◌++◌, append-nil, append_assoc}
use native.Mathlib.Omega.{arith}
use native.Mathlib.Nat.{zero-add}
use native.Mathlib.Decide.{ℕ_discrete}
use lib.ListN.{length, take, drop, get_or, set, length-append, length-set}
use lib.Seq.{length-take-le, take-append-add, take-append-le, take-take, take-add}
use borrow.Rule.Slice.PartMut.{mid_of, put_mid, post_of, same_len_mid, mid_len}
use Rattle.rules.specs.Rules.{verdict}
use Rattle.rules.specs.Words.{InWords}
use Rattle.feed.specs.Engine.{Outcome}
use Rattle.feed.specs.Calls.{Bytes, record_after, all_told, all_bytes, Along, Pieces, outcome, asked}
use Rattle.feed.specs.Fed.{Answers}
use Rattle.feed.specs.Opening.{Opens}
use Rattle.feed.specs.Made.{Made, made, Promised, calls_of}
use Rattle.feed.specs.Demands.{open_told, OneFeed}
use Rattle.feed.specs.declared.Fed.{Fed}
use Rattle.feed.specs.declared.Opened.{Opened}
use Rattle.feed.proofs.Calls.{along-more, pieces_more, after_more, eaten-more, told_more}
use Rattle.feed.proofs.Feeds.{each-feed}
use Rattle.feed.proofs.Made.{as-defined, pieces-calls}
use Rattle.machine.specs.Machine.{machine_refusal}
use Rattle.machine.specs.Extended.{extended_open, feed_rules, extended_feed}
use Rattle.machine.specs.Words.{feed_words}
use Rattle.machine_laws.specs.Calls.{Call, way_of}
use Rattle.machine_laws.specs.Demands.{By, Demand2Opened}
use Rattle.machine_laws.specs.Drivers.{piece_of, does, outcome_of, numbers_of, all_numbers, AsSaid, Turned, OneMade, Driven}
use Rattle.machine_laws.specs.declared.Standing.{Standing}
use Rattle.machine_laws.proofs.Demand1.{demand-1, open-once}
use Rattle.machine_laws.proofs.Demand2.{demand-2-opened}

-- what is written at a place comes behind the front up to there
put_next : (xs : List ℕ) (n a : ℕ) → n < length xs → take (suc n) (set xs n a) ≡ take n xs ++ (a ∷ [])
put_next [] n a h = absurd (omega arith)
put_next (x ∷ xs) zero a h = refl
put_next (x ∷ xs) (suc n) a h = ap (λ (ys : List ℕ). x ∷ ys) (put_next xs n a (omega arith))

-- four numbers written one after another
pub put_four : (xs : List ℕ) (n a b c d : ℕ) → n + 4 ≤ length xs
    → take (n + 4) (set (set (set (set xs n a) (n + 1) b) (n + 2) c) (n + 3) d) ≡ take n xs ++ (a ∷ (b ∷ (c ∷ (d ∷ []))))
put_four xs n a b c d h =
    let l = length-set xs n a in
    let m = length-set (set xs n a) (n + 1) b in
    let k = length-set (set (set xs n a) (n + 1) b) (n + 2) c in
    let e1 : suc n ≡ n + 1 = omega arith in
    let e2 : suc (n + 1) ≡ n + 2 = omega arith in
    let e3 : suc (n + 2) ≡ n + 3 = omega arith in
    let e4 : suc (n + 3) ≡ n + 4 = omega arith in
    let p1 : take (n + 1) (set xs n a) ≡ take n xs ++ (a ∷ []) = rw e1 at (put_next xs n a (omega arith)) in
    let p2 : take (n + 2) (set (set xs n a) (n + 1) b) ≡ take (n + 1) (set xs n a) ++ (b ∷ []) = rw e2 at (put_next (set xs n a) (n + 1) b (omega arith)) in
    let p3 : take (n + 3) (set (set (set xs n a) (n + 1) b) (n + 2) c) ≡ take (n + 2) (set (set xs n a) (n + 1) b) ++ (c ∷ []) = rw e3 at (put_next (set (set xs n a) (n + 1) b) (n + 2) c (omega arith)) in
    let p4 : take (n + 4) (set (set (set (set xs n a) (n + 1) b) (n + 2) c) (n + 3) d) ≡ take (n + 3) (set (set (set xs n a) (n + 1) b) (n + 2) c) ++ (d ∷ []) = rw e4 at (put_next (set (set (set xs n a) (n + 1) b) (n + 2) c) (n + 3) d (omega arith)) in
    p4 ∙ rw (p3, p2, p1) (simp append_assoc)

-- ---- one feed of a part of the stream, with a part of the words

module _ (M P R : List ℕ) (at : ℕ) (stream : List ℕ) (so : Standing) (e : ℕ) (ws : List ℕ) (v : ℕ) (begins : so.bytes ≤ e) (ends : e ≤ length stream) (low : so.words ≤ v) (high : v ≤ length ws) where
  abbrev piece : List ℕ
  piece = mid_of so.bytes (e - so.bytes) stream

  abbrev out : List ℕ
  out = mid_of so.words (v - so.words) ws

  bytes_most : (extended_feed M P R at piece out).bytes ≤ length piece
  bytes_most =
      let f = each-feed (way_of (record { moves = M; programs = P })) R at piece out in
      elim (ℕ_discrete (verdict (feed_rules M P R at piece)) 0) [ yes z ↦ (f.longest z).front | no n ↦ omega (arith, ap (λ (o : Outcome). o.bytes) (f.refused n).1) ]

  -- what is consumed and told is few
  pub turned-fits : (f : Fed) (ys Q : List ℕ) → Answers (extended_feed M P R at piece out) f ys Q → (so.bytes + f.bytes ≤ length stream) × (so.words + 2 * f.pairs ≤ length ws)
  turned-fits f ys Q a = (
    omega (arith, a.bytes, bytes_most, mid_len so.bytes e stream ends),
    omega (arith, a.pairs, (each-feed (way_of (record { moves = M; programs = P })) R at piece out).pairs-fit, mid_len so.words v ws high),
  )

  pub turned : (i : ℕ) (ns : List ℕ) (f : Fed) (ys ms Q : List ℕ) → Answers (extended_feed M P R at piece out) f ys Q → take (4 * i + 4) ms ≡ take (4 * i) ns ++ numbers_of f
      → Turned (record { by = record { moves = M; programs = P }; at = at; piece = piece; out = out }) R stream so ws i ns
      (record { bytes = so.bytes + f.bytes; words = so.words + 2 * f.pairs }) (put_mid so.words (v - so.words) ws ys) ms Q
  turned i ns f ys ms Q a noted =
      let o = each-feed (way_of (record { moves = M; programs = P })) R at piece out in
      let t = turned-fits f ys Q a in
      let few : f.bytes ≤ e - so.bytes = omega (arith, a.bytes, bytes_most, mid_len so.bytes e stream ends) in
      let fit : 2 * f.pairs ≤ length ys = omega (arith, a.pairs, o.pairs-fit, o.words-many, ap length a.words) in
      let before : length (take so.words ws) ≡ so.words = length-take-le so.words ws (omega arith) in
      let l : length (put_mid so.words (v - so.words) ws ys) ≡ length ws = same_len_mid so.words (v - so.words) ws ys (ap length a.words ∙ o.words-many) in
      record {
        fed = f;
        words = ys;
        answers = a;
        eaten = take-add so.bytes f.bytes stream ∙ ap (λ (bs : List ℕ). take so.bytes stream ++ bs) (sym (take-take f.bytes (e - so.bytes) (drop so.bytes stream) few));
        told =
            rw before at (take-append-add (take so.words ws) (ys ++ post_of so.words (v - so.words) ws) (2 * f.pairs))
            ∙ ap (λ (zs : List ℕ). take so.words ws ++ zs) (take-append-le (2 * f.pairs) ys (post_of so.words (v - so.words) ws) fit);
        noted = noted;
        short = t.0;
        room = omega (arith, t.1, l);
      }

-- ---- any number of them

numbers_more : (ms : List (Made Call)) (m : Made Call) → all_numbers (ms ++ (m ∷ [])) ≡ all_numbers ms ++ numbers_of m.fed
numbers_more [] m = append-nil (numbers_of m.fed)
numbers_more (d ∷ ms) m = ap (λ (ns : List ℕ). numbers_of d.fed ++ ns) (numbers_more ms m) ∙ sym (append_assoc (numbers_of d.fed) (all_numbers ms) (numbers_of m.fed))

said_more : (M P starts : List ℕ) (k : ℕ) (ms : List (Made Call)) (m : Made Call) → AsSaid M P starts k ms
    → (m.call.by.moves ≡ M) × (m.call.by.programs ≡ P) × (m.call.at ≡ get_or starts (k + length ms) 0) → AsSaid M P starts k (ms ++ (m ∷ []))
said_more M P starts k [] m h s = let e : k + 0 ≡ k = omega arith in (rw e at s, tt)
said_more M P starts k (j ∷ ms) m h s = (h.0, said_more M P starts (suc k) ms m h.1 (rw (next k (length ms)) s))
  where
    next : (a b : ℕ) → suc a + b ≡ a + suc b
    next a b = omega arith

module _ (M P starts B begun stream : List ℕ) where
  -- i feeds by M and P so far, from the record B on: they state the first starts, and what they answered, consumed, told and left is what the code has
  pub record Led (i : ℕ) (so : Standing) (ws ns Q : List ℕ) : Type 0 where
    pub feeds : List (Made Call)
    pub many : length feeds ≡ i
    pub said : AsSaid M P starts 0 feeds
    pub in_bytes : Pieces (made piece_of) feeds
    pub promised : Promised piece_of does B feeds
    pub noted : take (4 * i) ns ≡ all_numbers feeds
    pub eaten : take so.bytes stream ≡ all_bytes (made piece_of) B feeds
    pub told : take so.words ws ≡ begun ++ all_told (made piece_of) B feeds
    pub left : Q ≡ record_after (made piece_of) B feeds

  pub led-none : (so : Standing) (ws ns : List ℕ) → so.bytes ≡ 0 → take so.words ws ≡ begun → Led 0 so ws ns B
  unfolding record_after all_told all_bytes
  led-none so ws ns z t = record { feeds = []; many = refl; said = tt; in_bytes = tt; promised = tt; noted = refl; eaten = rw z; told = t ∙ sym (append-nil begun); left = refl }

  pub led-more : (i : ℕ) (so : Standing) (ws ns Q : List ℕ) (at : ℕ) (piece out : List ℕ) (r : Standing) (vs ms R : List ℕ) → Led i so ws ns Q → at ≡ get_or starts i 0 → Bytes piece
      → Turned (record { by = record { moves = M; programs = P }; at = at; piece = piece; out = out }) Q stream so ws i ns r vs ms R → Led (i + 1) r vs ms R
  led-more i so ws ns Q at piece out r vs ms R k e h t =
      let m : Made Call = record { call = record { by = record { moves = M; programs = P }; at = at; piece = piece; out = out }; fed = t.fed; words = t.words; saved = R } in
      let fs = k.feeds in
      let ask = made piece_of in
      let four : 4 * (i + 1) ≡ 4 * i + 4 = omega arith in
      record {
        feeds = fs ++ (m ∷ []);
        many = rw length-append (omega (arith, k.many));
        said = said_more M P starts 0 fs m k.said (rw (zero-add (length fs), k.many) (refl, refl, e));
        in_bytes = pieces_more ask m fs k.in_bytes h;
        promised = along-more ask m _ B fs k.promised (rw k.left at t.answers);
        noted = rw four (t.noted ∙ ap (λ (xs : List ℕ). xs ++ numbers_of t.fed) k.noted ∙ sym (numbers_more fs m));
        eaten = t.eaten ∙ ap (λ (bs : List ℕ). bs ++ take t.fed.bytes piece) k.eaten ∙ sym (eaten-more ask m B fs);
        told =
            t.told ∙ ap (λ (xs : List ℕ). xs ++ take (2 * t.fed.pairs) t.words) k.told ∙ append_assoc begun (all_told ask B fs) (take (2 * t.fed.pairs) t.words)
            ∙ ap (λ (xs : List ℕ). begun ++ xs) (sym (told_more ask m B fs));
        left = sym (after_more ask m B fs);
      }

-- ---- the demands of them

-- what opening tells fits the words
pub open-fits : (M P R out : List ℕ) (f : Opened) (vs Q : List ℕ) → Opens (extended_open M P R out) f vs Q → 2 * f.pairs ≤ length vs
open-fits M P R out f vs Q a = let d = open-once M P R out in rw (a.pairs, a.words) (omega (arith, d.pairs-fit, d.words-many))

-- what is answered and left as promised is the outcome
outcome-made : (o : Outcome) (m : Made Call) → Answers o m.fed m.words m.saved → o ≡ outcome_of m
outcome-made o m a =
    let f = m.fed in
    ap {B = Outcome} (λ (n : ℕ). record { refusal = n; bytes = o.bytes; pairs = o.pairs; all = o.all; words = o.words; saved = o.saved }) (sym a.refusal)
    ∙ ap {B = Outcome} (λ (n : ℕ). record { refusal = f.refusal; bytes = n; pairs = o.pairs; all = o.all; words = o.words; saved = o.saved }) (sym a.bytes)
    ∙ ap {B = Outcome} (λ (n : ℕ). record { refusal = f.refusal; bytes = f.bytes; pairs = n; all = o.all; words = o.words; saved = o.saved }) (sym a.pairs)
    ∙ rw (sym a.all, sym a.words, sym a.saved)

each-one : (M P starts S : List ℕ) (k : ℕ) (ms : List (Made Call)) → AsSaid M P starts k ms → Promised piece_of does S ms → Along (made piece_of) (OneMade M P) S ms
each-one M P starts S k [] s p = tt
each-one M P starts S k (m ∷ ms) s p = (one, each-one M P starts m.saved (suc k) ms s.1 p.1)
  where
    said : InWords (feed_words M P S m.call.at m.call.piece) (outcome way_of S m.call).refusal
    said =
        subst (λ (y : List ℕ). InWords (feed_words M y S m.call.at m.call.piece) (outcome way_of S m.call).refusal) s.0.1
        (subst (λ (x : List ℕ). InWords (feed_words x m.call.by.programs S m.call.at m.call.piece) (outcome way_of S m.call).refusal) s.0.0 (demand-1.feeds-said S m.call))

    fed : OneFeed (way_of (record { moves = M; programs = P })) S m.call.at m.call.piece m.call.out (outcome way_of S m.call)
    fed =
        subst (λ (y : List ℕ). OneFeed (way_of (record { moves = M; programs = y })) S m.call.at m.call.piece m.call.out (outcome way_of S m.call)) s.0.1
        (subst (λ (x : List ℕ). OneFeed (way_of (record { moves = x; programs = m.call.by.programs })) S m.call.at m.call.piece m.call.out (outcome way_of S m.call)) s.0.0 (demand-1.feeds S m.call))

    one : OneMade M P S m
    one = (
      subst (λ (n : ℕ). InWords (feed_words M P S m.call.at m.call.piece) n) (sym p.0.refusal) said,
      subst (λ (o : Outcome). OneFeed (way_of (record { moves = M; programs = P })) S m.call.at m.call.piece m.call.out o) (outcome-made (outcome way_of S m.call) m p.0) fed,
    )

said-by : (M P starts S : List ℕ) (k : ℕ) (ms : List (Made Call)) → AsSaid M P starts k ms → Along (asked way_of) (By M P) S (calls_of ms)
said-by M P starts S k [] s = tt
said-by M P starts S k (m ∷ ms) s = (λ v. (s.0.0, s.0.1), said-by M P starts (outcome way_of S m.call).saved (suc k) ms s.1)

pub driven : (M P starts R out stream : List ℕ) (n checked : ℕ) (f : Opened) (vs B : List ℕ) (r : Standing) (ws ns Q : List ℕ) → Bytes M → Bytes P → checked ≡ machine_refusal M P
    → Opens (extended_open M P R out) f vs B → Led M P starts B (take (2 * f.pairs) vs) stream n r ws ns Q
    → Driven M P starts R out n checked f (take (4 * n) ns) (take r.bytes stream) (take r.words ws) Q
driven M P starts R out stream n checked f vs B r ws ns Q hm hp e a k =
    let S = (extended_open M P R out).saved in
    let g : Led M P starts S (open_told (extended_open M P R out)) stream n r ws ns Q = rw (a.saved, a.pairs, a.words) at k in
    let s = as-defined piece_of does S g.feeds g.promised in
    let d : f.refusal ≡ 0 → Demand2Opened M P (extended_open M P R out) (calls_of g.feeds) =
    (λ z. demand-2-opened M P hm hp R out (sym a.refusal ∙ z) (calls_of g.feeds) (pieces-calls piece_of does g.feeds g.in_bytes) (said-by M P starts S 0 g.feeds g.said)) in
    record {
      checks = rw e (demand-1.checks-said M P);
      opens = rw a.refusal (demand-1.opens-said M P R out);
      feeds = g.feeds;
      many = g.many;
      said = g.said;
      noted = g.noted;
      promised = g.promised;
      each = each-one M P starts S 0 g.feeds g.said g.promised;
      consumed = sym g.eaten;
      told = sym g.told;
      left = sym g.left;
      demand = d;
      due = λ z. rw (g.eaten, g.told, s.bytes, s.words) (d z).flows.due;
      config = λ z. rw (g.left, g.eaten, s.left, s.bytes) (d z).flows.config;
      offset = λ z. rw (g.left, g.eaten, s.left, s.bytes) (d z).flows.offset;
    }
