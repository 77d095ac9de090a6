-- The drivers: what their calls answered and left is what the theorems say. Assumes nothing.
use Rattle.std.proofs.Common.{◌≡◌, ℕ, ◌+◌, ◌-◌, ◌*◌, ◌%◌, ◌<◌, ◌≤◌, Bool, true, false, List, [], ◌∷◌, ◌++◌, length, get_or, take, sym, refl, ap, ◌∙◌, ap₂, append_assoc, append-nil, add-one, arith, length-take-le, take_all, take-suc}
use lib.Seq.{take-append-add, take-append-le}
use borrow.Rule.Slice.PartMut.{mid_of, put_mid, post_of, same_len_mid, mid_len}
use Rattle.rules.specs.Rules.{Refuses}
use Rattle.rules.proofs.Rules.{refuses}
use Rattle.feed.specs.Calls.{Bytes, Way, Asked, record_after, all_told, Along}
use Rattle.feed.specs.Fed.{Answers}
use Rattle.feed.specs.declared.Fed.{Fed}
use Rattle.feed.specs.Opening.{Opens}
use Rattle.feed.specs.Demands.{open_told}
use Rattle.feed.specs.declared.Opened.{Opened}
use Rattle.feed.proofs.Calls.{along-more, after_more, told_more}
use Rattle.feed.proofs.Feeds.{each-feed}
use Rattle.feed.proofs.Opening.{opening-refusal}
use Rattle.list_flow.specs.Flow.{offset_of}
use Rattle.list_flow.specs.Opening.{open_rules, open_pairs, opened, open_flow}
use Rattle.list_feed.specs.Plain.{plain_feed}
use Rattle.table.specs.Table.{Table, table_refusal}
use Rattle.laws.proofs.Demand1.{demand-1}
use Rattle.laws.specs.Calls.{Call, Via, by_list, Checked, way_of, OnList}
use Rattle.segment.specs.Resend.{circle, taking, due}
use Rattle.segment.specs.Post.{Takes}
use Rattle.segment.specs.declared.Held.{Held}
use Rattle.segment_feed.specs.Segment as segment
use Rattle.segment_feed.specs.Segment.{Sent, Kept, Look, take_of, due_of, fed_of, kept_of, idle, busy, look, feed_segment}
use Rattle.segment_feed.specs.Post.{Hears, sent, kept}
use Rattle.segment_feed.specs.declared.Heard.{Heard}
use Rattle.segment_feed.specs.Calls.{handed, Fits, door_of}
use Rattle.segment_feed.specs.Streamed.{fresh, Far, whole, placed, torn, glancing}
use Rattle.segment_feed.proofs.Said.{refused-not-all, door-refused, taking-answers}
use Rattle.segment_feed.proofs.Looking.{look-idle, look-busy, segment-fits}
use Rattle.segment_drivers.specs.declared.Reach.{Reach}
use Rattle.segment_drivers.specs.Drivers.{SegmentKept, by_flag, numbers_of, Turned, far_by, SegmentsDriven, LooksDriven}
use Rattle.segment_drivers.specs.declared.Standing.{Standing}
use Rattle.segment_laws.proofs.Streams.{list-streams, list-restarts}

-- ---- one segment

-- by what its function promises, one is refused as the rules say, and answers no more than they do
pub segment-kept : (W : Way) (g : Sent) (S : Kept) (out : List ℕ) (h : Heard) (ws R J : List ℕ) → Hears (feed_segment W g S out) h ws R J → SegmentKept W g S out h ws R J
segment-kept W g S out h ws R J a =
    record {
      refused = λ z.
          let d = door-refused W g S out z in (
            a.refusal ∙ ap (λ (o : segment.Heard). o.refusal) d,
            a.bytes ∙ ap (λ (o : segment.Heard). length o.down) d,
            a.pairs ∙ ap (λ (o : segment.Heard). o.pairs) d,
            a.words ∙ ap (λ (o : segment.Heard). o.words) d,
            rw (a.flow, a.held, a.start, a.length) (ap (λ (o : segment.Heard). o.kept) d),
          );
      taken = λ z e. a.refusal ∙ taking-answers W g S out z e;
      not-all = λ z. a.all ∙ refused-not-all W g S out (λ y. z (a.refusal ∙ y));
      fits = (rw a.pairs (segment-fits W g S out).0, ap length a.words ∙ (segment-fits W g S out).1);
    }

-- ---- words behind those told

-- what is put at a part of the words, as far as it is told, stands behind the words before it
pub told-behind : (w n : ℕ) (xs ys : List ℕ) (k : ℕ) → w ≤ length xs → k ≤ length ys → take (w + k) (put_mid w n xs ys) ≡ take w xs ++ take k ys
told-behind w n xs ys k h l =
    let e : w ≡ length (take w xs) = sym (length-take-le w xs h) in
    ap (λ (m : ℕ). take (m + k) (take w xs ++ (ys ++ post_of w n xs))) e ∙ take-append-add (take w xs) (ys ++ post_of w n xs) k
    ∙ ap (λ (zs : List ℕ). take w xs ++ zs) (take-append-le k ys (post_of w n xs) l)

-- ---- a segment

module _ (L : List ℕ) (via : Via) (s : ℕ) (start : ℕ) (piece : List ℕ) (so : Standing) (v : ℕ) (ws R H : List ℕ) (low : so.words ≤ v) (high : v ≤ length ws) where
  abbrev pub segment_by : Call
  segment_by = record { by = record { list = L; via = via }; at = start; piece = piece; out = mid_of so.words (v - so.words) ws }

  pub turned-fits : (h : Heard) (ys Q J : List ℕ) → Hears (feed_segment (way_of (record { list = L; via = via })) (sent s start piece) (kept R H so.start so.length) (mid_of so.words (v - so.words) ws)) h ys Q J
      → so.words + 2 * h.pairs ≤ length ws
  turned-fits h ys Q J a =
      let f = segment-fits (way_of (record { list = L; via = via })) (sent s start piece) (kept R H so.start so.length) (mid_of so.words (v - so.words) ws) in
      omega (arith, f.0, a.pairs, mid_len so.words v ws high)

  pub turned : (h : Heard) (ys Q J : List ℕ) → Hears (feed_segment (way_of (record { list = L; via = via })) (sent s start piece) (kept R H so.start so.length) (mid_of so.words (v - so.words) ws)) h ys Q J
      → Turned (handed way_of s segment_by) (kept R H so.start so.length) so ws
      (record { start = h.start; length = h.length; words = so.words + 2 * h.pairs }) (put_mid so.words (v - so.words) ws ys) Q J
  turned h ys Q J a =
      let out = mid_of so.words (v - so.words) ws in
      let f = segment-fits (way_of (record { list = L; via = via })) (sent s start piece) (kept R H so.start so.length) (mid_of so.words (v - so.words) ws) in
      let m : length (mid_of so.words (v - so.words) ws) ≡ v - so.words = mid_len so.words v ws high in
      let n : length (put_mid so.words (v - so.words) ws ys) ≡ length ws = same_len_mid so.words (v - so.words) ws ys (ap length a.words ∙ f.1) in
      record {
        left = rw (a.flow, a.held, a.start, a.length);
        told = told-behind so.words (v - so.words) ws ys (2 * h.pairs) (omega arith) (omega (arith, f.0, f.1, a.pairs, ap length a.words)) ∙ rw (a.pairs, a.words);
        room = omega (arith, f.0, a.pairs, m, n);
      }

-- ---- any number of calls

numbers_more : {A : Type 0} (at : A → ℕ) (cs : List A) (c : A) → numbers_of at (cs ++ (c ∷ [])) ≡ numbers_of at cs ++ (at c ∷ [])
numbers_more at [] c = refl
numbers_more at (d ∷ cs) c = ap (λ (ns : List ℕ). at d ∷ ns) (numbers_more at cs c)

module _ {A : Type 0} (ask : A → Asked Kept) (at : A → ℕ) (P : Kept → A → Type 0) (numbers : List ℕ) (S : Kept) (begun : List ℕ) where
  -- i calls made so far, of each of which P holds: behind the words `begun` theirs are told, and what they leave is what the code left
  pub record Led (i : ℕ) (so : Standing) (ws Q H : List ℕ) : Type 0 where
    pub calls : List A
    pub sent : numbers_of at calls ≡ take i numbers
    pub fits : Along ask P S calls
    pub told : take so.words ws ≡ begun ++ all_told ask S calls
    pub left : kept Q H so.start so.length ≡ record_after ask S calls

  pub led-more : (i : ℕ) (so : Standing) (ws Q H : List ℕ) (c : A) (r : Standing) (vs R J : List ℕ) → Led i so ws Q H → i < length numbers → at c ≡ get_or numbers i 0
      → P (kept Q H so.start so.length) c → Turned (ask c) (kept Q H so.start so.length) so ws r vs R J → Led (i + 1) r vs R J
  led-more i so ws Q H c r vs R J k l e p t =
      record {
        calls = k.calls ++ (c ∷ []);
        sent = numbers_more at k.calls c ∙ rw (k.sent, e, add-one, take-suc numbers i 0);
        fits = along-more ask c P S k.calls k.fits (rw k.left at p);
        told =
            t.told ∙ rw (k.told, k.left) (append_assoc begun (all_told ask S k.calls) ((ask c).spoken (record_after ask S k.calls)))
            ∙ ap (λ (xs : List ℕ). begun ++ xs) (sym (told_more ask c S k.calls));
        left = t.left ∙ ap (ask c).left k.left ∙ sym (after_more ask c S k.calls);
      }

  pub led-none : (so : Standing) (ws Q H : List ℕ) → take so.words ws ≡ begun → kept Q H so.start so.length ≡ S → Led 0 so ws Q H
  unfolding record_after all_told
  led-none so ws Q H t l = record { calls = []; sent = refl; fits = tt; told = t ∙ sym (append-nil begun); left = l }

  -- and all of them
  pub led-all : (so : Standing) (ws Q H : List ℕ) (k : Led (length numbers) so ws Q H) → numbers_of at k.calls ≡ numbers
  led-all so ws Q H k = k.sent ∙ take_all (length numbers) numbers (omega arith)

-- what a feed tells fits the words behind those told, and what opening tells fits them all
pub fed-fits : (L R : List ℕ) (at : ℕ) (d : List ℕ) (w v : ℕ) (ws : List ℕ) → w ≤ v → v ≤ length ws → (f : Fed) (ys Q : List ℕ)
    → Answers (plain_feed L R at d (mid_of w (v - w) ws)) f ys Q → w + 2 * f.pairs ≤ length ws
fed-fits L R at d w v ws l h f ys Q a = omega (arith, (each-feed (way_of (record { list = L; via = by_list })) R at d (mid_of w (v - w) ws)).pairs-fit, a.pairs, mid_len w v ws h)

pub open-fits : (L R out : List ℕ) (f : Opened) (vs Q : List ℕ) → Opens (open_flow L R out) f vs Q → 2 * f.pairs ≤ length vs
open-fits L R out f vs Q a = let d = demand-1.opens L R out in rw (a.pairs, a.words) (omega (arith, d.pairs-fit, d.words-many))

-- an opening refuses as its rules say
open-refuses : (L R out : List ℕ) (f : Opened) (vs Q : List ℕ) → Opens (open_flow L R out) f vs Q → Refuses (open_rules L R out) f.refusal
open-refuses L R out f vs Q a =
    rw (a.refusal, opening-refusal (open_rules L R out) (open_pairs L) (opened L) R out) (refuses (open_rules L R out) refl)

-- ---- the driver of segments

-- i segments so far, from the words `begun` and what is kept on
abbrev pub Handing : List ℕ → ℕ → List ℕ → Kept → List ℕ → ℕ → Standing → List ℕ → List ℕ → List ℕ → Type 0
Handing L s numbers = Led (handed way_of s) (λ c. c.at) (λ S c. Fits (door_of way_of s S c ≡ 0 → OnList L c.by) c) numbers

module _ (L : List ℕ) (b : ℕ) (T : Table) (s : ℕ) (numbers : List ℕ) where
  -- one more, by the list or through the table, where the check accepts it
  pub handing-more : (S : Kept) (begun : List ℕ) (i : ℕ) (so : Standing) (ws Q H : List ℕ) (flag : Bool) (start : ℕ) (piece out : List ℕ) (r : Standing) (vs R J : List ℕ)
      → table_refusal L b T ≡ 0 → Handing L s numbers S begun i so ws Q H → i < length numbers → start ≡ get_or numbers i 0 → start < circle → Bytes piece
      → Turned (handed way_of s (record { by = record { list = L; via = by_flag flag b T }; at = start; piece = piece; out = out })) (kept Q H so.start so.length) so ws r vs R J
      → Handing L s numbers S begun (i + 1) r vs R J
  handing-more S begun i so ws Q H flag start piece out r vs R J ok k l e n h t =
      led-more (handed way_of s) (λ c. c.at) (λ S c. Fits (door_of way_of s S c ≡ 0 → OnList L c.by) c) numbers S begun i so ws Q H (record { by = record { list = L; via = by_flag flag b T }; at = start; piece = piece; out = out }) r vs R J k l e
      (record { number = n; bytes = h; fit = λ z. (refl, checked flag) }) t
    where
      checked : (flag : Bool) → Checked L (by_flag flag b T)
      checked true = ok
      checked false = tt

  pub segments-driven : (R out held : List ℕ) (checked : ℕ) (f : Opened) (vs Q : List ℕ) (r : Standing) (ws Z H : List ℕ) → checked ≡ table_refusal L b T → Opens (open_flow L R out) f vs Q → Bytes held
      → (checked ≡ 0 → Handing L s numbers (kept Q held 0 0) (take (2 * f.pairs) vs) (length numbers) r ws Z H) → SegmentsDriven L b T s numbers R out held checked f r ws Z H
  segments-driven R out held checked f vs Q r ws Z H e a hb k =
      record {
        checks = e;
        opens = open-refuses L R out f vs Q a;
        streams = λ z y.
            let g : Handing L s numbers (fresh (open_flow L R out) held) (open_told (open_flow L R out)) (length numbers) r ws Z H = rw (a.saved, a.pairs, a.words) at (k z) in
            record {
              calls = g.calls;
              sent = led-all _ _ _ _ _ _ _ _ _ _ g;
              holds = list-streams L R out (sym a.refusal ∙ y) s held hb g.calls g.fits;
              told = g.told;
              left = g.left;
            };
      }

-- ---- one look of a caller who is killed

module _ (L : List ℕ) (s start : ℕ) (piece : List ℕ) (so : Standing) (v : ℕ) (ws R H : List ℕ) (low : so.words ≤ v) (high : v ≤ length ws) (at next : ℕ) (h : Held) (J : List ℕ)
    (offset : at ≡ offset_of R) (number : next ≡ (s + at) % circle) (takes : Takes (taking next H so.start so.length start piece) h J) where
  abbrev W : Way
  W = way_of (record { list = L; via = by_list })

  abbrev g : Sent
  g = sent s start piece

  abbrev S : Kept
  S = kept R H so.start so.length

  abbrev out : List ℕ
  out = mid_of so.words (v - so.words) ws

  -- a look that came as far as t says
  abbrev Came : Far → Standing → List ℕ → List ℕ → Type 0
  Came t r vs Q = Turned (glancing way_of s (record { call = segment_by L by_list s start piece so v ws R H low high; far = t })) S so ws r vs Q J

  takes-here : Takes (take_of W g S) h J
  takes-here = rw (number, offset) at takes

  placed-here : kept R J h.start h.length ≡ kept_of W g S R
  placed-here = let t = takes-here in rw (t.bytes, t.start, t.length)

  pub glanced-torn : Came torn so ws R
  glanced-torn = record { left = rw takes-here.bytes; told = sym (append-nil (take so.words ws)); room = omega arith }

  pub glanced-placed : Came placed (record { start = h.start; length = h.length; words = so.words }) ws R
  glanced-placed = record { left = placed-here; told = sym (append-nil (take so.words ws)); room = omega arith }

  module _ (d : List ℕ) (dues : d ≡ due next J h.start h.length start piece) where
    due-here : d ≡ due_of W g S
    due-here = let t = takes-here in dues ∙ rw (number, offset, t.bytes, t.start, t.length)

    -- nothing is due
    pub glanced-none : length d ≡ 0 → Came whole (record { start = h.start; length = h.length; words = so.words }) ws R
    glanced-none e =
        let i : look W g S out ≡ idle W g S out = look-idle W g S out (ap length (sym due-here) ∙ e) in
        record {
          left = placed-here ∙ ap (λ (l : Look). l.heard.kept) (sym i);
          told = sym (append-nil (take so.words ws)) ∙ ap (λ (l : Look). take so.words ws ++ take (2 * l.heard.pairs) l.heard.words) (sym i);
          room = omega arith;
        }

    -- what is due is fed
    pub glanced-whole : (length d ≡ 0 → ⊥) → (f : Fed) (ys Q : List ℕ) → Answers (plain_feed L R at d out) f ys Q
        → Came whole (record { start = h.start; length = h.length; words = so.words + 2 * f.pairs }) (put_mid so.words (v - so.words) ws ys) Q
    glanced-whole n f ys Q given =
        let t = takes-here in
        let a : Answers (fed_of W g S out) f ys Q = rw (due-here, offset) at given in
        let o = each-feed W R (offset_of R) (due_of W g S) out in
        let m : length out ≡ v - so.words = mid_len so.words v ws high in
        let l : length (put_mid so.words (v - so.words) ws ys) ≡ length ws = same_len_mid so.words (v - so.words) ws ys (ap length a.words ∙ o.words-many) in
        let i : look W g S out ≡ busy W g S (fed_of W g S out) = look-busy W g S out (λ y. n (ap length due-here ∙ y)) in
        let left : kept Q J h.start h.length ≡ kept_of W g S (fed_of W g S out).saved = rw (a.saved, t.bytes, t.start, t.length) in
        record {
          left = left ∙ ap (λ (l : Look). l.heard.kept) (sym i);
          told =
              told-behind so.words (v - so.words) ws ys (2 * f.pairs) (omega arith) (omega (arith, o.pairs-fit, o.words-many, a.pairs, ap length a.words))
              ∙ ap₂ (λ (k : ℕ) (vs : List ℕ). take so.words ws ++ take (2 * k) vs) a.pairs a.words
              ∙ ap (λ (l : Look). take so.words ws ++ take (2 * l.heard.pairs) l.heard.words) (sym i);
          room = omega (arith, o.pairs-fit, a.pairs, m, l);
        }

-- ---- the driver of looks

-- i looks so far
abbrev pub Looking : List ℕ → ℕ → List ℕ → Kept → List ℕ → ℕ → Standing → List ℕ → List ℕ → List ℕ → Type 0
Looking L s numbers = Led (glancing way_of s) (λ v. v.call.at) (λ S v. Fits (OnList L v.call.by) v.call) numbers

module _ (L : List ℕ) (s : ℕ) (numbers : List ℕ) where
  pub looking-more : (S : Kept) (begun : List ℕ) (i : ℕ) (so : Standing) (ws Q H : List ℕ) (far : Reach) (start : ℕ) (piece out : List ℕ) (r : Standing) (vs R J : List ℕ)
      → Looking L s numbers S begun i so ws Q H → i < length numbers → start ≡ get_or numbers i 0 → start < circle → Bytes piece
      → Turned (glancing way_of s (record { call = record { by = record { list = L; via = by_list }; at = start; piece = piece; out = out }; far = far_by far })) (kept Q H so.start so.length) so ws r vs R J
      → Looking L s numbers S begun (i + 1) r vs R J
  looking-more S begun i so ws Q H far start piece out r vs R J k l e n h t =
      led-more (glancing way_of s) (λ v. v.call.at) (λ S v. Fits (OnList L v.call.by) v.call) numbers S begun i so ws Q H
      (record { call = record { by = record { list = L; via = by_list }; at = start; piece = piece; out = out }; far = far_by far }) r vs R J k l e
      (record { number = n; bytes = h; fit = (refl, tt) }) t

  pub looks-driven : (R out held : List ℕ) (f : Opened) (vs Q : List ℕ) (r : Standing) (ws Z H : List ℕ) → Opens (open_flow L R out) f vs Q → Bytes held
      → Looking L s numbers (kept Q held 0 0) (take (2 * f.pairs) vs) (length numbers) r ws Z H → LooksDriven L s numbers R out held f r ws Z H
  looks-driven R out held f vs Q r ws Z H a hb k =
      let g : Looking L s numbers (fresh (open_flow L R out) held) (open_told (open_flow L R out)) (length numbers) r ws Z H = rw (a.saved, a.pairs, a.words) at k in
      record {
        opens = open-refuses L R out f vs Q a;
        restarts = λ y.
            record {
              calls = g.calls;
              sent = led-all _ _ _ _ _ _ _ _ _ _ g;
              holds = list-restarts L R out (sym a.refusal ∙ y) s held hb g.calls g.fits;
              told = g.told;
              left = g.left;
            };
      }
