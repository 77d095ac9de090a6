-- Laws of the state's parts, its checksum, and the texts of a turn. Assumes nothing.
use Rattle.std.proofs.Common.{◌≡◌, ℕ, Option, Some, None, ◌+◌, ◌-◌, ◌*◌, ◌%◌, ◌<◌, ◌≤◌, Bool, true, false, eqb, List, [], ◌∷◌, ◌++◌, length, get_or, take, drop, sym, refl, ap, ◌∙◌, append_assoc, append-nil, add-one, arith, length-drop, drop_of_length-le, length-take, take-suc, eq-eqb, ne_eqb, le-leb}
use lib.Seq.{take-length}
use borrow.Author.Tests.{lt-leb}
use Rattle.io.specs.Counts.{IsPrefixLen}
use Rattle.numbers.specs.Number.{placed, digits}
use Rattle.numbers.proofs.Placing.{placed-fits}
use Rattle.segment.specs.Resend.{circle, held_size}
use Rattle.feed.specs.Fed.{Answers}
use Rattle.feed.specs.declared.Fed.{Fed}
use Rattle.feed.proofs.Feeds.{each-feed}
use Rattle.list_flow.specs.Flow.{flow_size, offset_of}
use Rattle.list_feed.specs.Plain.{plain_feed}
use Rattle.list_renew.specs.Renewal.{renewal, Renews}
use Rattle.segment_feed.specs.Ways.{plain_way, plain_segment}
use Rattle.segment_feed.specs.Post.{Hears, sent, kept}
use Rattle.segment_feed.specs.declared.Heard.{Heard}
use Rattle.segment_feed.proofs.Looking.{segment-fits}
use Rattle.program_text.specs.Text.{most_digits, line_size, decimal, line, last_line, Puts}
use Rattle.program_text.proofs.Texts.{puts_none, puts-after, puts-less}
use Rattle.program_turn.specs.State.{kept_state, whole_numbers, long_at, word_at, short_at, flow_of, held_of, flow_offset, kind_at, first_at, held_start_at, held_length_at, before_at, flow_at, held_at, near, plus_number, numbered, renew_on, sum_from}
use Rattle.program_turn.specs.Turn.{Gives, Says, plain_given, segment_given, given_of, passed_of, over_of, lines_from, again_word, again_of, sent_again, last_turn}
use Rattle.program_turn.specs.declared.Given as given

-- a part that is put over a whole array
pub taken : (S part : List ℕ) (at m r : ℕ) (left : List ℕ) → at + length part ≤ length S
    → Puts m (take (at + length part - at) (drop at S)) part 0 r left → left ≡ take (length part) (drop at S)
taken S part at m r left l p =
    let d : at + length part - at ≡ length part = omega arith in
    let xs = take (length part) (drop at S) in
    let n : length xs ≡ length part = length-take (length part) (drop at S) ∙ omega (arith, l, length-drop at S) in
    let z : length part ≤ 0 + length xs = omega (arith, n) in
    let q : left ≡ placed part 0 xs = rw d at p.2 in
    q ∙ placed-fits part 0 xs (omega (arith, n)) ∙ rw (drop_of_length-le part {i = 0 + length xs} z) (append-nil xs)

-- one byte more
pub sum-append : (s : ℕ) (xs ys : List ℕ) → sum_from s (xs ++ ys) ≡ sum_from (sum_from s xs) ys
unfolding sum_from
sum-append s [] ys = refl
sum-append s (x ∷ xs) ys = sum-append ((s * 257 + x) % 4294967291) xs ys

pub sum-next : (L : List ℕ) (i s r : ℕ) → i < length L → s ≡ sum_from 0 (take i L) → r ≡ (s * 257 + get_or L i 0) % 4294967291 → r ≡ sum_from 0 (take (i + 1) L)
unfolding sum_from
sum-next L i s r l e q =
    let t : take (i + 1) L ≡ take i L ++ (get_or L i 0 ∷ []) = ap (λ (k : ℕ). take k L) (add-one i) ∙ take-suc L i 0 l in
    rw (t, sum-append 0 (take i L) (get_or L i 0 ∷ []), ← e) q

pub sum-all : (L : List ℕ) (i s : ℕ) → i ≡ length L → s ≡ sum_from 0 (take i L) → s ≡ sum_from 0 L
sum-all L i s e h = h ∙ rw (e, take-length L)

-- one line more
pub puts-line-from : (before : ℕ) (ws text : List ℕ) (i at : ℕ) (left : List ℕ) (next : ℕ) (end : List ℕ) (k : ℕ) → line_size * (i + 1) ≤ length text
    → k ≡ (before + get_or ws (2 * i + 1) 0) % whole_numbers
    → Puts (line_size * i) (lines_from before ws i) text 0 at left → Puts line_size (line (get_or ws (2 * i) 0) k) left at next end
    → Puts (line_size * (i + 1)) (lines_from before ws (i + 1)) text 0 next end
unfolding lines_from
puts-line-from before ws text i at left next end k l q p r =
    let e : line_size * (i + 1) ≡ line_size * i + line_size = omega arith in
    rw (e, ap (λ (n : ℕ). lines_from before ws n) (add-one i), ← q)
    (puts-after (line_size * i) line_size (lines_from before ws i) (line (get_or ws (2 * i) 0) k) text 0 at left next end (omega arith) p r)

-- ---- what is done to a state

pub plus-is : (S : List ℕ) (at n v w : ℕ) (T : List ℕ) → v ≡ long_at S at → w ≡ (v + n) % whole_numbers → T ≡ placed S at (digits 8 8 w) → T ≡ plus_number S at n
plus-is S at n v w T a b e = e ∙ rw (b, a)

pub numbered-not : (start : ℕ) (S : List ℕ) (b : Bool) → b ≡ eqb (word_at S kind_at) 1 → b ≡ false → S ≡ numbered start S
unfolding numbered
numbered-not start S b e h = rw (sym e ∙ h)

pub numbered_is : (start : ℕ) (S : List ℕ) (b : Bool) (n : ℕ) (T U : List ℕ) → b ≡ eqb (word_at S kind_at) 1 → b ≡ true → n ≡ 2 → T ≡ placed S first_at (digits 8 4 start)
    → U ≡ placed T kind_at (digits 8 4 n) → U ≡ numbered start S
unfolding numbered
numbered_is start S b n T U e h m t u = rw (sym e ∙ h) (u ∙ rw (t, m))

pub kept-is : (S flow held : List ℕ) (start n : ℕ) (T U Y W : List ℕ) → T ≡ placed S flow_at flow → U ≡ placed T held_at held
    → Y ≡ placed U held_start_at (digits 8 4 start) → W ≡ placed Y held_length_at (digits 8 4 n) → W ≡ kept_state S flow held start n
kept-is S flow held start n T U Y W t u v w = w ∙ rw (v, u, t)

-- by the part of a state that the record is
module _ (S F : List ℕ) (n : ℕ) (part : F ≡ take n (drop flow_at S)) (size : n ≡ flow_size) (o : ℕ) (reads : o ≡ offset_of F) where
  whole : F ≡ flow_of S
  whole = part ∙ rw size

  reads-it : o ≡ offset_of (flow_of S)
  reads-it = reads ∙ ap offset_of whole

  pub offset-is : (b r : ℕ) → b ≡ long_at S before_at → r ≡ (b + o) % whole_numbers → r ≡ flow_offset S
  offset-is b r e q = q ∙ rw (e, reads-it)

  pub renew-far : o ≤ near → S ≡ renew_on S
  unfolding renew_on
  renew-far l = rw (le-leb (offset_of (flow_of S)) near (omega (arith, l, reads-it)))

  module _ (l : near < o) (r : ℕ) (Q : List ℕ) (renews : Renews F r Q) where
    refusal_is : r ≡ (renewal (flow_of S)).refusal
    refusal_is = renews.refusal ∙ ap (λ (R : List ℕ). (renewal R).refusal) whole

    pub renew-refused : (r ≡ 0 → ⊥) → S ≡ renew_on S
    unfolding renew_on
    renew-refused z = rw (lt-leb (offset_of (flow_of S)) near (omega (arith, l, reads-it)), ne_eqb (renewal (flow_of S)).refusal 0 (λ y. z (refusal_is ∙ y)))

    pub renew-is : (s w : ℕ) (T U Y : List ℕ) → r ≡ 0 → s ≡ short_at S first_at → w ≡ (s + o % circle) % circle
        → T ≡ placed S flow_at Q → U ≡ plus_number T before_at o → Y ≡ placed U first_at (digits 8 4 w) → Y ≡ renew_on S
    unfolding renew_on
    renew-is s w T U Y z e q t u v =
        let k : w ≡ (short_at S first_at + offset_of (flow_of S)) % circle = q ∙ rw (e, reads-it) (omega arith) in
        let p : Q ≡ (renewal (flow_of S)).saved = renews.saved ∙ ap (λ (R : List ℕ). (renewal R).saved) whole in
        rw (lt-leb (offset_of (flow_of S)) near (omega (arith, l, reads-it)), eq-eqb (renewal (flow_of S)).refusal 0 (sym refusal_is ∙ z))
        (v ∙ rw (k, u, t, p, reads-it))

  -- ---- what is fed

  pub gives-plain : (L rest out ws Q T : List ℕ) (f : Fed) → Answers (plain_feed L F o rest out) f ws Q → T ≡ placed S flow_at Q
      → (start : ℕ) → Gives (plain_given L S rest out) start (record { refusal = f.refusal; pairs = f.pairs; done = f.bytes; moved = f.bytes; again = None }) ws T
  gives-plain L rest out ws Q T f a t start =
      let b : Answers (plain_feed L (flow_of S) (offset_of (flow_of S)) rest out) f ws Q = rw (reads-it, whole) at a in
      let e = each-feed (plain_way L) (flow_of S) (offset_of (flow_of S)) rest out in
      record {
        refusal = b.refusal;
        pairs = b.pairs;
        done = b.bytes;
        moved = b.bytes;
        again = refl;
        words = b.words;
        saved = t ∙ rw b.saved;
        fits = omega (arith, b.pairs, ap length b.words, e.words-many, e.pairs-fit);
      }

-- a segment
pub gives-segment : (L S F H : List ℕ) (n m : ℕ) → F ≡ take n (drop flow_at S) → n ≡ flow_size → H ≡ take m (drop held_at S) → m ≡ held_size
    → (first place len start : ℕ) → first ≡ short_at S first_at → place ≡ short_at S held_start_at → len ≡ short_at S held_length_at
    → (bytes out ws Q J T : List ℕ) (h : Heard) → Hears (plain_segment L (sent first start bytes) (kept F H place len) out) h ws Q J
    → T ≡ kept_state S Q J h.start h.length → (p d v : ℕ) → p ≡ passed_of h.refusal → d ≡ over_of h.all h.refusal (length bytes)
    → v ≡ over_of h.all h.refusal (length bytes + 6) → (again : Option ℕ) → again ≡ sent_again (eqb h.refusal 18) start
    → Gives (segment_given L S start bytes out) start (record { refusal = p; pairs = h.pairs; done = d; moved = v; again = again }) ws T
gives-segment L S F H n m f fn g gm first place len start a b c bytes out ws Q J T h k t p d v q r s again x =
    let F-is : F ≡ flow_of S = f ∙ rw fn in
    let H-is : H ≡ held_of S = g ∙ rw gm in
    let w : Hears (plain_segment L (sent (short_at S first_at) start bytes) (kept (flow_of S) (held_of S) (short_at S held_start_at) (short_at S held_length_at)) out) h ws Q J =
    rw (F-is, H-is, a, b, c) at k in
    let fits = segment-fits (plain_way L) (sent (short_at S first_at) start bytes) (kept (flow_of S) (held_of S) (short_at S held_start_at) (short_at S held_length_at)) out in
    record {
      refusal = q ∙ ap passed_of w.refusal;
      pairs = w.pairs;
      done = r ∙ rw (w.all, w.refusal);
      moved = s ∙ rw (w.all, w.refusal);
      again = x ∙ ap (λ (n : ℕ). sent_again (eqb n 18) start) w.refusal;
      words = w.words;
      saved = t ∙ rw (w.flow, w.held, w.start, w.length);
      fits = omega (arith, w.pairs, ap length w.words, fits.0, fits.1);
    }

-- by the kind of the line
module _ (L S : List ℕ) (start : ℕ) (rest out ws T : List ℕ) (r : given.Given) (b : Bool) (e : b ≡ eqb (word_at S kind_at) 0) where
  pub by-plain : b ≡ true → Gives (plain_given L S rest out) start r ws T → Gives (given_of L S start rest out) start r ws T
  unfolding given_of
  by-plain z g = rw (sym e ∙ z) g

  pub by-segment : b ≡ false → Gives (segment_given L S start rest out) start r ws T → Gives (given_of L S start rest out) start r ws T
  unfolding given_of
  by-segment z g = rw (sym e ∙ z) g

-- ---- texts

pub again-none : (text : List ℕ) (at : ℕ) → at ≤ length text → Puts line_size [] text at at text
again-none text at l =
    let z : at + 0 ≡ at = omega arith in
    let p = puts_none text at l in
    (sym z, omega arith, p.2, refl)

pub again-line : (text : List ℕ) (at start : ℕ) (m a b d : ℕ) (T U Y : List ℕ) → at + line_size ≤ length text → m ≤ 6
    → Puts m again_word text at a T → Puts most_digits (decimal start) T a b U → Puts 1 (10 ∷ []) U b d Y → Puts line_size (again_of (Some start)) text at d Y
again-line text at start m a b d T U Y l k p q r =
    let x = puts-after m most_digits again_word (decimal start) text at a T b U (omega (arith, l, k)) p q in
    let y = puts-after (m + most_digits) 1 (again_word ++ decimal start) (10 ∷ []) text at b U d Y (omega (arith, l, k)) x r in
    rw (← append_assoc again_word (decimal start) (10 ∷ [])) (puts-less (m + most_digits + 1) line_size ((again_word ++ decimal start) ++ (10 ∷ [])) text at d Y (omega (arith, k)) y)

-- the last line
pub says_last : (S : List ℕ) (refusal at n : ℕ) (buffer : List ℕ) → at ≡ flow_offset S → IsPrefixLen n buffer → take n buffer ≡ last_line refusal at
    → Says (last_turn refusal S) (record { length = n; next = None; done = 0; again = None }) buffer S
says_last S refusal at n buffer e c t = record { last = refl; saving = refl; done = refl; counts = c; text = t ∙ rw e; saved = refl }
