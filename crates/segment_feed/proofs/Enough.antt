-- Four looks are enough for a segment: any number more hear the same. Assumes nothing.
use Rattle.std.proofs.Common.{◌≡◌, ℕ, zero, suc, ◌+◌, ◌-◌, ◌*◌, ◌%◌, ◌<◌, ◌≤◌, Bool, true, false, cond, not, ◌&&◌, ◌||◌, eqb, ltb, List, [], ◌++◌, length, take, drop, sym, refl, ap, ◌∙◌, true≢false, arith, length-drop, length-take, le-ltb, lt-ltb, eqb-true}
use native.Mathlib.Decide.{dec_lt}
use borrow.Author.Tests.{eqb-false}
use Rattle.rules.proofs.Scanning.{and-false, both, neither}
use Rattle.rules.specs.Rules.{verdict}
use Rattle.rules.proofs.Rules.{passes-front}
use Rattle.feed.specs.Engine.{most_offset, run, costs, ended}
use Rattle.feed.specs.Calls.{Way, fed_by}
use Rattle.feed.proofs.Whole.{by-feed}
use Rattle.list_flow.specs.Flow.{feed_rules}
use Rattle.list_flow.proofs.Records.{offset-flow}
use Rattle.list_flow.proofs.Passing.{feed-passes}
use Rattle.table.specs.Table.{Table, rising_rules}
use Rattle.segment.specs.Resend.{circle, half, most_segment, held_size, distance, ahead, has_next, all_before, bad_sizes, early, up_to, Held, taking, due}
use Rattle.segment.proofs.Circle.{distance_back, distance-leads}
use Rattle.segment.proofs.Parts.{has-bound, sizes-good, up-to-most, due-bad, due-held, due-seg, due-none, refuses, take-refused, take-kept, take-other}
use Rattle.segment.proofs.Streams.{before-not-next, ahead-not-next, neither-ahead}
use Rattle.segment_feed.specs.Segment.{Sent, Kept, Look, next_of, take_of, due_of, look, behind, more, looked, most_looks}
use Rattle.segment_feed.specs.Ways.{plain_way, split_way}
use Rattle.segment_feed.proofs.Looking.{by-look, look-idle, by-more, more-off}

-- ---- how many looks a segment can still need

-- the held part has the next byte: it, the segment behind it, and nothing; the segment has: its part up to the held one, and then that; or its part, and nothing
unfoldable pub need : ℕ → ℕ → ℕ → ℕ → ℕ → ℕ
need next p n q s = cond (has_next next p n) 3 (cond (has_next next q s) (cond (ltb 0 n && ahead next p) 4 2) 1)

need-some : (next p n q s : ℕ) → 0 < need next p n q s
unfolding need
need-some next p n q s = go (has_next next p n) (has_next next q s) (ltb 0 n && ahead next p)
  where
    go : (a b c : Bool) → 0 < cond a 3 (cond b (cond c 4 2) 1)
    go true b c = omega arith
    go false true true = omega arith
    go false true false = omega arith
    go false false c = omega arith

need-most : (next p n q s : ℕ) → need next p n q s ≤ 4
unfolding need
need-most next p n q s = go (has_next next p n) (has_next next q s) (ltb 0 n && ahead next p)
  where
    go : (a b c : Bool) → cond a 3 (cond b (cond c 4 2) 1) ≤ 4
    go true b c = omega arith
    go false true true = omega arith
    go false true false = omega arith
    go false false c = omega arith

-- ---- k bytes on

on-from : (p next k : ℕ) → distance p ((next + k) % circle) ≡ (distance p next + k) % circle
unfolding distance
on-from p next k = omega arith

-- a number that lies a little behind is not ahead
behind-not-ahead : (p x n : ℕ) → p < circle → x < circle → distance p x ≡ n → 0 < n → n ≤ held_size → ahead x p ≡ false
unfolding ahead
behind-not-ahead p x n lp lx e h l =
    let d : distance x p ≡ circle - n = distance_back p x lp lx (omega (arith, e)) ∙ ap (λ (k : ℕ). circle - k) e in
    rw (d, lt-ltb 0 (circle - n) (omega arith), le-ltb (circle - n) half (omega arith))

module _ (next : ℕ) (held : List ℕ) (p n q : ℕ) (seg : List ℕ) (ln : next < circle) (lp : p < circle) (lq : q < circle)
    (good : bad_sizes (length held) n (length seg) ≡ false) where
  sizes : (length held ≡ held_size) × (n ≤ held_size) × (length seg ≤ most_segment)
  sizes = sizes-good (length held) n (length seg) good

  -- all of the held part is passed down: fewer are needed
  held-fewer : has_next next p n ≡ true
      → (length (due next held p n q seg) ≡ n - distance p next) × (need ((next + (n - distance p next)) % circle) p n q (length seg) < need next p n q (length seg))
  unfolding need has_next
  held-fewer e =
      let z = sizes in
      let a = has-bound next p n e in
      let far : distance p ((next + (n - distance p next)) % circle) ≡ n = on-from p next (n - distance p next) ∙ omega (arith, z.1) in
      let back : ahead ((next + (n - distance p next)) % circle) p ≡ false = behind-not-ahead p ((next + (n - distance p next)) % circle) n lp (omega arith) far (omega arith) (omega (arith, z.1)) in (
        rw (due-held next held p n q seg good e, length-take (n - distance p next) (drop (distance p next) held), length-drop) (omega (arith, z.0, z.1)),
        rw (far, le-ltb n n (omega arith), e, back, and-false) (low (ltb (distance q ((next + (n - distance p next)) % circle)) (length seg))),
      )
    where
      low : (c : Bool) → cond c 2 1 < 3
      low true = omega arith
      low false = omega arith

  -- the segment's part is passed down, and no held part stands before its end: it is all before then
  seg-done : (m : ℕ) → has_next next q (length seg) ≡ true → m ≡ length seg - distance q next → has_next ((next + m) % circle) q (length seg) ≡ false
  unfolding has_next
  seg-done m g e =
      let z = sizes in
      let b = has-bound next q (length seg) g in
      let far : distance q ((next + m) % circle) ≡ length seg = on-from q next m ∙ omega (arith, z.2) in
      rw (far, le-ltb (length seg) (length seg) (omega arith))

  seg-length : has_next next p n ≡ false → has_next next q (length seg) ≡ true → length (due next held p n q seg) ≡ up_to next p n (length seg - distance q next)
  seg-length h g =
      rw (due-seg next held p n q seg good h g, length-take (up_to next p n (length seg - distance q next)) (drop (distance q next) seg), length-drop)
      (omega (arith, up-to-most next p n (length seg - distance q next)))

early-ahead : (next q s : ℕ) → early next q s ≡ true → ahead next q ≡ true
unfolding early
early-ahead next q s e = (both (ltb 0 s) (ahead next q) e).1

has_first : (p n : ℕ) → p < circle → 0 < n → has_next p p n ≡ true
unfolding has_next distance
has_first p n l h = lt-ltb ((p + (circle - p)) % circle) n (omega arith)

some-held : (next p n : ℕ) → all_before next p n ≡ false → 0 < n
unfolding all_before
some-held next p n e = let z = eqb-false n 0 (neither (eqb n 0) (not (ahead next p || has_next next p n)) e).0 in positive n z
  where
    positive : (n : ℕ) → (n ≡ 0 → ⊥) → 0 < n
    positive n z = elim (dec_lt 0 n) [ yes h ↦ h | no h ↦ absurd (z (omega arith)) ]

up-to-none : (next p m : ℕ) → up_to next p 0 m ≡ m
unfolding up_to
up-to-none next p m = refl

-- fewer bytes held are of a good size too
good_none : (h n s : ℕ) → bad_sizes h n s ≡ false → bad_sizes h 0 s ≡ false
unfolding bad_sizes
good_none h n s e = rw ((neither (ltb most_segment s || not (eqb h held_size)) (ltb held_size n) e).0, le-ltb held_size 0 (omega arith))

none_has : (next p : ℕ) → has_next next p 0 ≡ false
unfolding has_next
none_has next p = le-ltb (distance p next) 0 (omega arith)

-- the segment reaches up to the held part or not that far
cut-fewer : (next : ℕ) (held : List ℕ) (p n q : ℕ) (seg : List ℕ) → next < circle → p < circle → q < circle → bad_sizes (length held) n (length seg) ≡ false
    → 0 < n → ahead next p ≡ true → has_next next p n ≡ false → has_next next q (length seg) ≡ true
    → need ((next + up_to next p n (length seg - distance q next)) % circle) p n q (length seg) < need next p n q (length seg)
unfolding need up_to
cut-fewer next held p n q seg ln lp lq good h a f g = rw (f, g, lt-ltb 0 n h, a) (go (ltb (distance next p) (length seg - distance q next)) refl)
  where
    three : (c d : Bool) → cond c 3 (cond false (cond d 4 2) 1) < 4
    three true d = omega arith
    three false d = omega arith

    go : (b : Bool) → ltb (distance next p) (length seg - distance q next) ≡ b
        → let x = (next + cond b (distance next p) (length seg - distance q next)) % circle in
        cond (has_next x p n) 3 (cond (has_next x q (length seg)) (cond (ahead x p) 4 2) 1) < 4
    go true e =
        let w : has_next ((next + distance next p) % circle) p n ≡ true = rw (distance-leads next p ln lp) (has_first p n lp h) in
        rw w (omega arith)
    go false e =
        rw (seg-done next held p n q seg ln lp lq good (length seg - distance q next) g refl)
        (three (has_next ((next + (length seg - distance q next)) % circle) p n) (ahead ((next + (length seg - distance q next)) % circle) p))

-- the place is free, and all of the segment's part is passed down
freed-fewer : (next : ℕ) (held : List ℕ) (p n q : ℕ) (seg : List ℕ) → next < circle → p < circle → q < circle → bad_sizes (length held) n (length seg) ≡ false
    → all_before next p n ≡ true → has_next next q (length seg) ≡ true
    → need ((next + (length seg - distance q next)) % circle) p 0 q (length seg) < need next p n q (length seg)
unfolding need
freed-fewer next held p n q seg ln lp lq good b g =
    rw (
      none_has ((next + (length seg - distance q next)) % circle) p,
      seg-done next held p 0 q seg ln lp lq (good_none (length held) n (length seg) good) (length seg - distance q next) g refl,
      before-not-next next p n b,
      g,
    ) (two (ltb 0 n && ahead next p))
  where
    two : (c : Bool) → 1 < cond c 4 2
    two true = omega arith
    two false = omega arith

-- one look that passes down all that is due: fewer are needed after it
pub fewer : (next : ℕ) (held : List ℕ) (p n q : ℕ) (seg : List ℕ) → next < circle → p < circle → q < circle → bad_sizes (length held) n (length seg) ≡ false
    → let h = taking next held p n q seg in
    let d = due next h.bytes h.start h.length q seg in
    (length d ≡ 0 → ⊥) → (bad_sizes (length h.bytes) h.length (length seg) ≡ false) × (h.start < circle)
    × (need ((next + length d) % circle) h.start h.length q (length seg) < need next p n q (length seg))
fewer next held p n q seg ln lp lq good = go (refuses next held p n q seg) refl (early next q (length seg)) refl
  where
    Goal : Held → Type 0
    Goal h =
        (length (due next h.bytes h.start h.length q seg) ≡ 0 → ⊥) → (bad_sizes (length h.bytes) h.length (length seg) ≡ false) × (h.start < circle)
        × (need ((next + length (due next h.bytes h.start h.length q seg)) % circle) h.start h.length q (length seg) < need next p n q (length seg))

    begins : early next q (length seg) ≡ true → ahead next q ≡ true
    begins e = early-ahead next q (length seg) e

    not-seg : early next q (length seg) ≡ true → has_next next q (length seg) ≡ false
    not-seg e = ahead-not-next next q (length seg) ln lq (omega (arith, (sizes-good (length held) n (length seg) good).2)) (begins e)

    -- the place stays: the held part has the next byte
    has-held : (t : ℕ) → has_next next p n ≡ true → Goal (record { refusal = t; start = p; length = n; bytes = held })
    has-held t e z = let w = held-fewer next held p n q seg ln lp lq good e in (good, lp, rw w.0 w.1)

    -- nothing is due
    none : (h : Held) → due next h.bytes h.start h.length q seg ≡ [] → Goal h
    none h e z = absurd (z (ap length e))

    stays-early : (t : ℕ) → early next q (length seg) ≡ true → (a : Bool) → has_next next p n ≡ a → Goal (record { refusal = t; start = p; length = n; bytes = held })
    stays-early t f true e = has-held t e
    stays-early t f false e = none (record { refusal = t; start = p; length = n; bytes = held }) (due-none next held p n q seg good e (not-seg f))

    stays-late : early next q (length seg) ≡ false → all_before next p n ≡ false → (a : Bool) → has_next next p n ≡ a → (c : Bool) → has_next next q (length seg) ≡ c
        → Goal (record { refusal = 0; start = p; length = n; bytes = held })
    stays-late f b true e c g = has-held 0 e
    stays-late f b false e false g = none (record { refusal = 0; start = p; length = n; bytes = held }) (due-none next held p n q seg good e g)
    stays-late f b false e true g = λ z. (
      good,
      lp,
      rw (seg-length next held p n q seg ln lp lq good e g)
          (cut-fewer next held p n q seg ln lp lq good (some-held next p n b) (neither-ahead next p n e b) e g),
    )

    freed : early next q (length seg) ≡ false → all_before next p n ≡ true → (c : Bool) → has_next next q (length seg) ≡ c
        → Goal (record { refusal = 0; start = p; length = 0; bytes = held })
    freed f b false g =
        none (record { refusal = 0; start = p; length = 0; bytes = held })
        (due-none next held p 0 q seg (good_none (length held) n (length seg) good) (none_has next p) g)
    freed f b true g = λ z.
        let good0 = good_none (length held) n (length seg) good in
        let m = seg-length next held p 0 q seg ln lp lq good0 (none_has next p) g in (
          good0,
          lp,
          rw (m, up-to-none next p (length seg - distance q next)) (freed-fewer next held p n q seg ln lp lq good b g),
        )

    kept-none : early next q (length seg) ≡ true → (b : Bool) → bad_sizes (length (seg ++ drop (length seg) held)) (length seg) (length seg) ≡ b
        → Goal (record { refusal = 0; start = q; length = length seg; bytes = seg ++ drop (length seg) held })
    kept-none f true e = none (record { refusal = 0; start = q; length = length seg; bytes = seg ++ drop (length seg) held }) (due-bad next (seg ++ drop (length seg) held) q (length seg) q seg e)
    kept-none f false e =
        none (record { refusal = 0; start = q; length = length seg; bytes = seg ++ drop (length seg) held })
        (due-none next (seg ++ drop (length seg) held) q (length seg) q seg e (not-seg f) (not-seg f))

    go : (r : Bool) → refuses next held p n q seg ≡ r → (b : Bool) → early next q (length seg) ≡ b → Goal (taking next held p n q seg)
    go true e true f = rw (take-refused next held p n q seg e) (stays-early 18 f (has_next next p n) refl)
    go true e false f = absurd (true≢false (sym e ∙ rw (good, f)))
    go false e true f = rw (take-kept next held p n q seg e f) (kept-none f (bad_sizes (length (seg ++ drop (length seg) held)) (length seg) (length seg)) refl)
    go false e false f = late (all_before next p n) refl
      where
        late : (b : Bool) → all_before next p n ≡ b → Goal (taking next held p n q seg)
        late true b = rw (take-other next held p n q seg e f, b) (freed f b (has_next next q (length seg)) refl)
        late false b = rw (take-other next held p n q seg e f, b) (stays-late f b (has_next next p n) refl (has_next next q (length seg)) refl)

-- ---- more looks hear no more

-- a way that reads again the offset that it saved, up to the largest, and whose rules let no piece go past that
pub record Steady (W : Way) : Type 0 where
  pub reads : (x : W.Config) (k n : ℕ) → k ≤ most_offset → W.layout.offset (W.layout.save x k n) ≡ k
  pub short : (R : List ℕ) (at : ℕ) (piece : List ℕ) → verdict (W.rules R at piece) ≡ 0 → W.layout.offset R + length piece ≤ most_offset

-- sizes are good, and the held place has a number
abbrev pub Sized : Sent → Kept → Type 0
Sized g S = (bad_sizes (length S.held) S.length (length g.bytes) ≡ false) × (S.start < circle)

module _ (W : Way) (steady : Steady W) (g : Sent) where
  -- a feed that says all moves the offset by its whole piece
  fed-on : (R : List ℕ) (at : ℕ) (piece out : List ℕ) → (fed_by W R at piece out).all ≡ true → W.layout.offset (fed_by W R at piece out).saved ≡ W.layout.offset R + length piece
  unfolding ended
  fed-on R at piece out =
      by-feed (W.rules R at piece) W.engine W.layout R piece out (λ o. o.all ≡ true → W.layout.offset o.saved ≡ W.layout.offset R + length piece)
      (λ v n t.
      let all : length (take n piece) ≡ length piece = eqb-true (length (take n piece)) (length piece) t in
      steady.reads (run W.engine (W.layout.config R) (take n piece)) (W.layout.offset R + length (take n piece)) (W.layout.rows R + costs W.engine (W.layout.config R) (take n piece))
      (omega (arith, all, steady.short R at piece v))
      ∙ ap (λ (m : ℕ). W.layout.offset R + m) all)
      (λ v t. absurd (true≢false (sym t)))

  -- so a look that goes on moves it by all that was due
  look-on : (S : Kept) (out : List ℕ) → (look W g S out).on ≡ true → W.layout.offset (look W g S out).heard.kept.flow ≡ W.layout.offset S.flow + length (due_of W g S)
  look-on S out =
      by-look W g S out (λ l. l.on ≡ true → W.layout.offset l.heard.kept.flow ≡ W.layout.offset S.flow + length (due_of W g S))
      (λ e t. absurd (true≢false (sym t))) (λ e. fed-on S.flow (W.layout.offset S.flow) (due_of W g S) out)

module _ (W : Way) (steady : Steady W) (g : Sent) (lq : g.start < circle) where
  abbrev needs : Kept → ℕ
  needs S = need (next_of W g S) S.start S.length g.start (length g.bytes)

  -- a look that goes on: the sizes stay good, and fewer are needed
  on-fewer : (S : Kept) (out : List ℕ) → Sized g S → (look W g S out).on ≡ true
      → Sized g (look W g S out).heard.kept × (needs (look W g S out).heard.kept < needs S)
  on-fewer S out z t =
      let m = look-on W steady g S out t in
      let f = fewer (next_of W g S) S.held S.start S.length g.start g.bytes (omega arith) z.1 lq z.0 (busy-due t) in
      ((rw (kept-held, kept-length) f.0, rw kept-start f.1), rw (kept-start, kept-length, next-is m) f.2)
    where
      busy-due : (look W g S out).on ≡ true → length (due_of W g S) ≡ 0 → ⊥
      busy-due t e = true≢false (sym t ∙ ap (λ (l : Look). l.on) (look-idle W g S out e))

      kept-start : (look W g S out).heard.kept.start ≡ (take_of W g S).start
      kept-start = by-look W g S out (λ l. l.heard.kept.start ≡ (take_of W g S).start) (λ e. refl) (λ e. refl)

      kept-length : (look W g S out).heard.kept.length ≡ (take_of W g S).length
      kept-length = by-look W g S out (λ l. l.heard.kept.length ≡ (take_of W g S).length) (λ e. refl) (λ e. refl)

      kept-held : (look W g S out).heard.kept.held ≡ (take_of W g S).bytes
      kept-held = by-look W g S out (λ l. l.heard.kept.held ≡ (take_of W g S).bytes) (λ e. refl) (λ e. refl)

      next-is : W.layout.offset (look W g S out).heard.kept.flow ≡ W.layout.offset S.flow + length (due_of W g S)
          → next_of W g (look W g S out).heard.kept ≡ (next_of W g S + length (due_of W g S)) % circle
      next-is m = rw m (omega arith)

  -- while looks go on each needs one fewer
  going : (k : ℕ) (l : Look) → Sized g l.heard.kept → (looked k W g l).on ≡ true
      → Sized g (looked k W g l).heard.kept × (needs (looked k W g l).heard.kept + k ≤ needs l.heard.kept)
  unfolding looked behind
  going zero l z t = (z, omega arith)
  going (suc k) l z t =
      let a = looked k W g l in
      by-more W g (looked k W g l) (λ m. m.on ≡ true → Sized g m.heard.kept × (needs m.heard.kept + suc k ≤ needs l.heard.kept))
      (λ e t.
      let s = going k l z e in
      let q = on-fewer a.heard.kept (drop (2 * a.heard.pairs) a.heard.words) s.0 t in (q.0, omega (arith, q.1, s.1)))
      (λ e t. absurd (true≢false (sym t ∙ e))) t

  -- after four looks nothing is due, or a feed has not consumed all that was
  pub none-follows : (l : Look) → Sized g l.heard.kept → (looked most_looks W g l).on ≡ false
  none-follows l z = go (looked most_looks W g l).on refl
    where
      go : (b : Bool) → (looked most_looks W g l).on ≡ b → (looked most_looks W g l).on ≡ false
      go false e = e
      go true e =
          let S = (looked most_looks W g l).heard.kept in
          let f = (going most_looks l z e).1 in
          absurd (omega (
            arith,
            f,
            need-some (next_of W g S) S.start S.length g.start (length g.bytes),
            need-most (next_of W g l.heard.kept) l.heard.kept.start l.heard.kept.length g.start (length g.bytes),
          ))

  -- however many more looks there were, nothing more would be heard
  pub enough : (l : Look) → Sized g l.heard.kept → (k : ℕ) → looked (most_looks + k) W g l ≡ looked most_looks W g l
  unfolding looked
  enough l z zero = refl
  enough l z (suc k) =
      let e : most_looks + suc k ≡ suc (most_looks + k) = omega arith in
      ap (λ (n : ℕ). looked n W g l) e ∙ ap (more W g) (enough l z k) ∙ more-off W g (looked most_looks W g l) (none-follows l z)

-- ---- the ways

pub plain-steady : (L : List ℕ) → Steady (plain_way L)
plain-steady L = record { reads = offset-flow; short = λ R at piece v. (feed-passes L R at piece v).2 }

pub split-steady : (L : List ℕ) (b : ℕ) (T : Table) → Steady (split_way L b T)
split-steady L b T = record { reads = offset-flow; short = λ R at piece v. (feed-passes L R at piece (passes-front (feed_rules L R at piece) (rising_rules b T) v)).2 }
