-- Looks at segments of a sender's flow: what they pass down is the front of it. Assumes nothing.
use Prim.Native.Nat.{ℕ, zero, suc, ◌+◌, ◌*◌, ◌-◌, ◌%◌, ◌≤◌, ◌<◌}
use mathlib.Core.Path.{◌≡◌, refl, sym, ap, ◌∙◌}
use mathlib.Core.Bool.{Bool, true, false, cond}
use mathlib.Core.Logic.{◌⊎◌, inl, inr, ⊎_elim}
use mathlib.Core.List.{List, [], ◌∷◌, ◌++◌}
use native.Mathlib.Omega.{arith}
use native.Mathlib.Decide.{dec_lt}
use lib.ListN.{length, take, drop, get_or, length-take, length-drop, length-append}
use lib.Seq.{get_or-take, get_or-drop, ext_get_or}
use lib.Dec.{ltb}
use borrow.Author.Tests.{le-ltb, lt-ltb, eq-eqb}
use Rattle.rules.proofs.Scanning.{and-false, both}
use Rattle.segment.specs.Resend.{circle, half, held_size, most_segment, distance, ahead, has_next, all_before, bad_sizes, early, up_to, Held, taking, due}
use Rattle.segment.proofs.Circle.{forward, backward, before_at}
use Rattle.segment.specs.Stream.{Line, Look, number_of, taken, passed, looking, looks, begun}
use Rattle.segment.proofs.Parts.{has-bound, up-to-most, up-to-some, due-short, due-bad, due-held, due-seg, due-none, refuses, take-refused, take-kept, take-other, kept-fits}
use Rattle.segment.proofs.Streams.{Stands, has-next-means, ahead-not-next, look-stands, begun-stands}
use Rattle.segment.proofs.Carried.{Brings, Firsts, look-firsts}
use Rattle.segment_feed.specs.Segment as segment
use Rattle.segment_feed.specs.Segment.{looked, look_on}
use Rattle.feed.specs.Calls.{Way, Call}
use Rattle.segment_feed.specs.Calls.{sent_of, look_as, looks_from}
use Rattle.segment_feed.proofs.Streams.{looks-append}
use Rattle.program_live_laws.specs.Segments.{reach}

-- a taken segment leaves a buffer of the same size, and a number
taking-sized : (next : ℕ) (held : List ℕ) (p n q : ℕ) (seg : List ℕ) → length held ≡ held_size → p < circle → q < circle
    → (length (taking next held p n q seg).bytes ≡ held_size) × ((taking next held p n q seg).start < circle)
taking-sized next held p n q seg z lp lq = go (refuses next held p n q seg) refl (early next q (length seg)) refl
  where
    go : (r : Bool) → refuses next held p n q seg ≡ r → (b : Bool) → early next q (length seg) ≡ b
        → (length (taking next held p n q seg).bytes ≡ held_size) × ((taking next held p n q seg).start < circle)
    go true e b f = rw (take-refused next held p n q seg e) (z, lp)
    go false e true f =
        let k = (kept-fits next held p n q seg e f).0 in
        rw (take-kept next held p n q seg e f) (length-append seg (drop (length seg) held) ∙ omega (arith, length-drop (length seg) held, z, k), lq)
    go false e false f = rw (take-other next held p n q seg e f) (z, lp)

-- ---- how far what is held and a segment lead

-- of n bytes from place a on, so many are left where c were passed down
abbrev rest : ℕ → ℕ → ℕ → ℕ
rest a n c = n - (c - a)

-- the held part is passed down, up to c'
held-sum : (c d place n : ℕ) → place ≤ c → c - place < n → c ≤ d → d ≤ c + (n - (c - place)) → d + (n - (d - place)) ≤ c + (n - (c - place))
held-sum c d place n a b l m = omega arith

less-left : (a n c d : ℕ) → c ≤ d → n - (d - a) ≤ n - (c - a)
less-left a n c d l = omega arith

none_left : (x y : ℕ) → 0 - x ≤ y
none_left x y = omega arith

-- two places of one number, both about c
one_place : (s a b c d n : ℕ) → (s + a) % circle ≡ (s + b) % circle → a < c + half → c ≤ a + n → b < d + half → d ≤ b + n → c ≤ d → d ≤ c + most_segment → n ≤ held_size → a ≡ b
one_place s a b c d n e p q r t u v w = omega (arith, e)

pub early-ahead : (next q n : ℕ) → early next q n ≡ true → ahead next q ≡ true
unfolding early
early-ahead next q n e = (both (ltb 0 n) (ahead next q) e).1

not-early : (next q n : ℕ) → ahead next q ≡ false → early next q n ≡ false
unfolding early
not-early next q n e = rw (e, and-false)

next-so : (next q n : ℕ) → distance q next < n → has_next next q n ≡ true
unfolding has_next
next-so next q n l = lt-ltb (distance q next) n l

pub good-sizes : (h n k : ℕ) → h ≡ held_size → n ≤ held_size → k ≤ most_segment → bad_sizes h n k ≡ false
unfolding bad_sizes
good-sizes h n k e l m = rw (le-ltb most_segment k m, eq-eqb h held_size e, le-ltb held_size n l)

none-next : (next p : ℕ) → has_next next p 0 ≡ false
unfolding has_next
none-next next p = le-ltb (distance p next) 0 (omega arith)

-- and no more is held than fits it
pub taking-long : (next : ℕ) (held : List ℕ) (p n q : ℕ) (seg : List ℕ) → length held ≡ held_size → n ≤ held_size
    → (length (taking next held p n q seg).bytes ≡ held_size) × ((taking next held p n q seg).length ≤ held_size)
taking-long next held p n q seg z l = go (refuses next held p n q seg) refl (early next q (length seg)) refl
  where
    free : (b : Bool) → cond b 0 n ≤ held_size
    free true = omega arith
    free false = l

    go : (r : Bool) → refuses next held p n q seg ≡ r → (b : Bool) → early next q (length seg) ≡ b
        → (length (taking next held p n q seg).bytes ≡ held_size) × ((taking next held p n q seg).length ≤ held_size)
    go true e b f = rw (take-refused next held p n q seg e) (z, l)
    go false e true f =
        let k = (kept-fits next held p n q seg e f).0 in
        rw (take-kept next held p n q seg e f) (length-append seg (drop (length seg) held) ∙ omega (arith, length-drop (length seg) held, z, k), k)
    go false e false f = rw (take-other next held p n q seg e f) (z, free (all_before next p n))

module _ (B : List ℕ) (s : ℕ) where
  -- the byte at a place of the flow
  abbrev pub Is : ℕ → ℕ → Type 0
  Is i v = (i < length B) × (get_or B i 0 ≡ v)

  -- what holds of a line between two looks
  pub record Front (W : Line) : Type 0 where
    pub place : ℕ
    pub stands : Stands s W place
    pub firsts : Firsts Is W
    pub held : length W.held ≡ held_size
    pub start : W.start < circle

  pub front-begun : (H : List ℕ) → length H ≡ held_size → Front (begun H)
  front-begun H z = record { place = 0; stands = begun-stands s H; firsts = λ i v e. absurd (omega (arith, e)); held = z; start = omega arith }

  -- so what was passed down is the front of the flow
  pub front-down : (W : Line) → Front W → (length W.down ≤ length B) × (W.down ≡ take (length W.down) B)
  front-down W f = (
    few,
    ext_get_or 0 W.down (take (length W.down) B) (sym (length-take (length W.down) B ∙ omega (arith, few)))
        (λ i l. sym (is i l).1 ∙ sym (get_or-take (length W.down) B i 0 l)),
  )
    where
      is : (i : ℕ) → i < length W.down → Is i (get_or W.down i 0)
      is i l = f.firsts i (get_or W.down i 0) (f.stands.told i l)

      few : length W.down ≤ length B
      few = elim (dec_lt 0 (length W.down)) [ yes h ↦ omega (arith, (is (length W.down - 1) (omega arith)).0) | no h ↦ omega arith ]

  -- ---- a segment of the flow, from place p on

  module _ {C : Type 0} (way : C → Way) (c : Call C) (p : ℕ) (number : c.at ≡ (s + p) % circle) (bytes : c.piece ≡ take (length c.piece) (drop p B))
      (short : length c.piece ≤ most_segment) where
    numbered-so : c.at < circle
    numbered-so = omega (arith, number)

    seg-byte : (j : ℕ) → j < length c.piece → Is (p + j) (get_or c.piece j 0)
    seg-byte j l = (
      omega (arith, ap length bytes, length-take (length c.piece) (drop p B), length-drop p B, l),
      sym (ap (λ (xs : List ℕ). get_or xs j 0) bytes ∙ get_or-take (length c.piece) (drop p B) j 0 l ∙ get_or-drop p B j 0),
    )

    -- its bytes come at their own places, where the next byte is in reach
    same_place : (i j k : ℕ) → (s + i) % circle ≡ ((s + p) % circle + j) % circle → k ≤ i → i < k + half + held_size → j ≤ most_segment
        → k ≤ p + reach + 262140 → p ≤ k + reach → i ≡ p + j
    same_place i j k e a b l u v = omega (arith, e)

    brings : (k : ℕ) → k ≤ p + reach + 262140 → p ≤ k + reach → Brings Is s k c.at c.piece
    brings k u v i j a b l e =
        let i-is : i ≡ p + j = same_place i j k (e ∙ ap (λ (n : ℕ). (n + j) % circle) number) a b (omega (arith, l, short)) u v in
        rw i-is (seg-byte j l)

    pub one-look : (W : Line) → Front W → length W.down ≤ p + reach + 262140 → p ≤ length W.down + reach → (m : ℕ)
        → Front (looking s W (look_as c m)) × (length W.down ≤ length (looking s W (look_as c m)).down) × (length (looking s W (look_as c m)).down ≤ length W.down + most_segment)
    unfolding looking passed taken
    one-look W f u v m =
        let g = look-stands s W f.place (look_as c m) numbered-so f.stands in
        let t = taking-sized (number_of s W) W.held W.start W.length c.at c.piece f.held f.start numbered-so in
        let h = taking (number_of s W) W.held W.start W.length c.at c.piece in
        let ds = due (number_of s W) h.bytes h.start h.length c.at c.piece in
        let n : length (W.down ++ take m ds) ≡ length W.down + length (take m ds) = length-append W.down (take m ds) in
        let few = due-short (number_of s W) h.bytes h.start h.length c.at c.piece in (
          record {
            place = g.0;
            stands = g.1;
            firsts = look-firsts Is s W f.place (look_as c m) numbered-so f.stands (brings (length W.down) u v) f.firsts;
            held = t.0;
            start = t.1;
          },
          omega (arith, n),
          omega (arith, n, length-take m ds, few),
        )

    -- and so of its looks
    pub front-looks : (f n : ℕ) (l : segment.Look) (W : Line) → Front W → n ≤ 4 → length W.down ≤ p + reach → p ≤ length W.down + reach
        → let Y = looks s W (looks_from way f c n l) in Front Y × (length W.down ≤ length Y.down) × (length Y.down ≤ length W.down + n * most_segment)
    unfolding looks
    front-looks f zero l W g b u v = (g, omega arith, omega arith)
    front-looks f (suc n) l W g b u v =
        rw (looks-append s W (looks_from way f c n l) (cond m.on (here ∷ []) [])) (go (front-looks f n l W g (omega arith) u v) m.on)
      where
        m : segment.Look
        m = looked n (way c.by) (sent_of f c) l

        here : Look
        here = look_as c (length (look_on (way c.by) (sent_of f c) m).heard.down)

        Y : Line
        Y = looks s W (looks_from way f c n l)

        go : Front Y × (length W.down ≤ length Y.down) × (length Y.down ≤ length W.down + n * most_segment)
            → (t : Bool) → let U = looks s Y (cond t (here ∷ []) []) in Front U × (length W.down ≤ length U.down) × (length U.down ≤ length W.down + suc n * most_segment)
        go ih true =
            let o = one-look Y ih.0 (omega (arith, ih.2, u, b)) (omega (arith, ih.1, v)) (length (look_on (way c.by) (sent_of f c) m).heard.down) in
            (o.0, omega (arith, o.1, ih.1), omega (arith, o.2, ih.2))
        go ih false = (ih.0, ih.1, omega (arith, ih.2))

    -- ---- no look passes more down than is left of both

    abbrev len : ℕ
    len = length c.piece

    -- where the line comes to, if all that is left of the held part and of the segment is passed down
    abbrev pub leads : Line → ℕ → ℕ
    leads Y place = length Y.down + rest place Y.length (length Y.down) + rest p len (length Y.down)

    module _ (Y : Line) (f : Front Y) (u : length Y.down ≤ p + reach + 262140) (v : p ≤ length Y.down + reach) (m : ℕ) where
      abbrev at : ℕ
      at = length Y.down

      abbrev next : ℕ
      next = number_of s Y

      -- nothing is taken: n bytes of what was held are
      abbrev stay : ℕ → ℕ → Held
      stay r n = record { refusal = r; start = Y.start; length = n; bytes = Y.held }

      -- the bytes due where h is held, and what is then passed down
      abbrev dues : Held → List ℕ
      dues h = due next h.bytes h.start h.length c.at c.piece

      abbrev come : Held → ℕ
      come h = at + length (take m (dues h))

      -- a place of what is held, after the look
      abbrev Placed : Held → ℕ → Type 0
      Placed h d = 0 < h.length → (h.start ≡ (s + d) % circle) × (d < come h + half) × (come h ≤ d + h.length)

      abbrev Goal : Held → Type 0
      Goal h =
          (length (dues h) ≡ 0 → ⊥) → (d : ℕ) → Placed h d
          → (at + length (dues h) ≤ leads Y f.place) × (come h + rest d h.length (come h) + rest p len (come h) ≤ leads Y f.place)

      taken-few : (h : Held) → length (take m (dues h)) ≤ length (dues h)
      taken-few h = omega (arith, length-take m (dues h))

      none : (h : Held) → dues h ≡ [] → Goal h
      none h e z = absurd (z (ap length e))

      -- the held part stays, and so does its place
      placed_same : (r d : ℕ) → Placed (stay r Y.length) d → 0 < Y.length → f.place ≡ d
      placed_same r d pl some =
          let h : Held = stay r Y.length in
          let q = pl some in
          let short-way = due-short next Y.held Y.start Y.length c.at c.piece in
          one_place s f.place d at (come h) Y.length (sym (f.stands.number some) ∙ q.0) (f.stands.near some) (f.stands.reached some) q.1 q.2 (omega arith)
          (omega (arith, taken-few h, short-way)) f.stands.few

      -- the held part has the next byte
      from-held : (r : ℕ) → bad_sizes (length Y.held) Y.length len ≡ false → has_next next Y.start Y.length ≡ true
          → Goal (stay r Y.length)
      from-held r good e z d pl =
          let h : Held = stay r Y.length in
          let some : 0 < Y.length = omega (arith, has-bound next Y.start Y.length e) in
          let w = has-next-means s Y f.place f.stands some e in
          let a = distance Y.start next in
          let few : length (dues h) ≤ Y.length - (at - f.place) =
          rw (due-held next Y.held Y.start Y.length c.at c.piece good e) (omega (arith, length-take (Y.length - a) (drop a Y.held), w.1)) in
          let sum = held-sum at (come h) f.place Y.length w.0 w.2 (omega arith) (omega (arith, few, taken-few h)) in
          (omega (arith, few), rw (← placed_same r d pl some) (omega (arith, sum, less-left p len at (come h) (omega arith))))

      -- the segment has it
      seg-has : has_next next c.at len ≡ true → (p ≤ at) × (distance c.at next ≡ at - p) × (at - p < len)
      seg-has e =
          elim (dec_lt at p) [
            | yes l ↦ absurd (omega (arith, has-bound next c.at len e, ap (λ (q : ℕ). distance q next) number ∙ backward s p at l (omega (arith, v)), short, l, v))
            | no l ↦
                let d : distance c.at next ≡ at - p = ap (λ (q : ℕ). distance q next) number ∙ forward s p at (omega (arith, l)) (omega (arith, u)) in
                (omega (arith, l), d, omega (arith, has-bound next c.at len e, d))
          ]

      from-seg : (r n : ℕ) → (n ≡ 0) ⊎ (n ≡ Y.length) → bad_sizes (length Y.held) n len ≡ false → has_next next Y.start n ≡ false → has_next next c.at len ≡ true
          → Goal (stay r n)
      from-seg r n which good e g z d pl =
          let h : Held = stay r n in
          let w = seg-has g in
          let b = distance c.at next in
          let few : length (dues h) ≤ len - (at - p) =
          rw (due-seg next Y.held Y.start n c.at c.piece good e g)
          (omega (arith, length-take (up_to next Y.start n (len - b)) (drop b c.piece), up-to-most next Y.start n (len - b), w.1)) in
          let sum = held-sum at (come h) p len w.0 w.2 (omega arith) (omega (arith, few, taken-few h)) in
          let held-less : rest d n (come h) ≤ rest f.place Y.length at = ⊎_elim (λ y. rw y (none_left (at + length (take m (dues (stay r 0))) - d) (rest f.place Y.length at))) (λ y. stays y) which in
          (omega (arith, few), omega (arith, sum, held-less))
        where
          stays : n ≡ Y.length → rest d n (at + length (take m (dues (stay r n)))) ≤ rest f.place Y.length at
          stays y =
              elim (dec_lt 0 Y.length) [
                | yes some ↦ rw (y, ← placed_same r d (rw y at pl) some) (less-left f.place Y.length at _ (omega arith))
                | no l ↦ omega (arith, y, l)
              ]

      -- whatever is taken
      leads-goal : Goal (taking next Y.held Y.start Y.length c.at c.piece)
      leads-goal = go (refuses next Y.held Y.start Y.length c.at c.piece) refl (early next c.at len) refl
        where
          not-seg : early next c.at len ≡ true → has_next next c.at len ≡ false
          not-seg e = ahead-not-next next c.at len (omega arith) numbered-so (omega (arith, short)) (early-ahead next c.at len e)

          stays : (r : ℕ) → (b : Bool) → bad_sizes (length Y.held) Y.length len ≡ b
              → (a : Bool) → has_next next Y.start Y.length ≡ a → (g : Bool) → has_next next c.at len ≡ g
              → Goal (stay r Y.length)
          stays r true eb a ea g eg = none (stay r Y.length) (due-bad next Y.held Y.start Y.length c.at c.piece eb)
          stays r false eb true ea g eg = from-held r eb ea
          stays r false eb false ea false eg = none (stay r Y.length) (due-none next Y.held Y.start Y.length c.at c.piece eb ea eg)
          stays r false eb false ea true eg = from-seg r Y.length (inr refl) eb ea eg

          freed : (b : Bool) → bad_sizes (length Y.held) 0 len ≡ b → (g : Bool) → has_next next c.at len ≡ g
              → Goal (stay 0 0)
          freed true eb g eg = none (stay 0 0) (due-bad next Y.held Y.start 0 c.at c.piece eb)
          freed false eb false eg = none (stay 0 0) (due-none next Y.held Y.start 0 c.at c.piece eb (none-next next Y.start) eg)
          freed false eb true eg = from-seg 0 0 (inl refl) eb (none-next next Y.start) eg

          holding : Held
          holding = record { refusal = 0; start = c.at; length = len; bytes = c.piece ++ drop len Y.held }

          kept-so : early next c.at len ≡ true → (b : Bool) → bad_sizes (length (c.piece ++ drop len Y.held)) len len ≡ b
              → Goal holding
          kept-so e true eb = none holding (due-bad next (c.piece ++ drop len Y.held) c.at len c.at c.piece eb)
          kept-so e false eb = none holding (due-none next (c.piece ++ drop len Y.held) c.at len c.at c.piece eb (not-seg e) (not-seg e))

          other : (a : Bool) → all_before next Y.start Y.length ≡ a → Goal (stay 0 (cond a 0 Y.length))
          other true e = freed (bad_sizes (length Y.held) 0 len) refl (has_next next c.at len) refl
          other false e = stays 0 (bad_sizes (length Y.held) Y.length len) refl (has_next next Y.start Y.length) refl (has_next next c.at len) refl

          go : (r : Bool) → refuses next Y.held Y.start Y.length c.at c.piece ≡ r → (b : Bool) → early next c.at len ≡ b
              → Goal (taking next Y.held Y.start Y.length c.at c.piece)
          go true e b k =
              rw (take-refused next Y.held Y.start Y.length c.at c.piece e)
              (stays 18 (bad_sizes (length Y.held) Y.length len) refl (has_next next Y.start Y.length) refl (has_next next c.at len) refl)
          go false e true k = rw (take-kept next Y.held Y.start Y.length c.at c.piece e k) (kept-so k (bad_sizes (length (c.piece ++ drop len Y.held)) len len) refl)
          go false e false k = rw (take-other next Y.held Y.start Y.length c.at c.piece e k) (other (all_before next Y.start Y.length) refl)

      -- so a look that follows finds as much room
      pub look-leads : (g : Front (looking s Y (look_as c m)))
          → let ds = dues (taking next Y.held Y.start Y.length c.at c.piece) in
          (length ds ≡ 0 → ⊥) → (at + length ds ≤ leads Y f.place) × (leads (looking s Y (look_as c m)) g.place ≤ leads Y f.place)
      unfolding looking passed taken
      look-leads g z =
          let h = taking next Y.held Y.start Y.length c.at c.piece in
          let n : length (Y.down ++ take m (dues h)) ≡ come h = length-append Y.down (take m (dues h)) in
          let q = leads-goal z g.place (λ k. (g.stands.number k, omega (arith, g.stands.near k, n), omega (arith, g.stands.reached k, n))) in
          (q.0, rw n q.1)

      -- a segment that brings the next byte has something due
      pub due-some : p ≤ at → at < p + len → length Y.held ≡ held_size → length (dues (taking next Y.held Y.start Y.length c.at c.piece)) ≡ 0 → ⊥
      due-some a b size =
          rw (take-other next Y.held Y.start Y.length c.at c.piece passes late) (go (all_before next Y.start Y.length))
        where
          far : distance c.at next ≡ at - p
          far = ap (λ (q : ℕ). distance q next) number ∙ forward s p at a (omega (arith, b, short))

          has : has_next next c.at len ≡ true
          has = next-so next c.at len (omega (arith, far, a, b))

          late : early next c.at len ≡ false
          late = not-early next c.at len (ap (ahead next) number ∙ before_at s at p a (omega (arith, b, short)))

          sizes : (n : ℕ) → n ≤ held_size → bad_sizes (length Y.held) n len ≡ false
          sizes n l = good-sizes (length Y.held) n len size l short

          passes : refuses next Y.held Y.start Y.length c.at c.piece ≡ false
          passes = rw (sizes Y.length f.stands.few, late)

          by : (n : ℕ) → n ≤ held_size → (h : Bool) → has_next next Y.start n ≡ h → length (due next Y.held Y.start n c.at c.piece) ≡ 0 → ⊥
          by n l true e z =
              let d = distance Y.start next in
              omega (arith, ap length (due-held next Y.held Y.start n c.at c.piece (sizes n l) e), z, length-take (n - d) (drop d Y.held), length-drop d Y.held, has-bound next Y.start n e, size, l)
          by n l false e z =
              let d = distance c.at next in
              let w = up_to next Y.start n (len - d) in
              omega (
                arith,
                ap length (due-seg next Y.held Y.start n c.at c.piece (sizes n l) e has),
                z,
                length-take w (drop d c.piece),
                length-drop d c.piece,
                up-to-some next Y.start n (len - d) (omega (arith, far, a, b)),
                far,
                a,
                b,
              )

          go : (t : Bool) → length (due next Y.held Y.start (cond t 0 Y.length) c.at c.piece) ≡ 0 → ⊥
          go true = by 0 (omega arith) (has_next next Y.start 0) refl
          go false = by Y.length f.stands.few (has_next next Y.start Y.length) refl
