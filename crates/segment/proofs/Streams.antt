-- The stream theorem: after any looks at any segments, what is passed down at each place is what was first consumed or held there. Assumes nothing.
use Rattle.std.proofs.Common.{◌≡◌, ℕ, zero, suc, ◌+◌, ◌-◌, ◌<◌, ◌≤◌, Bool, true, false, cond, not, ◌&&◌, ◌||◌, eqb, ltb, ◌⊎◌, List, [], ◌∷◌, ◌++◌, length, get_or, take, drop, sym, refl, ap, ◌∙◌, subst, inl, inr, ⊎_elim, true≢false, arith, length-append, length-take, get_or-drop, get_or-take, get_or-append-add, ltb-false, le-ltb, lt-ltb, ne_eqb, eqb-true, le-leb}
use native.Mathlib.Decide.{dec_lt}
use lib.ListN.{get_or-append}
use borrow.Author.Tests.{lt-leb, not-true}
use Rattle.rules.proofs.Scanning.{both, neither}
use Rattle.segment.specs.Resend.{circle, half, held_size, distance, ahead, has_next, all_before, bad_sizes, early, full, up_to, Held, taking, due}
use Rattle.segment.specs.Stream.{Line, Look, mark, claim, number_of, taken, passed, torn_by, looking, looks, begun, Numbered}
use Rattle.segment.proofs.Circle.{numbered, forward, backward, ahead-at, before_at, number_at, ahead-lt, ahead_more, distance_back}
use Rattle.segment.proofs.Parts.{has-bound, sizes-good, due-bad, due-held, due-seg, due-none, refuses, take-refused, take-other, kept-fits}

-- ---- claims

claim-kept : (f : ℕ → ℕ) (p : ℕ) (bs : List ℕ) (i v : ℕ) → f i ≡ suc v → claim f p bs i ≡ suc v
unfolding claim
claim-kept f p bs i v e = rw (e, ne_eqb (suc v) 0 (λ q. absurd (omega arith)))

claim-open : (f : ℕ → ℕ) (p : ℕ) (bs : List ℕ) (i : ℕ) → f i ≡ 0 → claim f p bs i ≡ mark p bs i
unfolding claim
claim-open f p bs i e = ap (λ (n : ℕ). cond (eqb n 0) (mark p bs i) n) e

mark-out : (p : ℕ) (bs : List ℕ) (i : ℕ) → (i < p) ⊎ (p + length bs ≤ i) → mark p bs i ≡ 0
unfolding mark
mark-out p bs i (inl h) = rw (lt-leb p i h)
mark-out p bs i (inr h) = rw (le-leb p i (omega arith), le-ltb i (p + length bs) h)

claim-out : (f : ℕ → ℕ) (p : ℕ) (bs : List ℕ) (i : ℕ) → f i ≡ 0 → (i < p) ⊎ (p + length bs ≤ i) → claim f p bs i ≡ 0
claim-out f p bs i e h = claim-open f p bs i e ∙ mark-out p bs i h

mark-in : (p : ℕ) (bs : List ℕ) (j : ℕ) → j < length bs → mark p bs (p + j) ≡ suc (get_or bs j 0)
unfolding mark
mark-in p bs j h =
    let d : p + j - p ≡ j = omega arith in
    rw (le-leb p (p + j) (omega arith), lt-ltb (p + j) (p + length bs) (omega arith), d)

claim-in : (f : ℕ → ℕ) (p : ℕ) (bs : List ℕ) (j : ℕ) → f (p + j) ≡ 0 → j < length bs → claim f p bs (p + j) ≡ suc (get_or bs j 0)
claim-in f p bs j e h = claim-open f p bs (p + j) e ∙ mark-in p bs j h

-- ---- the invariant: the held bytes stand from `place` on

pub record Stands (s : ℕ) (W : Line) (place : ℕ) : Type 0 where
  pub told : (i : ℕ) → i < length W.down → W.first i ≡ suc (get_or W.down i 0)
  pub few : W.length ≤ held_size
  pub number : 0 < W.length → W.start ≡ numbered (s + place)
  pub near : 0 < W.length → place < length W.down + half
  pub reached : 0 < W.length → length W.down ≤ place + W.length
  pub claimed : (j : ℕ) → j < W.length → length W.down ≤ place + j → W.first (place + j) ≡ suc (get_or W.held j 0)
  pub free : (i : ℕ) → length W.down ≤ i → (i < place) ⊎ (place + W.length ≤ i) → W.first i ≡ 0

abbrev onward : Line → List ℕ → Line
onward W bs = record { down = W.down ++ bs; start = W.start; length = W.length; held = W.held; first = claim W.first (length W.down) bs }

-- bytes bs are passed down, each claimed already as it is, or not claimed
pass_step : (s : ℕ) (W : Line) (place : ℕ) (bs : List ℕ) → Stands s W place
    → ((j : ℕ) → j < length bs → (W.first (length W.down + j) ≡ suc (get_or bs j 0)) ⊎ (W.first (length W.down + j) ≡ 0))
    → (0 < W.length → length W.down + length bs ≤ place + W.length)
    → Stands s (onward W bs) place
pass_step s W place bs v h r =
    let len : length (W.down ++ bs) ≡ length W.down + length bs = length-append W.down bs in
    record {
      told = λ i l. elim (dec_lt i (length W.down)) [ yes k ↦ old i k | no k ↦ new i (omega arith) (omega (arith, len)) ];
      few = v.few;
      number = v.number;
      near = λ c. omega (arith, v.near c, len);
      reached = λ c. omega (arith, r c, len);
      claimed = λ j c l. claim-kept W.first (length W.down) bs (place + j) (get_or W.held j 0) (v.claimed j c (omega (arith, len)));
      free = λ i l o. claim-out W.first (length W.down) bs i (v.free i (omega (arith, len)) o) (inr (omega (arith, len)));
    }
  where
    old : (i : ℕ) → i < length W.down → claim W.first (length W.down) bs i ≡ suc (get_or (W.down ++ bs) i 0)
    old i k = claim-kept W.first (length W.down) bs i (get_or W.down i 0) (v.told i k) ∙ ap suc (sym (get_or-append W.down bs 0 i k))

    by : (j : ℕ) → j < length bs → claim W.first (length W.down) bs (length W.down + j) ≡ suc (get_or bs j 0)
    by j l =
        ⊎_elim (λ e. claim-kept W.first (length W.down) bs (length W.down + j) (get_or bs j 0) e)
        (λ e. claim-in W.first (length W.down) bs j e l) (h j l)

    new : (i : ℕ) → length W.down ≤ i → i < length W.down + length bs → claim W.first (length W.down) bs i ≡ suc (get_or (W.down ++ bs) i 0)
    new i g l =
        let e : length W.down + (i - length W.down) ≡ i = omega arith in
        subst (λ (k : ℕ). claim W.first (length W.down) bs k ≡ suc (get_or (W.down ++ bs) k 0)) e
        (by (i - length W.down) (omega arith) ∙ ap suc (sym (get_or-append-add W.down bs (i - length W.down) 0)))

-- all that was held came before: a segment is held at place p
hold-step : (s : ℕ) (W : Line) (place : ℕ) (seg rest : List ℕ) (q p : ℕ) → Stands s W place → (0 < W.length → place + W.length ≤ length W.down)
    → q ≡ numbered (s + p) → length W.down ≤ p → p < length W.down + half → length seg ≤ held_size
    → Stands s (record { down = W.down; start = q; length = length seg; held = seg ++ rest; first = claim W.first p seg }) p
hold-step s W place seg rest q p v o e g n l =
    record {
      told = λ i k. claim-kept W.first p seg i (get_or W.down i 0) (v.told i k);
      few = l;
      number = λ c. e;
      near = λ c. n;
      reached = λ c. omega arith;
      claimed = λ j c k. claim-in W.first p seg j (clear (p + j) (omega arith)) c ∙ ap suc (sym (get_or-append seg rest 0 j c));
      free = λ i k c. claim-out W.first p seg i (clear i k) c;
    }
  where
    clear : (i : ℕ) → length W.down ≤ i → W.first i ≡ 0
    clear i k =
        elim (dec_lt 0 W.length) [
          | yes c ↦ v.free i k (inr (omega (arith, o c)))
          | no c ↦ elim (dec_lt i place) [ yes t ↦ v.free i k (inl t) | no t ↦ v.free i k (inr (omega arith)) ]
        ]

-- all that was held came before: the place is free
clear_step : (s : ℕ) (W : Line) (place : ℕ) → Stands s W place → (0 < W.length → place + W.length ≤ length W.down)
    → Stands s (record { down = W.down; start = W.start; length = 0; held = W.held; first = W.first }) place
clear_step s W place v o =
    record {
      told = v.told;
      few = omega arith;
      number = λ c. absurd (omega arith);
      near = λ c. absurd (omega arith);
      reached = λ c. absurd (omega arith);
      claimed = λ j c k. absurd (omega arith);
      free = λ i k c.
          elim (dec_lt 0 W.length) [
            | yes t ↦ v.free i k (inr (omega (arith, o t)))
            | no t ↦ elim (dec_lt i place) [ yes u ↦ v.free i k (inl u) | no u ↦ v.free i k (inr (omega arith)) ]
          ];
    }

-- ---- what the tests mean

pub before-not-next : (next p n : ℕ) → all_before next p n ≡ true → has_next next p n ≡ false
unfolding all_before has_next
before-not-next next p n e = go (eqb n 0) refl e
  where
    go : (z : Bool) → eqb n 0 ≡ z → (z || not (ahead next p || ltb (distance p next) n)) ≡ true → ltb (distance p next) n ≡ false
    go true q h = le-ltb (distance p next) n (omega (arith, eqb-true n 0 q))
    go false q h = (neither (ahead next p) (ltb (distance p next) n) (not-true (ahead next p || ltb (distance p next) n) h)).1

pub ahead-not-next : (next p n : ℕ) → next < circle → p < circle → n ≤ half → ahead next p ≡ true → has_next next p n ≡ false
unfolding has_next
ahead-not-next next p n a b l e =
    le-ltb (distance p next) n (omega (arith, distance_back next p a b (ahead_more next p e), ahead-lt next p e))

pub ahead-not-before : (next p n : ℕ) → ahead next p ≡ true → 0 < n → all_before next p n ≡ false
unfolding all_before
ahead-not-before next p n e h = rw (e, ne_eqb n 0 (λ q. absurd (omega arith)))

-- held bytes that have not all come before and of which the next is none begin ahead
pub neither-ahead : (next p n : ℕ) → has_next next p n ≡ false → all_before next p n ≡ false → ahead next p ≡ true
unfolding all_before
neither-ahead next p n e f = go (ahead next p) (rw e at f)
  where
    go : (a : Bool) → (eqb n 0 || not (a || false)) ≡ false → a ≡ true
    go true h = refl
    go false h = absurd (true≢false (neither (eqb n 0) true h).1)

module _ (s : ℕ) (W : Line) (place : ℕ) (v : Stands s W place) (c : 0 < W.length) where
  is-ahead : length W.down < place → (ahead (number_of s W) W.start ≡ true) × (distance (number_of s W) W.start ≡ place - length W.down)
  is-ahead h =
      rw (v.number c) (ahead-at s (length W.down) place h (v.near c), forward s (length W.down) place (omega arith) (omega (arith, v.near c)))

  is-before : place ≤ length W.down → (ahead (number_of s W) W.start ≡ false) × (distance W.start (number_of s W) ≡ length W.down - place)
  is-before h =
      rw (v.number c)
      (before_at s (length W.down) place h (omega (arith, v.few, v.reached c)), forward s place (length W.down) h (omega (arith, v.few, v.reached c)))

  all-before-means : all_before (number_of s W) W.start W.length ≡ true → place + W.length ≤ length W.down
  unfolding has_next
  all-before-means e =
      elim (dec_lt (length W.down) place) [
        | yes h ↦ absurd (true≢false (sym e ∙ ahead-not-before (number_of s W) W.start W.length (is-ahead h).0 c))
        | no h ↦ low (omega arith)
      ]
    where
      low : place ≤ length W.down → place + W.length ≤ length W.down
      low h =
          let b = is-before h in
          let t = before-not-next (number_of s W) W.start W.length e in
          omega (arith, ltb-false (length W.down - place) W.length (rw b.1 at t))

  pub has-next-means : has_next (number_of s W) W.start W.length ≡ true
      → (place ≤ length W.down) × (distance W.start (number_of s W) ≡ length W.down - place) × (length W.down - place < W.length)
  has-next-means e =
      elim (dec_lt (length W.down) place) [
        | yes h ↦ absurd (far h)
        | no h ↦ let b = is-before (omega arith) in (omega arith, b.1, omega (arith, has-bound (number_of s W) W.start W.length e, b.1))
      ]
    where
      far : length W.down < place → ⊥
      far h =
          let d = backward s place (length W.down) h (omega (arith, v.near c)) in
          omega (arith, has-bound (number_of s W) W.start W.length e, ap (λ (x : ℕ). distance x (number_of s W)) (v.number c) ∙ d, v.few, v.near c)

  ahead-means : has_next (number_of s W) W.start W.length ≡ false → all_before (number_of s W) W.start W.length ≡ false → length W.down < place
  ahead-means e f =
      elim (dec_lt (length W.down) place) [
        | yes h ↦ h
        | no h ↦ absurd (true≢false (sym (neither-ahead (number_of s W) W.start W.length e f) ∙ (is-before (omega arith)).0))
      ]

up-to-cut : (next p n m : ℕ) → 0 < n → ahead next p ≡ true → up_to next p n m ≤ distance next p
unfolding up_to
up-to-cut next p n m h a = rw (lt-ltb 0 n h, a) (go (ltb (distance next p) m) refl)
  where
    go : (b : Bool) → ltb (distance next p) m ≡ b → cond b (distance next p) m ≤ distance next p
    go true e = omega arith
    go false e = ltb-false (distance next p) m e

-- a byte of a part of a part
pub part_length : (m n d : ℕ) (xs : List ℕ) → length (take m (take n (drop d xs))) ≤ n
part_length m n d xs = rw (length-take m (take n (drop d xs)), length-take n (drop d xs)) (omega arith)

pub part-byte : (m n d : ℕ) (xs : List ℕ) (j : ℕ) → j < length (take m (take n (drop d xs))) → get_or (take m (take n (drop d xs))) j 0 ≡ get_or xs (d + j) 0
part-byte m n d xs j h =
    let l = rw (length-take m (take n (drop d xs)), length-take n (drop d xs)) at h in
    get_or-take m (take n (drop d xs)) j 0 (omega arith) ∙ get_or-take n (drop d xs) j 0 (omega arith) ∙ get_or-drop d xs j 0

-- ---- a look

-- nothing is due, or what is held has not all come before
abbrev pub Settled : ℕ → Line → ℕ → List ℕ → Type 0
Settled s W q seg =
    (due (number_of s W) W.held W.start W.length q seg ≡ []) ⊎ (0 < W.length → all_before (number_of s W) W.start W.length ≡ false)

abbrev pub Good : ℕ → Line → ℕ → List ℕ → Type 0
Good s W q seg = (p : ℕ) × Stands s W p × Settled s W q seg

pub number_lt : (s : ℕ) (W : Line) → number_of s W < circle
number_lt s W = omega arith

pub taken-good : (s : ℕ) (W : Line) (place q : ℕ) (seg : List ℕ) → q < circle → Stands s W place → Good s (taken s W q seg) q seg
unfolding taken taking early full
taken-good s W place q seg lq v =
    go (bad_sizes (length W.held) W.length (length seg)) (ltb 0 (length seg) && ahead (number_of s W) q) (all_before (number_of s W) W.start W.length) (ltb held_size (length seg))
    refl refl refl refl
  where
    result : Bool → Bool → Bool → Bool → Held
    result bad beg ab big =
        cond (bad || (beg && (not ab || big))) (record { refusal = 18; start = W.start; length = W.length; bytes = W.held })
        (cond beg (record { refusal = 0; start = q; length = length seg; bytes = seg ++ drop (length seg) W.held })
        (record { refusal = 0; start = W.start; length = cond ab 0 W.length; bytes = W.held }))

    after : Bool → Bool → Bool → Bool → Line
    after bad beg ab big =
        record {
          down = W.down;
          start = (result bad beg ab big).start;
          length = (result bad beg ab big).length;
          held = (result bad beg ab big).bytes;
          first = cond (not bad && beg && not (not ab || big)) (claim W.first (length W.down + distance (number_of s W) q) seg) W.first;
        }

    go : (bad beg ab big : Bool) → bad_sizes (length W.held) W.length (length seg) ≡ bad → (ltb 0 (length seg) && ahead (number_of s W) q) ≡ beg
        → all_before (number_of s W) W.start W.length ≡ ab → ltb held_size (length seg) ≡ big → Good s (after bad beg ab big) q seg
    go true beg ab big eb en ea ez = (place, v, inl (due-bad (number_of s W) W.held W.start W.length q seg eb))
    go false true false big eb en ea ez = (place, v, inr (λ c. ea))
    go false true true true eb en ea ez =
        let a = both (ltb 0 (length seg)) (ahead (number_of s W) q) en in
        let n = sizes-good (length W.held) W.length (length seg) eb in (
          place,
          v,
          inl (due-none (number_of s W) W.held W.start W.length q seg eb (before-not-next (number_of s W) W.start W.length ea)
              (ahead-not-next (number_of s W) q (length seg) (number_lt s W) lq (omega (arith, n.2)) a.1)),
        )
    go false true true false eb en ea ez =
        let a = both (ltb 0 (length seg)) (ahead (number_of s W) q) en in (
          length W.down + distance (number_of s W) q,
          hold-step s W place seg (drop (length seg) W.held) q (length W.down + distance (number_of s W) q) v (λ c. all-before-means s W place v c ea)
              (sym (number_at s (length W.down) q lq)) (omega arith) (omega (arith, ahead-lt (number_of s W) q a.1)) (ltb-false held_size (length seg) ez),
          inr (λ c. ahead-not-before (number_of s W) q (length seg) a.1 c),
        )
    go false false true big eb en ea ez = (place, clear_step s W place v (λ c. all-before-means s W place v c ea), inr (λ c. absurd (omega arith)))
    go false false false big eb en ea ez = (place, v, inr (λ c. ea))

pub take_none : (m : ℕ) (xs : List ℕ) → xs ≡ [] → length (take m xs) ≡ 0
take_none zero xs e = refl
take_none (suc m) xs e = ap (λ (ys : List ℕ). length (take (suc m) ys)) e

passed-stands : (s : ℕ) (W : Line) (place q : ℕ) (seg : List ℕ) (m : ℕ) → Stands s W place → Settled s W q seg → Stands s (passed s W q seg m) place
unfolding passed
passed-stands s W place q seg m v t =
    ⊎_elim none
    (λ f. go f (bad_sizes (length W.held) W.length (length seg)) refl (has_next (number_of s W) W.start W.length) refl (has_next (number_of s W) q (length seg)) refl) t
  where
    P : List ℕ → Type 0
    P ds = Stands s (onward W (take m ds)) place

    none : due (number_of s W) W.held W.start W.length q seg ≡ [] → Stands s (onward W (take m (due (number_of s W) W.held W.start W.length q seg))) place
    none e =
        let z = take_none m (due (number_of s W) W.held W.start W.length q seg) e in
        pass_step s W place (take m (due (number_of s W) W.held W.start W.length q seg)) v (λ j l. absurd (omega (arith, z))) (λ c. omega (arith, z, v.reached c))

    go : (0 < W.length → all_before (number_of s W) W.start W.length ≡ false)
        → (b : Bool) → bad_sizes (length W.held) W.length (length seg) ≡ b → (h : Bool) → has_next (number_of s W) W.start W.length ≡ h
        → (g : Bool) → has_next (number_of s W) q (length seg) ≡ g → Stands s (onward W (take m (due (number_of s W) W.held W.start W.length q seg))) place
    go f true eb h eh g eg = none (due-bad (number_of s W) W.held W.start W.length q seg eb)
    go f false eb true eh g eg =
        let c : 0 < W.length = omega (arith, has-bound (number_of s W) W.start W.length eh) in
        let w = has-next-means s W place v c eh in
        let d = distance W.start (number_of s W) in
        let n = W.length - distance W.start (number_of s W) in
        let bs = take m (take (W.length - distance W.start (number_of s W)) (drop (distance W.start (number_of s W)) W.held)) in
        let short = part_length m (W.length - distance W.start (number_of s W)) (distance W.start (number_of s W)) W.held in
        subst P (sym (due-held (number_of s W) W.held W.start W.length q seg eb eh))
        (pass_step s W place bs v
        (λ j l.
        inl (ap W.first (same j w.0 w.1) ∙ v.claimed (d + j) (omega (arith, w.1, w.2, short)) (omega (arith, w.1))
        ∙ ap suc (sym (part-byte m n d W.held j l))))
        (λ k. omega (arith, w.0, w.1, w.2, short)))
      where
        same : (j : ℕ) → place ≤ length W.down → distance W.start (number_of s W) ≡ length W.down - place
            → length W.down + j ≡ place + (distance W.start (number_of s W) + j)
        same j a b = omega arith
    go f false eb false eh false eg = none (due-none (number_of s W) W.held W.start W.length q seg eb eh eg)
    go f false eb false eh true eg =
        let b = distance q (number_of s W) in
        let e = up_to (number_of s W) W.start W.length (length seg - distance q (number_of s W)) in
        let bs = take m (take (up_to (number_of s W) W.start W.length (length seg - distance q (number_of s W))) (drop (distance q (number_of s W)) seg)) in
        let short = part_length m (up_to (number_of s W) W.start W.length (length seg - distance q (number_of s W))) (distance q (number_of s W)) seg in
        subst P (sym (due-seg (number_of s W) W.held W.start W.length q seg eb eh eg))
        (pass_step s W place bs v
        (λ j l.
        inr
        (v.free (length W.down + j) (omega arith)
        (elim (dec_lt 0 W.length) [
          | yes c ↦ inl (omega (arith, cut c, short))
          | no c ↦ elim (dec_lt (length W.down + j) place) [ yes u ↦ inl u | no u ↦ inr (omega arith) ]
        ])))
        (λ k. omega (arith, cut k, short)))
      where
        cut : 0 < W.length → length W.down + up_to (number_of s W) W.start W.length (length seg - distance q (number_of s W)) ≤ place
        cut c =
            let l = ahead-means s W place v c eh (f c) in
            let a = is-ahead s W place v c l in
            omega (arith, l, a.1, up-to-cut (number_of s W) W.start W.length (length seg - distance q (number_of s W)) c a.0)

-- ---- the stream theorem

-- another buffer, as far as it is claimed
with-bytes : (s : ℕ) (W : Line) (place : ℕ) (bytes : List ℕ) → Stands s W place
    → ((j : ℕ) → j < W.length → length W.down ≤ place + j → W.first (place + j) ≡ suc (get_or bytes j 0))
    → Stands s (record { down = W.down; start = W.start; length = W.length; held = bytes; first = W.first }) place
with-bytes s W place bytes v c = record { told = v.told; few = v.few; number = v.number; near = v.near; reached = v.reached; claimed = c; free = v.free }

-- a torn look: the buffer is new only where all that was held came before
torn-stands : (s : ℕ) (W : Line) (place q : ℕ) (seg : List ℕ) → Stands s W place → Stands s (torn_by s W q seg) place
unfolding torn_by
torn-stands s W place q seg v =
    with-bytes s W place (taking (number_of s W) W.held W.start W.length q seg).bytes v
    (go (refuses (number_of s W) W.held W.start W.length q seg) refl (early (number_of s W) q (length seg)) refl)
  where
    go : (r : Bool) → refuses (number_of s W) W.held W.start W.length q seg ≡ r → (b : Bool) → early (number_of s W) q (length seg) ≡ b
        → (j : ℕ) → j < W.length → length W.down ≤ place + j
        → W.first (place + j) ≡ suc (get_or (taking (number_of s W) W.held W.start W.length q seg).bytes j 0)
    go true e b f j c l = v.claimed j c l ∙ ap (λ (h : Held). suc (get_or h.bytes j 0)) (sym (take-refused (number_of s W) W.held W.start W.length q seg e))
    go false e false f j c l = v.claimed j c l ∙ ap (λ (h : Held). suc (get_or h.bytes j 0)) (sym (take-other (number_of s W) W.held W.start W.length q seg e f))
    go false e true f j c l =
        absurd (omega (arith, all-before-means s W place v (omega arith) (kept-fits (number_of s W) W.held W.start W.length q seg e f).2))

pub look-stands : (s : ℕ) (W : Line) (place : ℕ) (l : Look) → l.start < circle → Stands s W place → (p : ℕ) × Stands s (looking s W l) p
unfolding looking
look-stands s W place l h v = go l.torn
  where
    go : (b : Bool) → (p : ℕ) × Stands s (cond b (torn_by s W l.start l.seg) (passed s (taken s W l.start l.seg) l.start l.seg l.eaten)) p
    go true = (place, torn-stands s W place l.start l.seg v)
    go false =
        let g = taken-good s W place l.start l.seg h v in
        (g.0, passed-stands s (taken s W l.start l.seg) g.0 l.start l.seg l.eaten g.1 g.2)

pub looks-stand : (s : ℕ) (ls : List Look) → Numbered ls → (W : Line) (place : ℕ) → Stands s W place → (p : ℕ) × Stands s (looks s W ls) p
unfolding looks
looks-stand s [] h W place v = (place, v)
looks-stand s (l ∷ ls) h W place v =
    let g = look-stands s W place l h.0 v in
    looks-stand s ls h.1 (looking s W l) g.0 g.1

pub begun-stands : (s : ℕ) (held : List ℕ) → Stands s (begun held) 0
begun-stands s held =
    record {
      told = λ i l. absurd (omega arith);
      few = omega arith;
      number = λ c. absurd (omega arith);
      near = λ c. absurd (omega arith);
      reached = λ c. absurd (omega arith);
      claimed = λ j c l. absurd (omega arith);
      free = λ i l o. refl;
    }

-- after any looks, torn ones too, what was passed down at each place is what was first consumed or held there
pub stream : (s : ℕ) (held : List ℕ) (ls : List Look) → Numbered ls → (i : ℕ) → i < length (looks s (begun held) ls).down
    → (looks s (begun held) ls).first i ≡ suc (get_or (looks s (begun held) ls).down i 0)
stream s held ls h = (looks-stand s ls h (begun held) 0 (begun-stands s held)).1.told
