-- Numbers round the circle: what a distance and "ahead" mean, and the places of a flow whose first byte has number s. Assumes nothing.
use Rattle.std.proofs.Common.{◌≡◌, ℕ, ◌+◌, ◌-◌, ◌%◌, ◌<◌, ◌≤◌, true, false, ltb, ◌↔◌, sym, ap, ◌∙◌, arith, ltb-true, le-ltb, lt-ltb}
use native.Mathlib.Decide.{dec_lt}
use Rattle.rules.proofs.Scanning.{both}
use Rattle.segment.specs.Resend.{circle, half, distance, ahead, has_next}

-- ---- in words

pub distance-lt : (from to : ℕ) → distance from to < circle
unfolding distance
distance-lt from to = omega arith

-- the number that lies a distance past another is the one that it was measured to
pub distance-leads : (from to : ℕ) → from < circle → to < circle → (from + distance from to) % circle ≡ to
unfolding distance
distance-leads from to f h = omega arith

-- and no other distance leads there
pub distance-one : (from k : ℕ) → from < circle → k < circle → distance from ((from + k) % circle) ≡ k
unfolding distance
distance-one from k f h = omega arith

-- p comes after next exactly when it is next and k more, round the circle, for some k from 1 on that is less than half
pub ahead-exactly : (next p : ℕ) → next < circle → p < circle → ahead next p ≡ true ↔ ((k : ℕ) × (0 < k) × (k < half) × (p ≡ (next + k) % circle))
unfolding ahead
ahead-exactly next p n h = (
  λ e. let b = both (ltb 0 (distance next p)) (ltb (distance next p) half) e in
      (distance next p, ltb-true 0 (distance next p) b.0, ltb-true (distance next p) half b.1, sym (distance-leads next p n h)),
  λ w. let d : distance next p ≡ w.0 = ap (distance next) w.3 ∙ distance-one next w.0 n (omega arith) in
      rw (d, lt-ltb 0 w.0 w.1, lt-ltb w.0 half w.2),
)

-- of n bytes from number p on the next is one exactly when it is the number of some place among them
pub has-next-exactly : (next p n : ℕ) → next < circle → p < circle → n ≤ circle → has_next next p n ≡ true ↔ ((i : ℕ) × (i < n) × ((p + i) % circle ≡ next))
unfolding has_next
has-next-exactly next p n a b c = (
  λ e. (distance p next, ltb-true (distance p next) n e, distance-leads p next b a),
  λ w. let d : distance p next ≡ w.0 = ap (distance p) (sym w.2) ∙ distance-one p w.0 b (omega arith) in rw (d, lt-ltb w.0 n w.1),
)

pub ahead-lt : (next p : ℕ) → ahead next p ≡ true → distance next p < half
unfolding ahead
ahead-lt next p e = ltb-true (distance next p) half (both (ltb 0 (distance next p)) (ltb (distance next p) half) e).1

pub ahead_more : (next p : ℕ) → ahead next p ≡ true → 0 < distance next p
unfolding ahead
ahead_more next p e = ltb-true 0 (distance next p) (both (ltb 0 (distance next p)) (ltb (distance next p) half) e).0

-- the way on and the way back make the whole circle
pub distance_back : (next p : ℕ) → next < circle → p < circle → 0 < distance next p → distance p next ≡ circle - distance next p
unfolding distance
distance_back next p a b h = omega arith

-- ---- places of a flow: place p has number s + p, round the circle

abbrev pub numbered : ℕ → ℕ
numbered n = n % circle

pub forward : (s a b : ℕ) → a ≤ b → b < a + circle → distance (numbered (s + a)) (numbered (s + b)) ≡ b - a
unfolding distance
forward s a b h l = omega arith

pub ahead-at : (s D p : ℕ) → D < p → p < D + half → ahead (numbered (s + D)) (numbered (s + p)) ≡ true
unfolding ahead
ahead-at s D p h l =
    let e = forward s D p (omega arith) (omega arith) in
    rw (e, lt-ltb 0 (p - D) (omega arith), lt-ltb (p - D) half (omega arith))

-- and back round the circle
pub backward : (s D p : ℕ) → p < D → D ≤ p + half → distance (numbered (s + D)) (numbered (s + p)) ≡ circle - (D - p)
unfolding distance
backward s D p h l = omega arith

-- half the circle behind still counts as before
pub before_at : (s D p : ℕ) → p ≤ D → D ≤ p + half → ahead (numbered (s + D)) (numbered (s + p)) ≡ false
unfolding ahead
before_at s D p h l = elim (dec_lt p D) [ yes k ↦ less k | no k ↦ equal (omega arith) ]
  where
    less : p < D → ahead (numbered (s + D)) (numbered (s + p)) ≡ false
    less k = rw (backward s D p k l, lt-ltb 0 (circle - (D - p)) (omega arith), le-ltb (circle - (D - p)) half (omega arith))

    equal : D ≡ p → ahead (numbered (s + D)) (numbered (s + p)) ≡ false
    equal k =
        let e : distance (numbered (s + D)) (numbered (s + p)) ≡ 0 = forward s D p (omega arith) (omega arith) ∙ omega arith in
        rw (e, le-ltb 0 0 (omega arith))

-- the number of the place that a distance leads to
pub number_at : (s D q : ℕ) → q < circle → numbered (s + (D + distance (numbered (s + D)) q)) ≡ q
unfolding distance
number_at s D q h = omega arith
