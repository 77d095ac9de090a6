-- The next member of a set whose words are read one after the other. Assumes nothing.
use Prim.Native.Nat.{ℕ, zero, suc, ◌+◌, ◌-◌, ◌*◌, ◌/◌, ◌%◌, ◌^◌, ◌≤◌, ◌<◌}
use mathlib.Core.Path.{◌≡◌, refl, sym, ap, ◌∙◌}
use mathlib.Core.Bool.{Bool, true, false}
use mathlib.Core.List.{List}
use native.Mathlib.Omega.{arith}
use native.Mathlib.Nat.{lt_of_not-le, mod-lt}
use native.Mathlib.Decide.{dec_lt}
use lib.Dec.{eqb}
use lib.Count.{count_trailing_zeros, under}
use lib.Pow.{pow_pos}
use lib.ListN.{get_or}
use Rattle.numbers.specs.Number.{num, bit}
use Rattle.sets.specs.Set.{holds}
use Rattle.numbers.proofs.Laws.{Small, bit-half, bit-zero, bits-ext}
use Rattle.sets.proofs.Sets.{holds-empty, holds-past}
use Rattle.sets_words.specs.inner.Next.{Next}
use Rattle.sets_words.proofs.Bits.{down, word-bit}

-- ---- the lowest 1 of a word

trailing-under : (k x q : ℕ) → q < count_trailing_zeros k x → bit x q ≡ 0
unfolding count_trailing_zeros
trailing-under zero x q h = absurd (omega arith)
trailing-under (suc k) x q h = go (trailing-under k (x / 2)) (x % 2) refl q h
  where
    go : ((p : ℕ) → p < count_trailing_zeros k (x / 2) → bit (x / 2) p ≡ 0) → (d : ℕ) → x % 2 ≡ d → (p : ℕ) → p < under d (count_trailing_zeros k (x / 2)) → bit x p ≡ 0
    go f zero e zero l = omega arith
    go f zero e (suc p) l = sym (bit-half x p) ∙ f p (omega arith)
    go f (suc d) e p l = absurd (omega arith)

trailing_at : (k x : ℕ) → count_trailing_zeros k x < k → bit x (count_trailing_zeros k x) ≡ 1
unfolding count_trailing_zeros
trailing_at zero x h = absurd (omega arith)
trailing_at (suc k) x h = go (trailing_at k (x / 2)) (x % 2) refl h
  where
    go : (count_trailing_zeros k (x / 2) < k → bit (x / 2) (count_trailing_zeros k (x / 2)) ≡ 1) → (d : ℕ) → x % 2 ≡ d → under d (count_trailing_zeros k (x / 2)) < suc k → bit x (under d (count_trailing_zeros k (x / 2))) ≡ 1
    go f zero e l = sym (bit-half x (count_trailing_zeros k (x / 2))) ∙ f (omega arith)
    go f (suc d) e l = let b : x % 2 < 2 = mod-lt x (pow_pos 1) in omega arith

trailing_lt : (k x : ℕ) → x < 2 ^ k → (x ≡ 0 → ⊥) → count_trailing_zeros k x < k
trailing_lt k x h n = elim (dec_lt (count_trailing_zeros k x) k) [ yes l ↦ l | no g ↦ absurd (n (bits-ext k x 0 h (pow_pos k) (λ s l. trailing-under k x s (omega (arith, lt_of_not-le (λ (z : suc (count_trailing_zeros k x) ≤ k). g z))) ∙ sym (bit-zero s)))) ]

pub lowest-lt : (x : ℕ) → x < 2 ^ 64 → (x ≡ 0 → ⊥) → count_trailing_zeros 64 x < 64
lowest-lt x h n = trailing_lt 64 x h n

pub lowest-there : (x : ℕ) → x < 2 ^ 64 → (x ≡ 0 → ⊥) → holds x (count_trailing_zeros 64 x) ≡ true
unfolding holds
lowest-there x h n = ap (λ z. eqb z 1) (trailing_at 64 x (trailing_lt 64 x h n))

pub lowest-under : (x q : ℕ) → q < count_trailing_zeros 64 x → holds x q ≡ false
unfolding holds
lowest-under x q h = ap (λ z. eqb z 1) (trailing-under 64 x q h)

-- ---- words

module _ (ws : List ℕ) (h : Small 64 ws) where
  -- bit q, in the word where it stands
  at : (i q : ℕ) → 64 * i ≤ q → q < 64 * i + 64 → holds (num 64 ws) q ≡ holds (get_or ws i 0) (q - 64 * i)
  at i q a b = word-bit ws i (q - 64 * i) q h (omega arith) (omega arith)

  -- none from a place up to word i, and word i is 0
  pub none_more : (s i : ℕ) → ((q : ℕ) → s ≤ q → q < 64 * i → holds (num 64 ws) q ≡ false) → get_or ws i 0 ≡ 0 → (q : ℕ) → s ≤ q → q < 64 * (i + 1) → holds (num 64 ws) q ≡ false
  none_more s i f e q a b = elim (dec_lt q (64 * i)) [ yes l ↦ f q a l | no g ↦ late (omega (arith, lt_of_not-le (λ (z : suc q ≤ 64 * i). g z))) ]
    where
      late : 64 * i ≤ q → holds (num 64 ws) q ≡ false
      late l = at i q l (omega arith) ∙ ap (λ z. holds z (q - 64 * i)) e ∙ holds-empty (q - 64 * i)

  -- the lowest 1 of word i, where none stands before it
  pub next-in : (s i r m : ℕ) → s ≤ 64 * i → 64 * i + 64 ≤ m → ((q : ℕ) → s ≤ q → q < 64 * i → holds (num 64 ws) q ≡ false)
      → (r < 64) × (holds (get_or ws i 0) r ≡ true) × ((q : ℕ) → q < r → holds (get_or ws i 0) q ≡ false) → Next (num 64 ws) s m (64 * i + r)
  next-in s i r m a b f (l, t, u) = record {
    most = omega arith;
    least = λ _. omega arith;
    skipped = λ q c d. elim (dec_lt q (64 * i)) [ yes k ↦ f q c k | no g ↦ late q d (omega (arith, lt_of_not-le (λ (z : suc q ≤ 64 * i). g z))) ];
    there = λ _. let e : 64 * i + r - 64 * i ≡ r = omega arith in at i (64 * i + r) (omega arith) (omega arith) ∙ ap (holds (get_or ws i 0)) e ∙ t;
  }
    where
      late : (q : ℕ) → q < 64 * i + r → 64 * i ≤ q → holds (num 64 ws) q ≡ false
      late q d k = at i q k (omega arith) ∙ u (q - 64 * i) (omega arith)

  -- the lowest 1 of the rest of a word
  pub next_here : (s r m : ℕ) → 64 * (s / 64) + 64 ≤ m → (r < 64) × (holds (get_or ws (s / 64) 0 / 2 ^ (s % 64)) r ≡ true) × ((q : ℕ) → q < r → holds (get_or ws (s / 64) 0 / 2 ^ (s % 64)) q ≡ false)
      → Next (num 64 ws) s m (s + r)
  next_here s r m b (l, t, u) = record {
    most = omega (arith, short);
    least = λ _. omega arith;
    skipped = λ q c d. into q c (omega (arith, short)) ∙ u (q - s) (omega arith);
    there = λ _. let e : s + r - s ≡ r = omega arith in into (s + r) (omega arith) (omega (arith, short)) ∙ ap (holds (get_or ws (s / 64) 0 / 2 ^ (s % 64))) e ∙ t;
  }
    where
      bound : 64 ≤ s % 64 + r → ⊥
      bound g = let z : ◌≡◌ {A = Bool} true false = sym t ∙ down (get_or ws (s / 64) 0) (s % 64) r ∙ holds-past 64 (get_or ws (s / 64) 0) (s % 64 + r) (h (s / 64)) g in let w : ◌≡◌ {A = ℕ} 0 1 = cc in omega arith

      short : s % 64 + r < 64
      short = elim (dec_lt (s % 64 + r) 64) [ yes k ↦ k | no g ↦ absurd (bound (omega (arith, lt_of_not-le (λ (z : suc (s % 64 + r) ≤ 64). g z)))) ]

      into : (q : ℕ) → s ≤ q → q < 64 * (s / 64) + 64 → holds (num 64 ws) q ≡ holds (get_or ws (s / 64) 0 / 2 ^ (s % 64)) (q - s)
      into q c d = let e : q - 64 * (s / 64) ≡ s % 64 + (q - s) = omega arith in at (s / 64) q (omega arith) d ∙ ap (holds (get_or ws (s / 64) 0)) e ∙ sym (down (get_or ws (s / 64) 0) (s % 64) (q - s))

  -- the rest of a word is 0: on with the next word
  pub next-on : (s r m : ℕ) → get_or ws (s / 64) 0 / 2 ^ (s % 64) ≡ 0 → 64 * (s / 64 + 1) ≤ m → Next (num 64 ws) (64 * (s / 64 + 1)) m r → Next (num 64 ws) s m r
  next-on s r m e b n = record {
    most = n.most;
    least = λ _. let k = n.least b in omega arith;
    skipped = λ q c d. elim (dec_lt q (64 * (s / 64 + 1))) [ yes l ↦ early q c l | no g ↦ n.skipped q (omega (arith, lt_of_not-le (λ (z : suc q ≤ 64 * (s / 64 + 1)). g z))) d ];
    there = n.there;
  }
    where
      early : (q : ℕ) → s ≤ q → q < 64 * (s / 64 + 1) → holds (num 64 ws) q ≡ false
      early q c l =
          let i : q - 64 * (s / 64) ≡ s % 64 + (q - s) = omega arith in
          at (s / 64) q (omega arith) (omega arith) ∙ ap (holds (get_or ws (s / 64) 0)) i ∙ sym (down (get_or ws (s / 64) 0) (s % 64) (q - s)) ∙ ap (λ z. holds z (q - s)) e ∙ holds-empty (q - s)

-- no member from s on, up to the end
pub next-none : (n s m : ℕ) → ((q : ℕ) → s ≤ q → q < m → holds n q ≡ false) → Next n s m m
next-none n s m f = record { most = omega arith; least = λ h. h; skipped = f; there = λ l. absurd (omega arith) }

-- the end comes first
pub next-cut : (n s m e r : ℕ) → e ≤ m → Next n s m r → e ≤ r → Next n s e e
next-cut n s m e r a x b = record { most = omega arith; least = λ h. h; skipped = λ q c d. x.skipped q c (omega arith); there = λ l. absurd (omega arith) }

pub next-kept : (n s m e r : ℕ) → e ≤ m → Next n s m r → r < e → Next n s e r
next-kept n s m e r a x b = record { most = omega arith; least = λ h. x.least (omega arith); skipped = x.skipped; there = λ l. x.there (omega arith) }
