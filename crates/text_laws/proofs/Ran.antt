-- Longest runs of bytes: each is one, every byte of the set lies in one, no two are the same, and there are no others.
use Prim.Native.Nat.{ℕ, zero, suc, ◌+◌, ◌-◌, ◌≤◌, ◌<◌}
use mathlib.Core.Path.{◌≡◌, refl, sym, ap, subst, ◌∙◌}
use mathlib.Core.Bool.{Bool, true, false, true≢false}
use mathlib.Core.List.{List, [], ◌∷◌}
use mathlib.Core.Logic.{◌⊎◌, inl, inr}
use native.Mathlib.Omega.{arith}
use native.Mathlib.Nat.{lt_of_not-le}
use native.Mathlib.Decide.{dec_lt}
use lib.Dec.{eqb}
use borrow.Author.Tests.{eqb-true, eqb-false}
use Rattle.text.specs.Records.{runs}
use Rattle.text_laws.specs.Records.{Longest}

abbrev pub Has : ℕ × ℕ → List (ℕ × ℕ) → Type 0
Has p [] = ⊥
Has p (x ∷ xs) = (p ≡ x) ⊎ Has p xs

-- the byte before the run at hand, or before c where none is, is not in the set
abbrev Free : (ℕ → Bool) → ℕ → ℕ → Type 0
Free f c low = (i : ℕ) → (low ≡ 0 → suc i ≡ c → f i ≡ false) × ((low ≡ 0 → ⊥) → suc (suc i) ≡ low → f i ≡ false)

-- the run at hand: from low - 1 to the byte before c
abbrev At : (ℕ → Bool) → ℕ → ℕ → Type 0
At f c low = (low ≤ c) × ((i : ℕ) → (low ≡ 0 → ⊥) → low ≤ suc i → i < c → f i ≡ true) × Free f c low

-- none is at hand behind a byte that is not in the set
at_none : (f : ℕ → Bool) (c : ℕ) → f c ≡ false → At f (suc c) 0
at_none f c q = (omega arith, λ i z l k. absurd (z refl), λ i. (λ z e. let w : c ≡ i = omega (arith, e) in subst (λ y. f y ≡ false) w q, λ z. absurd (z refl)))

module _ (f : ℕ → Bool) where
  -- how the runs go on, by the byte at hand and whether a run is at hand
  last_none : (c : ℕ) → runs f zero c 0 ≡ []
  unfolding runs
  last_none c = refl

  last_one : (c low : ℕ) → eqb low 0 ≡ false → runs f zero c low ≡ (low - 1, c - 1) ∷ []
  unfolding runs
  last_one c low e = rw e

  goes-begin : (n c : ℕ) → f c ≡ true → runs f (suc n) c 0 ≡ runs f n (suc c) (suc c)
  unfolding runs
  goes-begin n c h = rw h

  goes_on : (n c low : ℕ) → f c ≡ true → eqb low 0 ≡ false → runs f (suc n) c low ≡ runs f n (suc c) low
  unfolding runs
  goes_on n c low h e = rw (h, e)

  goes_none : (n c : ℕ) → f c ≡ false → runs f (suc n) c 0 ≡ runs f n (suc c) 0
  unfolding runs
  goes_none n c h = rw h

  goes_end : (n c low : ℕ) → f c ≡ false → eqb low 0 ≡ false → runs f (suc n) c low ≡ (low - 1, c - 1) ∷ runs f n (suc c) 0
  unfolding runs
  goes_end n c low h e = rw (h, e)

  ended : (c low m : ℕ) (p : ℕ × ℕ) → At f c low → (low ≡ 0 → ⊥) → c ≤ m → (c < m → f c ≡ false) → p ≡ (low - 1, c - 1) → Longest f m p.0 p.1
  ended c low m p (l, g, o) n h q e =
      let d : suc (c - 1) ≡ c = omega arith in
      subst (λ (z : ℕ × ℕ). Longest f m z.0 z.1) (sym e)
      (record {
        ordered = omega arith;
        below = omega arith;
        inside = λ i a b. g i n (omega arith) (omega arith);
        before = λ i a. (o i).1 n (omega (arith, a));
        behind = λ a. subst (λ y. f y ≡ false) (sym d) (q (omega (arith, a, d)));
      })

  wide : (m k : ℕ) (p : ℕ × ℕ) → m ≡ k → Longest f m p.0 p.1 → Longest f k p.0 p.1
  wide m k p e r = subst (λ z. Longest f z p.0 p.1) e r

  pub runs-sound : (n c low : ℕ) → At f c low → (p : ℕ × ℕ) → Has p (runs f n c low) → Longest f (c + n) p.0 p.1
  runs-sound zero c low a p h = go (eqb low 0) refl
    where
      go : (b : Bool) → eqb low 0 ≡ b → Longest f (c + 0) p.0 p.1
      go true e = absurd (subst (Has p) (ap (runs f zero c) (eqb-true low 0 e) ∙ last_none c) h)
      go false e = one (subst (Has p) (last_one c low e) h)
        where
          one : Has p ((low - 1, c - 1) ∷ []) → Longest f (c + 0) p.0 p.1
          one (inr x4) = elim x4 [ ]
          one (inl q) = ended c low (c + 0) p a (eqb-false low 0 e) (omega arith) (λ k. absurd (omega (arith, k))) q
  runs-sound (suc n) c low a p h = go (λ d lo b k. runs-sound n d lo b p k) (f c) (eqb low 0) refl refl
    where
      count : suc c + n ≡ c + suc n
      count = omega arith

      go : ((d lo : ℕ) → At f d lo → Has p (runs f n d lo) → Longest f (d + n) p.0 p.1) → (x y : Bool) → f c ≡ x → eqb low 0 ≡ y → Longest f (c + suc n) p.0 p.1
      go ih true true q e =
          wide (suc c + n) (c + suc n) p count
          (ih (suc c) (suc c)
          (omega arith, λ i z l k. subst (λ j. f j ≡ true) (same i l k) q, λ i. (λ z. absurd (omega (arith, z)), λ z k. (a.2 i).0 (eqb-true low 0 e) (omega (arith, k))))
          (subst (Has p) (ap (runs f (suc n) c) (eqb-true low 0 e) ∙ goes-begin n c q) h))
        where
          same : (i : ℕ) → suc c ≤ suc i → i < suc c → c ≡ i
          same i l k = omega arith
      go ih true false q e =
          wide (suc c + n) (c + suc n) p count (ih (suc c) low (omega (arith, a.0), more, λ i. (λ z. absurd (eqb-false low 0 e z), λ z k. (a.2 i).1 z k)) (subst (Has p) (goes_on n c low q e) h))
        where
          more : (i : ℕ) → (low ≡ 0 → ⊥) → low ≤ suc i → i < suc c → f i ≡ true
          more i z l k =
              elim (dec_lt i c) [
                | yes j ↦ a.1 i z l j
                | no j ↦ let w : c ≡ i = omega arith in subst (λ y. f y ≡ true) w q
              ]
      go ih false true q e =
          wide (suc c + n) (c + suc n) p count (ih (suc c) 0 (at_none f c q) (subst (Has p) (ap (runs f (suc n) c) (eqb-true low 0 e) ∙ goes_none n c q) h))
      go ih false false q e = head (subst (Has p) (goes_end n c low q e) h)
        where
          head : Has p ((low - 1, c - 1) ∷ runs f n (suc c) 0) → Longest f (c + suc n) p.0 p.1
          head (inl w) = ended c low (c + suc n) p a (eqb-false low 0 e) (omega arith) (λ k. q) w
          head (inr w) = wide (suc c + n) (c + suc n) p count (ih (suc c) 0 (at_none f c q) w)

  -- where the runs that are left begin
  abbrev From : ℕ → ℕ → ℕ → Type 0
  From c low i = (low ≡ 0 → c ≤ i) × (low ≤ suc i)

  abbrev Covers : ℕ → List (ℕ × ℕ) → Type 0
  Covers i ps = (p : ℕ × ℕ) × Has p ps × (p.0 ≤ i) × (i ≤ p.1)

  pub runs-cover : (n c low i : ℕ) → low ≤ c → f i ≡ true → i < c + n → From c low i → Covers i (runs f n c low)
  runs-cover zero c low i l t h (a, b) = go (eqb low 0) refl
    where
      go : (x : Bool) → eqb low 0 ≡ x → Covers i (runs f zero c low)
      go true e = let k = a (eqb-true low 0 e) in absurd (omega arith)
      go false e = let z : low ≡ 0 → ⊥ = eqb-false low 0 e in subst (Covers i) (sym (last_one c low e)) ((low - 1, c - 1), inl refl, omega arith, omega arith)
  runs-cover (suc n) c low i l t h (a, b) = go (λ d lo u v w. runs-cover n d lo i u t v w) (f c) (eqb low 0) refl refl
    where
      go : ((d lo : ℕ) → lo ≤ d → i < d + n → From d lo i → Covers i (runs f n d lo)) → (x y : Bool) → f c ≡ x → eqb low 0 ≡ y → Covers i (runs f (suc n) c low)
      go ih true true q e =
          let z : low ≡ 0 = eqb-true low 0 e in let k = a z in
          subst (Covers i) (sym (ap (runs f (suc n) c) z ∙ goes-begin n c q)) (ih (suc c) (suc c) (omega arith) (omega arith) (λ y. absurd (omega arith), omega arith))
      go ih true false q e =
          let z : low ≡ 0 → ⊥ = eqb-false low 0 e in
          subst (Covers i) (sym (goes_on n c low q e)) (ih (suc c) low (omega arith) (omega arith) (λ y. absurd (z y), b))
      go ih false true q e =
          let z : low ≡ 0 = eqb-true low 0 e in let k = a z in
          let w : i ≡ c → ⊥ = λ y. true≢false (sym t ∙ ap f y ∙ q) in
          subst (Covers i) (sym (ap (runs f (suc n) c) z ∙ goes_none n c q)) (ih (suc c) 0 (omega arith) (omega arith) (λ y. omega arith, omega arith))
      go ih false false q e =
          let z : low ≡ 0 → ⊥ = eqb-false low 0 e in
          let w : i ≡ c → ⊥ = λ y. true≢false (sym t ∙ ap f y ∙ q) in
          elim (dec_lt i c) [
            | yes j ↦ subst (Covers i) (sym (goes_end n c low q e)) ((low - 1, c - 1), inl refl, omega arith, omega arith)
            | no j ↦ subst (Covers i) (sym (goes_end n c low q e)) (later (ih (suc c) 0 (omega arith) (omega arith) (λ y. omega arith, omega arith)))
          ]
        where
          later : Covers i (runs f n (suc c) 0) → Covers i ((low - 1, c - 1) ∷ runs f n (suc c) 0)
          later (p, m, u, v) = (p, inr m, u, v)

  -- a run that is left begins with the one at hand, or later
  pub runs-late : (n c low : ℕ) → low ≤ c → (p : ℕ × ℕ) → Has p (runs f n c low) → (low ≡ 0 → c ≤ p.0) × (low ≤ suc p.0)
  runs-late zero c low l p h = go (eqb low 0) refl
    where
      go : (b : Bool) → eqb low 0 ≡ b → (low ≡ 0 → c ≤ p.0) × (low ≤ suc p.0)
      go true e = absurd (subst (Has p) (ap (runs f zero c) (eqb-true low 0 e) ∙ last_none c) h)
      go false e = one (subst (Has p) (last_one c low e) h)
        where
          one : Has p ((low - 1, c - 1) ∷ []) → (low ≡ 0 → c ≤ p.0) × (low ≤ suc p.0)
          one (inr x4) = elim x4 [ ]
          one (inl q) = let w : p.0 ≡ low - 1 = ap (λ (z : ℕ × ℕ). z.0) q in (λ z. absurd (eqb-false low 0 e z), omega arith)
  runs-late (suc n) c low l p h = go (λ d lo u v. runs-late n d lo u p v) (f c) (eqb low 0) refl refl
    where
      go : ((d lo : ℕ) → lo ≤ d → Has p (runs f n d lo) → (lo ≡ 0 → d ≤ p.0) × (lo ≤ suc p.0)) → (x y : Bool) → f c ≡ x → eqb low 0 ≡ y → (low ≡ 0 → c ≤ p.0) × (low ≤ suc p.0)
      go ih true true q e =
          let z : low ≡ 0 = eqb-true low 0 e in
          let w = ih (suc c) (suc c) (omega arith) (subst (Has p) (ap (runs f (suc n) c) z ∙ goes-begin n c q) h) in
          (λ y. omega (arith, w.1), omega (arith, w.1))
      go ih true false q e =
          let w = ih (suc c) low (omega arith) (subst (Has p) (goes_on n c low q e) h) in (λ y. absurd (eqb-false low 0 e y), w.1)
      go ih false true q e =
          let z : low ≡ 0 = eqb-true low 0 e in
          let w = ih (suc c) 0 (omega arith) (subst (Has p) (ap (runs f (suc n) c) z ∙ goes_none n c q) h) in
          (λ y. omega (arith, w.0 refl), omega (arith, w.0 refl))
      go ih false false q e = head (subst (Has p) (goes_end n c low q e) h)
        where
          head : Has p ((low - 1, c - 1) ∷ runs f n (suc c) 0) → (low ≡ 0 → c ≤ p.0) × (low ≤ suc p.0)
          head (inl w) = let v : p.0 ≡ low - 1 = ap (λ (z : ℕ × ℕ). z.0) w in (λ y. absurd (eqb-false low 0 e y), omega arith)
          head (inr w) = let v = ih (suc c) 0 (omega arith) w in (λ y. absurd (eqb-false low 0 e y), omega (arith, v.0 refl))

  -- no two are the same: each begins before all that follow it
  abbrev pub Apart : List (ℕ × ℕ) → Type 0
  Apart [] = Unit {0}
  Apart (p ∷ ps) = ((q : ℕ × ℕ) → Has q ps → p.0 < q.0) × Apart ps

  pub runs-apart : (n c low : ℕ) → low ≤ c → Apart (runs f n c low)
  runs-apart zero c low l = go (eqb low 0) refl
    where
      go : (b : Bool) → eqb low 0 ≡ b → Apart (runs f zero c low)
      go true e = subst Apart (sym (ap (runs f zero c) (eqb-true low 0 e) ∙ last_none c)) tt
      go false e = subst Apart (sym (last_one c low e)) (λ q z. absurd z, tt)
  runs-apart (suc n) c low l = go (λ d lo u. runs-apart n d lo u) (f c) (eqb low 0) refl refl
    where
      go : ((d lo : ℕ) → lo ≤ d → Apart (runs f n d lo)) → (x y : Bool) → f c ≡ x → eqb low 0 ≡ y → Apart (runs f (suc n) c low)
      go ih true true q e = subst Apart (sym (ap (runs f (suc n) c) (eqb-true low 0 e) ∙ goes-begin n c q)) (ih (suc c) (suc c) (omega arith))
      go ih true false q e = subst Apart (sym (goes_on n c low q e)) (ih (suc c) low (omega arith))
      go ih false true q e = subst Apart (sym (ap (runs f (suc n) c) (eqb-true low 0 e) ∙ goes_none n c q)) (ih (suc c) 0 (omega arith))
      go ih false false q e =
          subst Apart (sym (goes_end n c low q e))
          (λ p h. (let v = runs-late n (suc c) 0 (omega arith) p h in omega (arith, v.0 refl)), ih (suc c) 0 (omega arith))

-- ---- of all 256 bytes

module _ (f : ℕ → Bool) where
  pub all-longest : (p : ℕ × ℕ) → Has p (runs f 256 0 0) → Longest f 256 p.0 p.1
  all-longest p h = runs-sound f 256 0 0 (omega arith, λ i z l k. absurd (z refl), λ i. (λ z k. absurd (omega (arith, k)), λ z. absurd (z refl))) p h

  -- two longest runs that share a byte are the same
  same-run : (i a b c d : ℕ) → Longest f 256 a b → Longest f 256 c d → a ≤ i → i ≤ b → c ≤ i → i ≤ d → (a ≡ c) × (b ≡ d)
  same-run i a b c d p q la lb lc ld = (
    elim (dec_lt a c) [
      | yes l ↦ absurd (true≢false (sym (p.inside (c - 1) (omega arith) (omega arith)) ∙ q.before (c - 1) (omega arith)))
      | no l ↦ elim (dec_lt c a) [
        | yes k ↦ absurd (true≢false (sym (q.inside (a - 1) (omega arith) (omega arith)) ∙ p.before (a - 1) (omega arith)))
        | no k ↦ omega (arith, lt_of_not-le (λ (x : suc a ≤ c). l x), lt_of_not-le (λ (x : suc c ≤ a). k x))
      ]
    ],
    elim (dec_lt b d) [
      | yes l ↦ absurd (true≢false (sym (q.inside (suc b) (omega arith) (omega arith)) ∙ p.behind (omega (arith, q.below))))
      | no l ↦ elim (dec_lt d b) [
        | yes k ↦ absurd (true≢false (sym (p.inside (suc d) (omega arith) (omega arith)) ∙ q.behind (omega (arith, p.below))))
        | no k ↦ omega (arith, lt_of_not-le (λ (x : suc b ≤ d). l x), lt_of_not-le (λ (x : suc d ≤ b). k x))
      ]
    ],
  )

  -- and each is among them
  pub longest-has : (low high : ℕ) → Longest f 256 low high → Has (low, high) (runs f 256 0 0)
  longest-has low high r =
      let t : f low ≡ true = r.inside low (omega arith) r.ordered in
      let (p, h, a, b) = runs-cover f 256 0 0 low (omega arith) t (omega (arith, r.ordered, r.below)) (λ z. omega arith, omega arith) in
      let e = same-run low p.0 p.1 low high (all-longest p h) r a b (omega arith) r.ordered in
      subst (λ (q : ℕ × ℕ). Has q (runs f 256 0 0)) (pair_path p.0 low p.1 high e.0 e.1) h
    where
      pair_path : (a b c d : ℕ) → a ≡ b → c ≡ d → ◌≡◌ {A = ℕ × ℕ} (a, c) (b, d)
      pair_path a b c d x y = rw (x, y)
