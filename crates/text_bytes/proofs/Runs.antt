-- The longest runs of a set of bytes: from the next byte that is in it to the next that is not. Assumes nothing.
use Prim.Native.Nat.{ℕ, zero, suc, ◌+◌, ◌-◌, ◌≤◌, ◌<◌}
use mathlib.Core.Path.{◌≡◌, refl, sym, ap, subst, ◌∙◌}
use mathlib.Core.Bool.{Bool, true, false, ◌||◌, not, cond}
use mathlib.Core.List.{[], ◌∷◌, ◌++◌}
use native.Mathlib.Omega.{arith}
use native.Mathlib.Nat.{lt_of_not-le}
use native.Mathlib.Decide.{dec_lt}
use lib.Dec.{eqb}
use borrow.Author.Tests.{ne_eqb}
use Rattle.sets.specs.Set.{byte_count, holds}
use Rattle.text.specs.Records.{runs}
use Rattle.sets_words.specs.inner.Next.{Next}

module _ (f : ℕ → Bool) where
  -- one byte: its place in the definition, without names for what is used twice
  step : (m c low : ℕ) → runs f (suc m) c low ≡ cond (f c || eqb low 0) [] ((low - 1, c - 1) ∷ []) ++ runs f m (suc c) (cond (f c) (cond (eqb low 0) (suc c) low) 0)
  unfolding runs
  step m c low = refl

  -- outside a run; where one begins; inside one
  step-out : (m c : ℕ) → f c ≡ false → runs f (suc m) c 0 ≡ runs f m (suc c) 0
  step-out m c h = step m c 0 ∙ ap (λ z. cond (z || true) [] ((0 - 1, c - 1) ∷ []) ++ runs f m (suc c) (cond z (suc c) 0)) h

  step_in : (m c : ℕ) → f c ≡ true → runs f (suc m) c 0 ≡ runs f m (suc c) (suc c)
  step_in m c h = step m c 0 ∙ ap (λ z. cond (z || true) [] ((0 - 1, c - 1) ∷ []) ++ runs f m (suc c) (cond z (suc c) 0)) h

  some : (low : ℕ) → eqb (suc low) 0 ≡ false
  some low = ne_eqb (suc low) 0 (λ z. omega arith)

  step-on : (m c low : ℕ) → f c ≡ true → runs f (suc m) c (suc low) ≡ runs f m (suc c) (suc low)
  step-on m c low h =
      step m c (suc low) ∙ ap (λ z. cond (z || eqb (suc low) 0) [] ((suc low - 1, c - 1) ∷ []) ++ runs f m (suc c) (cond z (cond (eqb (suc low) 0) (suc c) (suc low)) 0)) h
      ∙ ap (λ z. runs f m (suc c) (cond z (suc c) (suc low))) (some low)

  less : (low : ℕ) → suc low - 1 ≡ low
  less low = omega arith

  -- a run ends before a byte, or with the last one
  step_end : (m c low : ℕ) → f c ≡ false → runs f (suc m) c (suc low) ≡ (low, c - 1) ∷ runs f (suc m) c 0
  step_end m c low h =
      step m c (suc low) ∙ ap (λ z. cond (z || eqb (suc low) 0) [] ((suc low - 1, c - 1) ∷ []) ++ runs f m (suc c) (cond z (cond (eqb (suc low) 0) (suc c) (suc low)) 0)) h
      ∙ ap (λ z. cond z [] ((suc low - 1, c - 1) ∷ []) ++ runs f m (suc c) 0) (some low) ∙ ap (λ z. (z, c - 1) ∷ runs f m (suc c) 0) (less low)
      ∙ ap (λ z. (low, c - 1) ∷ z) (sym (step-out m c h))

  step-last : (c low : ℕ) → runs f 0 c (suc low) ≡ (low, c - 1) ∷ runs f 0 c 0
  unfolding runs
  step-last c low = ap (λ z. cond z [] ((suc low - 1, c - 1) ∷ [])) (some low) ∙ ap (λ z. (z, c - 1) ∷ []) (less low)

  -- k bytes outside, or inside
  skip : (k m c : ℕ) → ((q : ℕ) → c ≤ q → q < c + k → f q ≡ false) → runs f (k + m) c 0 ≡ runs f m (c + k) 0
  skip zero m c h = let a : 0 + m ≡ m = omega arith in let b : c ≡ c + 0 = omega arith in ap (λ z. runs f z c 0) a ∙ ap (λ z. runs f m z 0) b
  skip (suc k) m c h =
      let a : suc k + m ≡ suc (k + m) = omega arith in
      let b : suc c + k ≡ c + suc k = omega arith in
      ap (λ z. runs f z c 0) a ∙ step-out (k + m) c (h c (omega arith) (omega arith)) ∙ skip k m (suc c) (λ q u v. h q (omega arith) (omega arith)) ∙ ap (λ z. runs f m z 0) b

  stay : (k m c low : ℕ) → ((q : ℕ) → c ≤ q → q < c + k → f q ≡ true) → runs f (k + m) c (suc low) ≡ runs f m (c + k) (suc low)
  stay zero m c low h = let a : 0 + m ≡ m = omega arith in let b : c ≡ c + 0 = omega arith in ap (λ z. runs f z c (suc low)) a ∙ ap (λ z. runs f m z (suc low)) b
  stay (suc k) m c low h =
      let a : suc k + m ≡ suc (k + m) = omega arith in
      let b : suc c + k ≡ c + suc k = omega arith in
      ap (λ z. runs f z c (suc low)) a ∙ step-on (k + m) c low (h c (omega arith) (omega arith)) ∙ stay k m (suc c) low (λ q u v. h q (omega arith) (omega arith)) ∙ ap (λ z. runs f m z (suc low)) b

  pub runs_skip : (c d : ℕ) → c ≤ d → d ≤ 256 → ((q : ℕ) → c ≤ q → q < d → f q ≡ false) → runs f (256 - c) c 0 ≡ runs f (256 - d) d 0
  runs_skip c d h l g =
      let a : 256 - c ≡ (d - c) + (256 - d) = omega arith in
      let b : c + (d - c) ≡ d = omega arith in
      ap (λ z. runs f z c 0) a ∙ skip (d - c) (256 - d) c (λ q u v. g q u (omega arith)) ∙ ap (λ z. runs f (256 - d) z 0) b

  pub runs-one : (c e : ℕ) → c < e → e ≤ 256 → ((q : ℕ) → c ≤ q → q < e → f q ≡ true) → (e < 256 → f e ≡ false) → runs f (256 - c) c 0 ≡ (c, e - 1) ∷ runs f (256 - e) e 0
  runs-one c e h l g n =
      let a : 256 - c ≡ suc ((e - suc c) + (256 - e)) = omega arith in
      let b : suc c + (e - suc c) ≡ e = omega arith in
      ap (λ z. runs f z c 0) a ∙ step_in ((e - suc c) + (256 - e)) c (g c (omega arith) h) ∙ stay (e - suc c) (256 - e) (suc c) c (λ q u v. g q (omega arith) (omega arith)) ∙ ap (λ z. runs f (256 - e) z (suc c)) b
      ∙ elim (dec_lt e 256) [ yes k ↦ inside k | no k ↦ ends (omega (arith, lt_of_not-le (λ (z : suc e ≤ 256). k z))) ]
    where
      inside : e < 256 → runs f (256 - e) e (suc c) ≡ (c, e - 1) ∷ runs f (256 - e) e 0
      inside k = let a : 256 - e ≡ suc (255 - e) = omega arith in ap (λ z. runs f z e (suc c)) a ∙ step_end (255 - e) e c (n k) ∙ ap (λ z. (c, e - 1) ∷ runs f z e 0) (sym a)

      ends : 256 ≤ e → runs f (256 - e) e (suc c) ≡ (c, e - 1) ∷ runs f (256 - e) e 0
      ends k = let a : 256 - e ≡ 0 = omega arith in ap (λ z. runs f z e (suc c)) a ∙ step-last e c ∙ ap (λ z. (c, e - 1) ∷ runs f z e 0) (sym a)

-- ---- by the next byte that is in the set, and the next that is not

not-false : (a b : Bool) → a ≡ not b → a ≡ false → b ≡ true
not-false a true e h = refl
not-false a false e h = sym h ∙ e

not-true : (a b : Bool) → a ≡ not b → a ≡ true → b ≡ false
not-true a true e h = sym h ∙ e
not-true a false e h = refl

module _ (s g : ℕ) (apart : (c : ℕ) → c < 256 → holds g c ≡ not (holds s c)) where
  pub runs-first : (c : ℕ) → Next s 0 byte_count c → runs (holds s) 256 0 0 ≡ runs (holds s) (256 - c) c 0
  runs-first c n = runs_skip (holds s) 0 c (omega arith) n.most n.skipped

  -- the run that begins at c ends before e, which is past c; the next begins at d
  pub run_past : (c e : ℕ) → c < 256 → holds s c ≡ true → Next g c byte_count e → c < e
  run_past c e l h n = elim (dec_lt c e) [ yes k ↦ k | no k ↦ absurd (no_gap (omega (arith, n.least (omega arith), lt_of_not-le (λ (z : suc c ≤ e). k z)))) ]
    where
      no_gap : e ≡ c → ⊥
      no_gap q =
          let a : holds g c ≡ true = subst (λ z. holds g z ≡ true) q (n.there (omega arith)) in
          let b : holds s c ≡ false = not-true (holds g c) (holds s c) (apart c l) a in
          let z : ◌≡◌ {A = Bool} true false = sym h ∙ b in
          let w : ◌≡◌ {A = ℕ} 0 1 = cc in omega arith

  pub runs-next : (c e d : ℕ) → c < 256 → holds s c ≡ true → Next g c byte_count e → Next s e byte_count d → runs (holds s) (256 - c) c 0 ≡ (c, e - 1) ∷ runs (holds s) (256 - d) d 0
  runs-next c e d l h n m =
      runs-one (holds s) c e (run_past c e l h n) n.most (λ q u v. not-false (holds g q) (holds s q) (apart q (omega (arith, n.most))) (n.skipped q u v)) (λ k. not-true (holds g e) (holds s e) (apart e k) (n.there k))
      ∙ ap (λ z. (c, e - 1) ∷ z) (runs_skip (holds s) e d (m.least n.most) m.most m.skipped)

pub runs_none : (f : ℕ → Bool) (c : ℕ) → 256 ≤ c → runs f (256 - c) c 0 ≡ []
unfolding runs
runs_none f c h = let a : 256 - c ≡ 0 = omega arith in ap (λ z. runs f z c 0) a
