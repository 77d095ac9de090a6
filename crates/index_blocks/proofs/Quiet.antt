-- Bytes that tell nothing: the words stay, and nothing is asked of the room. Assumes nothing.
use Rattle.std.proofs.Common.{◌≡◌, ℕ, zero, suc, ◌+◌, ◌*◌, ◌<◌, ◌≤◌, false, List, [], ◌∷◌, ◌++◌, length, get_or, take, drop, refl, ap, ◌∙◌, arith}
use Rattle.sets.specs.Set.{signatures, members}
use Rattle.sets.proofs.Sets.{holds-empty}
use Rattle.sets.proofs.Parts.{members-none}
use Rattle.feed.specs.Engine.{Engine, due, pairs_at}
use Rattle.feed.specs.inner.Going.{Going}
use Rattle.feed.proofs.Going.{more}

whole : (n : ℕ) (xs : List ℕ) → take n xs ++ drop n xs ≡ xs
whole zero xs = refl
whole (suc n) [] = refl
whole (suc n) (x ∷ xs) = ap (λ (ys : List ℕ). x ∷ ys) (whole n xs)

module _ {C : Type 0} {E : Engine C} {x₀ : C} {k₀ : ℕ} {piece out₀ : List ℕ} {x : C} {out : List ℕ} {i w n : ℕ} (g : Going E x₀ k₀ piece out₀ x out i w n) where
  none-due : E.alerts x (get_or piece i 0) ≡ 0 → due E x (get_or piece i 0) ≡ []
  unfolding due
  none-due z = ap (members signatures) z ∙ members-none signatures 0 (λ s l. holds-empty s)

  pub more-quiet : i < length piece → E.halts x ≡ false → E.alerts x (get_or piece i 0) ≡ 0
      → Going E x₀ k₀ piece out₀ (E.next x (get_or piece i 0)) out (suc i) w (n + E.cost x)
  unfolding pairs_at
  more-quiet l h z =
      let d = none-due z in
      let a : w + 0 ≡ w = omega arith in
      rw (d, a, whole w out) at (more g l h (rw d (omega arith)))

-- k bytes through the configurations f 0 to f k, each of which tells nothing, does not halt and costs m
pub quiet-run : {C : Type 0} {E : Engine C} {x₀ : C} {k₀ : ℕ} {piece out₀ out : List ℕ} {i w n : ℕ} (f : ℕ → C) (m : ℕ) → Going E x₀ k₀ piece out₀ (f 0) out i w n
    → (k : ℕ) → i + k ≤ length piece
    → ((j : ℕ) → j < k → (E.halts (f j) ≡ false) × (E.alerts (f j) (get_or piece (i + j) 0) ≡ 0) × (E.next (f j) (get_or piece (i + j) 0) ≡ f (suc j)) × (E.cost (f j) ≡ m))
    → Going E x₀ k₀ piece out₀ (f k) out (i + k) w (n + k * m)
quiet-run {i = i} {n = n} f m g zero l q =
    let a : i + 0 ≡ i = omega arith in
    let b : n + 0 * m ≡ n = omega arith in
    rw (a, b) g
quiet-run {i = i} {n = n} f m g (suc k) l q =
    let s = q k (omega arith) in
    let a : i + suc k ≡ suc (i + k) = omega arith in
    let b : n + suc k * m ≡ n + k * m + m = omega arith in
    let h = more-quiet (quiet-run f m g k (omega arith) (λ j lj. q j (omega (arith, lj)))) (omega arith) s.0 s.1 in
    rw (a, b) (rw (s.2, s.3) at h)

-- k bytes at which the engine stays at one configuration
pub quiet-stay : {C : Type 0} {E : Engine C} {x₀ : C} {k₀ : ℕ} {piece out₀ out : List ℕ} {x : C} {i w n : ℕ} → Going E x₀ k₀ piece out₀ x out i w n
    → (k : ℕ) → i + k ≤ length piece → E.halts x ≡ false
    → ((j : ℕ) → j < k → (E.alerts x (get_or piece (i + j) 0) ≡ 0) × (E.next x (get_or piece (i + j) 0) ≡ x))
    → Going E x₀ k₀ piece out₀ x out (i + k) w (n + k * E.cost x)
quiet-stay {E = E} {x = x} g k l h q = quiet-run (λ j. x) (E.cost x) g k l (λ j lj. (h, (q j lj).0, (q j lj).1, refl))
