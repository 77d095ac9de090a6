-- What is handed over of some texts: a front of them, and each text exactly when none before it was cut; and texts one after the other. Assumes nothing.
use Prim.Native.Nat.{ℕ, zero, suc, ◌≤◌, ◌<◌}
use mathlib.Core.Path.{◌≡◌, refl, sym, ap, ◌∙◌}
use mathlib.Core.Bool.{Bool, true, false, cond, true≢false}
use mathlib.Core.List.{List, [], ◌∷◌, ◌++◌, append-nil, append_assoc}
use mathlib.Core.Logic.{◌↔◌}
use native.Mathlib.Omega.{arith}
use native.Mathlib.Nat.{lt_of_not-le}
use native.Mathlib.Decide.{dec_lt}
use lib.ListN.{length, drop, get_or, length-append}
use Rattle.program_text.specs.Hand.{is_cut, handed, joined}

-- a front of the texts
pub handed-front : (ts : List (List ℕ)) (answers : List ℕ) → (rest : List (List ℕ)) × (ts ≡ handed ts answers ++ rest)
unfolding handed
handed-front [] answers = ([], refl)
handed-front (t ∷ ts) [] = (ts, refl)
handed-front (t ∷ ts) (a ∷ answers) = go (is_cut a) (handed-front ts answers)
  where
    go : (b : Bool) → ((rest : List (List ℕ)) × (ts ≡ handed ts answers ++ rest)) → (rest : List (List ℕ)) × (t ∷ ts ≡ (t ∷ cond b [] (handed ts answers)) ++ rest)
    go true h = (ts, refl)
    go false h = (h.0, ap (λ (us : List (List ℕ)). t ∷ us) h.1)

-- no answer before number i is that a text was cut
abbrev pub AllWhole : List ℕ → ℕ → Type 0
AllWhole answers i = (j : ℕ) → j < i → is_cut (get_or answers j 0) ≡ false

whole-more : (a : ℕ) (answers : List ℕ) (i : ℕ) → is_cut a ≡ false → AllWhole answers i → AllWhole (a ∷ answers) (suc i)
whole-more a answers i e w zero l = e
whole-more a answers i e w (suc j) l = w j (omega (arith, l))

-- text i is handed over exactly when it is there and none before it was cut
handed-then : (ts : List (List ℕ)) (answers : List ℕ) (i : ℕ) → i < length (handed ts answers) → (i < length ts) × AllWhole answers i
unfolding handed
handed-then [] answers i l = absurd (omega (arith, l))
handed-then (t ∷ ts) answers zero l = (omega arith, λ j h. absurd (omega (arith, h)))
handed-then (t ∷ ts) [] (suc i) l = absurd (omega (arith, l))
handed-then (t ∷ ts) (a ∷ answers) (suc i) l = go (is_cut a) refl (handed-then ts answers i) l
  where
    go : (b : Bool) → is_cut a ≡ b → (i < length (handed ts answers) → (i < length ts) × AllWhole answers i)
        → suc i < length (t ∷ cond b [] (handed ts answers)) → (suc i < length (t ∷ ts)) × AllWhole (a ∷ answers) (suc i)
    go false e ih m = let h = ih (omega (arith, m)) in (omega (arith, h.0), whole-more a answers i e h.1)
    go true e ih m = absurd (omega (arith, m))

handed-if : (ts : List (List ℕ)) (answers : List ℕ) (i : ℕ) → i < length ts → AllWhole answers i → i < length (handed ts answers)
unfolding handed
handed-if [] answers i l w = absurd (omega (arith, l))
handed-if (t ∷ ts) [] zero l w = omega arith
handed-if (t ∷ ts) [] (suc i) l w = absurd (true≢false (w 0 (omega arith)))
handed-if (t ∷ ts) (a ∷ answers) zero l w = omega arith
handed-if (t ∷ ts) (a ∷ answers) (suc i) l w =
    let h = handed-if ts answers i (omega (arith, l)) (λ j p. w (suc j) (omega (arith, p))) in
    rw (w 0 (omega arith)) (omega (arith, h))

pub handed-exactly : (ts : List (List ℕ)) (answers : List ℕ) (i : ℕ) → (i < length (handed ts answers)) ↔ ((i < length ts) × AllWhole answers i)
handed-exactly ts answers i = (handed-then ts answers i, λ p. handed-if ts answers i p.0 p.1)

-- after one that is cut, nothing is handed over
pub handed-cut : (ts : List (List ℕ)) (answers : List ℕ) (i : ℕ) → is_cut (get_or answers i 0) ≡ true → length (handed ts answers) ≤ suc i
handed-cut ts answers i e =
    elim (dec_lt (suc i) (length (handed ts answers))) [
      | yes l ↦ absurd (true≢false (sym e ∙ (handed-then ts answers (suc i) l).1 i (omega arith)))
      | no h ↦ omega (arith, lt_of_not-le (λ (l : suc (suc i) ≤ length (handed ts answers)). h l))
    ]

-- where the last is handed over, all are
pub handed-all : (ts : List (List ℕ)) (answers : List ℕ) → length ts ≤ length (handed ts answers) → handed ts answers ≡ ts
handed-all ts answers l =
    let f = handed-front ts answers in
    sym (f.1 ∙ none f.0 (omega (arith, l, ap length f.1, length-append (handed ts answers) f.0)))
  where
    none : (rest : List (List ℕ)) → length rest ≡ 0 → handed ts answers ++ rest ≡ handed ts answers
    none [] e = append-nil (handed ts answers)
    none (t ∷ rest) e = absurd (omega (arith, e))

-- the first of some texts is handed over, and the others unless it is cut
pub handed-at : (t : List ℕ) (ts : List (List ℕ)) (answers : List ℕ) (i : ℕ)
    → handed (t ∷ ts) (drop i answers) ≡ t ∷ cond (is_cut (get_or answers i 0)) [] (handed ts (drop (suc i) answers))
unfolding handed
handed-at t ts [] zero = refl
handed-at t ts [] (suc i) = refl
handed-at t ts (a ∷ answers) zero = refl
handed-at t ts (a ∷ answers) (suc i) = handed-at t ts answers i

-- ---- one after the other

pub joined-append : (ss ts : List (List ℕ)) → joined (ss ++ ts) ≡ joined ss ++ joined ts
unfolding joined
joined-append [] ts = refl
joined-append (s ∷ ss) ts = rw (joined-append ss ts) (sym (append_assoc s (joined ss) (joined ts)))
