-- A table of rules and a table of words that says what each rule tests: a number is given exactly when its words hold and those of no earlier row do. Assumes nothing.
use Prim.Native.Nat.{ℕ, zero, suc, ◌<◌}
use mathlib.Core.Path.{◌≡◌, refl, sym, ◌∙◌}
use mathlib.Core.Bool.{Bool, true, false, cond, true≢false}
use mathlib.Core.List.{List, [], ◌∷◌, ◌++◌}
use mathlib.Core.Logic.{◌⊎◌, inl, inr, ◌↔◌}
use native.Mathlib.Omega.{arith}
use lib.ListN.{length}
use Rattle.rules.specs.Rules.{Rule, verdict, applies}
use Rattle.rules.specs.Words.{Row, None, First, InWords}
use Rattle.rules.proofs.Scanning.{choose}
use Rattle.rules.proofs.Rules.{distinct, passes-exactly}

-- row by row: the same number, and the test holds exactly when the words do
abbrev pub Says : List Rule → List Row → Type 0
Says [] [] = Unit {0}
Says (r ∷ rs) (w ∷ ws) = (r.0 ≡ w.0) × ((r.1 ≡ true) ↔ w.1) × Says rs ws
Says [] (w ∷ ws) = ⊥
Says (r ∷ rs) [] = ⊥

pub says-append : (rs qs : List Rule) (ws vs : List Row) → Says rs ws → Says qs vs → Says (rs ++ qs) (ws ++ vs)
says-append [] qs [] vs s t = t
says-append (r ∷ rs) qs (w ∷ ws) vs s t = (s.0, s.1, says-append rs qs ws vs s.2 t)
says-append [] qs (w ∷ ws) vs s t = absurd s
says-append (r ∷ rs) qs [] vs s t = absurd s

-- no test holds exactly when no words do
says_none : (rs : List Rule) (ws : List Row) → Says rs ws → ((i : ℕ) → i < length rs → applies rs i ≡ false) ↔ None ws
says_none [] [] s = (λ f. tt, λ n i h. absurd (omega arith))
says_none (r ∷ rs) (w ∷ ws) s =
    let ih = says_none rs ws s.2 in (
      λ f. (λ x. true≢false (sym (s.1.1 x) ∙ f 0 (omega arith)), ih.0 (λ i h. f (suc i) (omega arith))),
      λ n. at_each r.1 refl n (ih.1 n.1),
    )
  where
    at_each : (b : Bool) → r.1 ≡ b → (w.1 → ⊥) × None ws → ((i : ℕ) → i < length rs → applies rs i ≡ false) → (i : ℕ) → i < length (r ∷ rs) → applies (r ∷ rs) i ≡ false
    at_each true e n f i h = absurd (n.0 (s.1.0 e))
    at_each false e n f zero h = e
    at_each false e n f (suc i) h = f i (omega arith)
says_none [] (w ∷ ws) s = absurd s
says_none (r ∷ rs) [] s = absurd s

-- a number is given exactly when it is that of the first row whose words hold
says_first : (rs : List Rule) (ws : List Row) → Says rs ws → (n : ℕ) → (n ≡ 0 → ⊥) → (verdict rs ≡ n) ↔ First ws n
unfolding verdict
says_first [] [] s n z = (λ e. absurd (z (sym e)), λ x. absurd x)
says_first (r ∷ rs) (w ∷ ws) s n z = go r.1 refl (says_first rs ws s.2 n z)
  where
    go : (b : Bool) → r.1 ≡ b → (verdict rs ≡ n) ↔ First ws n → (cond b r.0 (verdict rs) ≡ n) ↔ (((w.0 ≡ n) × w.1) ⊎ ((w.1 → ⊥) × First ws n))
    go true e ih = (λ q. inl (sym s.0 ∙ q, s.1.0 e), λ x. choose x (λ y. s.0 ∙ y.0) (λ y. absurd (y.0 (s.1.0 e))))
    go false e ih = (
      λ q. inr (λ x. true≢false (sym (s.1.1 x) ∙ e), ih.0 q),
      λ x. choose x (λ y. absurd (true≢false (sym (s.1.1 y.1) ∙ e))) (λ y. ih.1 y.1),
    )
says_first [] (w ∷ ws) s n z = absurd s
says_first (r ∷ rs) [] s n z = absurd s

pub tells : (rs : List Rule) (ws : List Row) → distinct rs ≡ true → Says rs ws → InWords ws (verdict rs)
tells rs ws d s =
    let p = passes-exactly rs d in
    let n = says_none rs ws s in
    record { passes = (λ e. n.0 (p.0 e), λ f. p.1 (n.1 f)); gives = says_first rs ws s }
