-- A table of words may say its last row otherwise, where that is the same once no row before it is given. Assumes nothing.
use Prim.Native.Nat.{ℕ}
use mathlib.Core.List.{List, [], ◌∷◌, ◌++◌}
use mathlib.Core.Logic.{inl, inr, ◌↔◌}
use Rattle.rules.specs.Words.{Row, None, First, InWords}
use Rattle.rules.proofs.Scanning.{choose}

none_last : (n : ℕ) (A B : Type 0) (ws : List Row) → (None ws → B → A) → None (ws ++ ((n, A) ∷ [])) → None (ws ++ ((n, B) ∷ []))
none_last n A B [] h x = (λ b. x.0 (h tt b), tt)
none_last n A B (w ∷ ws) h x = (x.0, none_last n A B ws (λ y. h (x.0, y)) x.1)

first-last : (n : ℕ) (A B : Type 0) (ws : List Row) → (None ws → A → B) → (m : ℕ) → First (ws ++ ((n, A) ∷ [])) m → First (ws ++ ((n, B) ∷ [])) m
first-last n A B [] h m x = choose x (λ y. inl (y.0, h tt y.1)) (λ y. absurd y.1)
first-last n A B (w ∷ ws) h m x = choose x (λ y. inl y) (λ y. inr (y.0, first-last n A B ws (λ z. h (y.0, z)) m y.1))

pub said-last : (n : ℕ) (A B : Type 0) (ws : List Row) → (None ws → A ↔ B) → (r : ℕ) → InWords (ws ++ ((n, A) ∷ [])) r → InWords (ws ++ ((n, B) ∷ [])) r
said-last n A B ws h r s =
    record {
      passes = (λ e. none_last n A B ws (λ y. (h y).1) (s.passes.0 e), λ x. s.passes.1 (none_last n B A ws (λ y. (h y).0) x));
      gives = λ m z. (λ e. first-last n A B ws (λ y. (h y).0) m ((s.gives m z).0 e), λ x. (s.gives m z).1 (first-last n B A ws (λ y. (h y).1) m x));
    }
