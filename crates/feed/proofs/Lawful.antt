-- Where an automaton can be: it starts there, each byte leads on there, and what the start has and each move keeps holds there. Assumes nothing.
use Prim.Native.Nat.{ℕ, zero, suc, ◌<◌}
use mathlib.Core.Path.{refl, ap}
use mathlib.Core.List.{[], ◌∷◌, ◌++◌}
use lib.Dec.{lit<}
use Rattle.feed.specs.Engine.{run}
use Rattle.feed.specs.Calls.{Bytes}
use Rattle.feed.specs.Lawful.{Automata, Reached}
use Rattle.feed.proofs.Runs.{run-append, bytes-append}
use Rattle.feed.proofs.Whole.{run-good}

module _ {S D : Type 0} (A : Automata S D) (s : S) where
  pub reached-start : Reached A s (A.start s)
  unfolding run
  reached-start = ([], (λ i. lit< tt), refl)

  pub reached-next : (x : D) (c : ℕ) → c < 256 → Reached A s x → Reached A s ((A.engine s).next x c)
  unfolding run
  reached-next x c l r = (
    r.0 ++ (c ∷ []),
    bytes-append r.0 (c ∷ []) r.1 (one c l),
    rw (run-append (A.engine s) (A.start s) r.0 (c ∷ [])) (ap (λ (y : D). (A.engine s).next y c) r.2),
  )
    where
      one : (c : ℕ) → c < 256 → Bytes (c ∷ [])
      one c l zero = l
      one c l (suc i) = lit< tt

  pub reached_has : (P : D → Type 0) → ((x : D) (c : ℕ) → c < 256 → P x → P ((A.engine s).next x c)) → P (A.start s) → (x : D) → Reached A s x → P x
  reached_has P k p x r = rw r.2 (run-good (A.engine s) P k (A.start s) r.0 r.1 p)
